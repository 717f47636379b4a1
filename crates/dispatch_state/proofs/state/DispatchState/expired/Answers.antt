use Rattle.std.proofs.Common.{Bool, IsTrue, max, ap, sym, ◌∙◌, subst}
use Rattle.log_entries.specs.Histories.{SomeExpires}
use Rattle.dispatch_state.proofs.Expiring.{first_has_row, some_expires, last_moment, in_turn_there}
use Rattle.dispatch_state.proofs.state.DispatchState.expired.Goals as goal

pub expired_at-requires : goal.expired_at-requires
expired_at-requires g c =
    first_has_row c.args.self.now c.self.inside.waiting.order (in_turn_there _ _ c.self.invariant c.args.self.now c.self.view_is) c.oldest.result
    c.oldest.ensures.oldest

pub returns : goal.returns
returns g c =
    let stays = in_turn_there _ _ c.self.invariant c.args.self.now c.self.view_is in
    let when = c.later.ensures.later ∙ ap (λ n. max n c.args.moment) (last_moment _ _ c.self.invariant c.args.self.now c.self.view_is) in
    subst (λ (b : Bool). (IsTrue b → SomeExpires c.args.self.now c.args.moment) × (SomeExpires c.args.self.now c.args.moment → IsTrue b))
    (sym c.is_some.ensures)
    (some_expires c.args.self.now c.self.inside.waiting.order stays c.later.result c.args.moment c.oldest.result c.expired_at.result c.oldest.ensures.oldest
    when c.expired_at.ensures)
