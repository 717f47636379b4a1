use Rattle.std.proofs.Common.{◌≡◌, ◌∙◌, Result, Err, inl, sym, ap, subst}
use Rattle.std.specs.Global.{Box}
use Rattle.dispatch_state.specs.declared.position.Ticketed.{Ticketed}
use Rattle.log_entries.specs.declared.refusal.Refusal.{Refusal}
use Rattle.loop_table.specs.TokenTables.{HasValue}
use Rattle.loop_shared.specs.Admissions.{AsksPlace}
use Rattle.loop_shared.specs.Outsides.{HasGone}
use Rattle.loop_shared.specs.declared.outside.Outside.{Outside}
use Rattle.loop_shared.specs.declared.outside.Standing.{Standing}
use Rattle.loop_shared.proofs.Standing.{same_value}
use Rattle.loop_shared.proofs.first_outside.admit_one.Goals as goal

-- the first one stands there, so it is taken out
pub unreachable-requires : goal.unreachable-requires
unreachable-requires g c =
    let first = c.in-Some.ensures.some in
    c.in-None.ensures.none.0 first.standing
    (subst (λ (it : Outside). HasValue it.standing c.in-Some.token first.standing) (sym c.in-Some.ensures.same) first.stands)

pub returns-then-lacks_place-clause-err : goal.returns-then-lacks_place-clause-err
returns-then-lacks_place-clause-err g c = (
  inl (
    c.in-Some.deferred,
    c.in-Some.token,
    c.in-Some.ensures.some,
    subst (λ (answer : Result Ticketed Refusal). AsksPlace g.N.BoardName.terms g.N.DeskName.setup c.in-Some.deferred answer (g.G.Gate.notes c.args.gate.now) (g.G.Gate.notes c.arrive_late-arrived.new.gate))
        (c.lacks_place.ensures.full c.if-lacks_place.true) c.arrive_late-arrived.ensures.answered,
  ),
  c.in-Some.ensures.same,
)

pub returns-clause-ok : goal.returns-clause-ok
returns-clause-ok g c =
    let first = c.in-Some.ensures.some in
    let gone = subst (λ (it : Outside). HasGone it c.take.new.self c.in-Some.token c.in-Some-take.outsider) c.in-Some.ensures.same c.in-Some-take.ensures.some in
    let one = same_value c.args.outside.now.standing c.in-Some.token first.standing gone.standing first.stands gone.stood in
    record {
      deferred = c.in-Some.deferred;
      token = c.in-Some.token;
      first = first;
      gone = gone;
      pinned = ap (λ (it : _). it.pin) first.asks ∙ ap (λ (it : Box Standing). it.value.outsider.pin) one ∙ ap (λ (it : _). it.pin) gone.held;
      asked = c.arrive_late-arrived.ensures.answered;
      admitted = c.arrive_late-arrived.ensures.ok;
      placed = c.lacks_place.ensures.other c.if-lacks_place.false;
    }
