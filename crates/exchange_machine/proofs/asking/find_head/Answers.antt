use Rattle.std.proofs.Common.{◌≡◌, ◌∙◌, sym, ap, Some, List, ℕ, subst}
use Rattle.http_texts.specs.Framings.{request_framing}
use Rattle.req_view.specs.Heads.{BeginsWith, Waits}
use Rattle.exchange_machine.proofs.HeadEnds.{may_come}
use Rattle.exchange_machine.proofs.SideLemmas.{look_whole}
use Rattle.exchange_machine.proofs.asking.find_head.Goals as goal

pub returns-in-Some-clause-turn : goal.returns-in-Some-clause-turn
returns-in-Some-clause-turn c h fresh came =
    let w = c.waiting_with.result in
    let view = c.in-Whole.view in
    let begins : BeginsWith c.args.held.items view c.in-Whole.len =
    subst (λ (l : List ℕ). BeginsWith l view c.in-Whole.len) c.as_slice.ensures.value c.in-Whole.ensures in
    let framed : request_framing w.asked.view ≡ Some w.asked.framing =
    ap request_framing c.waiting_with.ensures.view ∙ (sym c.request_framing.ensures ∙ c.in-Some.is) ∙ ap Some (sym c.waiting_with.ensures.framing) in
    look_whole w h view c.args.held.items c.in-Whole.len begins framed c.waiting_with.ensures.view c.waiting_with.ensures.held fresh came

pub returns-in-More-clause-turn : goal.returns-in-More-clause-turn
returns-in-More-clause-turn c h fresh came =
    let waits : Waits h.client_in = subst Waits (c.as_slice.ensures.value ∙ sym came) c.in-More.ensures in
    record { fresh = fresh; held = came; none = waits.none; may = may_come h.client_in waits }
