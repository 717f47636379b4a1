use Rattle.std.proofs.Common.{◌≡◌, ◌∙◌, sym, ap, true, List, ℕ}
use Rattle.http_bodies.specs.Readings.{read, start_of}
use Rattle.http_bodies.specs.Stops.{is_bad}
use Rattle.http_bodies.specs.declared.coding.Coding.{Coding}
use Rattle.exchange_machine.proofs.SideLemmas.{look_broken}
use Rattle.exchange_machine.proofs.asking.look_behind.Goals as goal

pub returns-then-breaks-clause-turn : goal.returns-then-breaks-clause-turn
returns-then-breaks-clause-turn c h fresh is =
    let f = c.args.waiting.asked.framing in
    let behind = c.args.waiting.asked.held.items in
    let broken : is_bad (read (start_of f true) behind).coding ≡ true =
    ap (λ (l : List ℕ). is_bad (read (start_of f true) l).coding) (sym c.as_slice.ensures.value)
    ∙ ap (λ (k : Coding). is_bad (read k c.as_slice.result.now).coding) (sym c.new-coding.ensures) ∙ sym c.breaks.ensures ∙ c.if-breaks.true in
    record { reason = look_broken c.args.waiting h is broken; fresh = fresh }
