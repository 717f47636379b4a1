use Rattle.std.proofs.Common.{◌∙◌, sym, take}
use Rattle.exchange_machine.specs.Histories.{client_came}
use Rattle.exchange_machine.proofs.EventLemmas.{asking_wet}
use Rattle.exchange_machine.proofs.HeadEnds.{no_head_yet, may_still}
use Rattle.exchange_machine.proofs.asking.Asking.head_bytes.Goals as goal

pub returns-in-Ok-clause-turn : goal.returns-in-Ok-clause-turn
returns-in-Ok-clause-turn c h is =
    let bytes = take c.min-used.result c.args.input.now in
    let more = asking_wet c.args.self h bytes _ is c.in-Ok.ensures.items in
    c.look_further.ensures.turn (client_came h bytes) more.0 more.1 (λ dry. (
      no_head_yet h.client_in bytes is.none (sym c.has_feed.ensures ∙ dry),
      may_still h.client_in bytes is.may (sym c.has_feed.ensures ∙ dry),
    ))
