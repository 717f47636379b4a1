use Rattle.std.proofs.Common.{◌<◌, length, sym, ◌∙◌, arith}
use Rattle.slot_ledger.specs.Ledgers.{scene_in}
use Rattle.log_entries.proofs.Choices.{room_there}
use Rattle.server_pick.proofs.balance.candidates.Goals as goal

pub of-requires : goal.of-requires
of-requires g c =
    let within : c.in-Some.server < length c.args.ledger.now.setup.servers =
    room_there (scene_in c.args.ledger.now) c.in-Some.server (sym c.has_room.ensures.room ∙ c.if-has_room.true) in
    let few = c.has_room.ensures.few in
    omega arith
