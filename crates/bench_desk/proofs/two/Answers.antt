use Rattle.std.proofs.Common.{rules}
use denote.Param.Send.{IsSync, sendable}
use Rattle.std.proofs.Crossing.{crosses}
use Rattle.grant_board.proofs.relay.RelaySeat.TheSendSync as seat
use Rattle.shared_desk.proofs.Crosses.{desk_sync}
use Rattle.shared_desk.proofs.keys.DeskKeys.TheSendSync as desk_keys
use Rattle.bench_desk.proofs.two.Goals as goal

-- a thread is lent the desk, and given its seats
pub join-some-requires-send-F : goal.join-some-requires-send-F
join-some-requires-send-F g c κs within =
    let s : IsSync g.row.R = search (rules, c.type_bounds.sync-R) parts 8 in
    search (desk_sync, desk_keys.the_sync, seat.the_send, crosses, sendable) depth 60 fits 20000
