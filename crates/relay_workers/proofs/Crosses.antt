-- A proxy may be lent to other threads.
use denote.RattleType.{RattleType}
use denote.Param.Send.{IsSync, sendable}
use denote.Param.SendFields.{declared_sync}
use Rattle.std.proofs.Crossing.{crosses}
use Rattle.grant_board.specs.declared.board.BoardName as board_name
use Rattle.locked_book.specs.declared.name.DeskName as desk_name
use Rattle.shared_desk.proofs.Crosses.{desk_sync}
use Rattle.proxy_config.proofs.parts.Config.TheSendSync as config
use Rattle.shared_desk.proofs.keys.DeskKey.TheSendSync as key
use Rattle.relay_workers.specs.contracts.proxy.Proxy as proxy

pub proxy_sync : (N : RattleType) (d : desk_name.Ghosts N.Denot) (g : board_name.Ghosts N.Denot) → IsSync (proxy.the_row N d g)
proxy_sync N d g = declared_sync (proxy.the_type N d g) (search (crosses, sendable) depth 60 fits 20000, (desk_sync N d g, (search (key.the_sync, crosses, sendable) depth 60 fits 20000, (config.the_sync, (search (crosses, sendable) depth 60 fits 20000, tt)))))
