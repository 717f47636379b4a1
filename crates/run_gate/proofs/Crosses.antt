-- A site may be lent to threads.
use denote.RattleType.{RattleType}
use denote.Ref.{NamedLft}
use denote.Param.Send.{IsSync, sendable}
use denote.Param.SendFields.{declared_sync}
use Rattle.std.proofs.Crossing.{crosses}
use Rattle.grant_board.specs.declared.board.BoardName as board_name
use Rattle.locked_book.specs.declared.name.DeskName as desk_name
use Rattle.relay_workers.proofs.Crosses.{proxy_sync}
use Rattle.run_gate.proofs.front.GateShared.TheSendSync as front
use Rattle.run_gate.specs.contracts.site.Site as site

pub site_sync : (a : NamedLft) (N : RattleType) (d : desk_name.Ghosts N.Denot) (g : board_name.Ghosts N.Denot) → IsSync (site.the_row a N d g)
site_sync a N d g = declared_sync (site.the_type a N d g) (
  search (proxy_sync N d g, crosses, sendable) depth 60 fits 20000,
  (
    search (front.the_sync, crosses, sendable) depth 60 fits 20000,
    tt,
  ),
)
