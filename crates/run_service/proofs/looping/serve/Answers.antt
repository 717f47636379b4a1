use denote.Param.{param}
use mir.Syntax.{named}
use Rattle.loop_events.proofs.Crosses.{shared_sync}
use Rattle.run_service.proofs.looping.serve.Goals as goal

pub run_all-requires-sync-S : goal.run_all-requires-sync-S
run_all-requires-sync-S g c κs within = record {
  shared = (shared_sync (record { mir = named 4; lft = κs.1.1.1.1.0 }) (param 1 g.row.N) g.N.DeskName g.N.BoardName g.N.Ledger).shared;
}
