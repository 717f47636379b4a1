use denote.Param.Send.{sendable}
use Rattle.std.proofs.Crossing.{crosses}
use Rattle.run_parts.proofs.Crosses.{site_sync}
use Rattle.run_service.proofs.recording.serve_on.Goals as goal

pub serve_watched-requires-sync-S : goal.serve_watched-requires-sync-S
serve_watched-requires-sync-S g c κs within = search (site_sync, crosses, sendable) depth 60 fits 20000
