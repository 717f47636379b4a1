use denote.Param.Send.{sendable}
use Rattle.std.proofs.Crossing.{crosses}
use Rattle.run_parts.proofs.Crosses.{site_sync}
use Rattle.run_service.proofs.serving.serve_on.Goals as goal

pub serve_clients-ended-requires-sync-S : goal.serve_clients-ended-requires-sync-S
serve_clients-ended-requires-sync-S g c κs within = search (site_sync, crosses, sendable) depth 60 fits 20000
