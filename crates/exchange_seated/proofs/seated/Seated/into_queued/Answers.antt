use Rattle.std.proofs.Common.{subst}
use Rattle.exchange_events.specs.Steps.{HasHistory}
use Rattle.exchange_seated.proofs.seated.Seated.into_queued.Goals as goal

pub of-requires : goal.of-requires
of-requires g c = subst HasHistory c.in-Waiting.is c.args.self.at
