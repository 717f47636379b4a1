use Rattle.std.proofs.Common.{ap, ◌∙◌}
use Rattle.log_entries.specs.Judgement.{limit_stage}
use Rattle.dispatch_core.proofs.Following.{event_moves, carries_open}
use Rattle.dispatch_core.proofs.events.Events.follow_limit.Goals as goal

pub returns-in-Open : goal.returns-in-Open
returns-in-Open g c = carries_open c.args.self.now.state (c.requires.stage ∙ ap (limit_stage c.args.server) c.in-Open.is) c.requires.room

pub empty-requires-clause-emptying : goal.empty-requires-clause-emptying
empty-requires-clause-emptying g c = c.requires.stage ∙ ap (limit_stage c.args.server) c.in-Closed.is

pub empty-requires-clause-room : goal.empty-requires-clause-room
empty-requires-clause-room g c = event_moves c.args.self.now.state c.requires.room
