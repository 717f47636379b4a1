use Rattle.std.proofs.Common.{ap, sym, ◌∙◌}
use Rattle.log_entries.specs.declared.setup.Setup.{Setup}
use Rattle.dispatch_core.proofs.Following.{moves_fit, carries_unmoved, carries_moved}
use Rattle.dispatch_core.proofs.events.Events.empty.Goals as goal

pub move_all-requires-clause-room : goal.move_all-requires-clause-room
move_all-requires-clause-room g c = moves_fit c.args.self.now.state c.args.server c.requires.emptying c.requires.room

pub returns-then-setup : goal.returns-then-setup
returns-then-setup g c =
    carries_moved c.args.self.now.state c.args.server c.requires.emptying c.requires.room c.move_all.new.self.state c.move_all.ensures

pub returns-else-setup : goal.returns-else-setup
returns-else-setup g c =
    carries_unmoved c.args.self.now.state c.args.server c.requires.emptying c.requires.room
    (ap (λ (s : Setup). s.redispatch) (sym c.setup.ensures.setup) ∙ c.if-setup.false)
