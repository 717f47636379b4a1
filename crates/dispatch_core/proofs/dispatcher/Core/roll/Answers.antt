use Rattle.std.proofs.Common.{map, ap, ◌∙◌}
use Rattle.log_entries.specs.Histories.{next_window}
use Rattle.log_entries.proofs.Dispatched.{dispatched}
use Rattle.log_reading.specs.Bases.{results_by}
use Rattle.dispatch_core.proofs.Rolling.{saved_all, core_rolled}
use Rattle.dispatch_core.proofs.dispatcher.Core.roll.Goals as goal

pub roll-requires-clause-healths : goal.roll-requires-clause-healths
roll-requires-clause-healths g c = ap (map results_by) c.all.ensures ∙ saved_all _ _ _ c.self.invariant.healthy

pub invariant_of-self : goal.invariant_of-self
invariant_of-self g c = core_rolled _ _ _ _ _ _ c.self.invariant c.roll.ensures.window c.roll.ensures.sound c.roll.ensures.spare

pub returns-clause-window : goal.returns-clause-window
returns-clause-window g c = c.roll.ensures.window ∙ ap next_window c.self.view_is

pub returns-clause-dispatched : goal.returns-clause-dispatched
returns-clause-dispatched g c =
    dispatched _ (core_rolled _ _ _ _ _ _ c.self.invariant c.roll.ensures.window c.roll.ensures.sound c.roll.ensures.spare).legal
