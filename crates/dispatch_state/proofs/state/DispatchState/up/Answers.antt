use Rattle.std.proofs.Common.{ap, ◌∙◌}
use Rattle.log_entries.specs.Histories.{History}
use Rattle.log_entries.specs.Scenes.{Scene, is_up}
use Rattle.dispatch_state.specs.Histories.{scene_of}
use Rattle.dispatch_state.proofs.Beginning.{scene_is}
use Rattle.dispatch_state.proofs.state.DispatchState.up.Goals as goal

pub returns : goal.returns
returns g c =
    c.up.ensures ∙ ap (λ (s : Scene). is_up s c.args.server) (scene_is _ _ c.self.invariant)
    ∙ ap (λ (h : History). is_up (scene_of h) c.args.server) c.self.view_is
