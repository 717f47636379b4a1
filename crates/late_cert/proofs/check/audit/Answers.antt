use Rattle.std.proofs.Common.{◌↔◌, IsTrue, List, subst}
use Rattle.log_reading.specs.declared.grant.SlotGrant.{SlotGrant}
use Rattle.log_reading.specs.Windows.{window_of}
use Rattle.late_cert.specs.Tests.{PassesEachTest}
use Rattle.late_cert.proofs.Least.{sound_least}
use Rattle.late_cert.proofs.Sound.{sound_exactly}
use Rattle.late_cert.proofs.check.audit.Goals as goal

pub returns-clause-exact : goal.returns-clause-exact
returns-clause-exact c =
    let passes = subst (λ (gs : List SlotGrant). IsTrue c.passes.result ↔ PassesEachTest c.args.report.now gs) c.grants.ensures.grants c.passes.ensures in
    let sound = sound_exactly (window_of c.args.log.now) c.args.report.now c.grants.ensures.readable in
    ((λ e. sound.0 (passes.0 e)), (λ s. passes.1 (sound.1 s)))

pub returns-clause-least : goal.returns-clause-least
returns-clause-least c =
    λ e.
    let passes = subst (λ (gs : List SlotGrant). IsTrue c.passes.result ↔ PassesEachTest c.args.report.now gs) c.grants.ensures.grants c.passes.ensures in
    let sound = sound_exactly (window_of c.args.log.now) c.args.report.now c.grants.ensures.readable in
    sound_least (window_of c.args.log.now) c.args.report.now c.grants.ensures.readable (sound.0 (passes.0 e))
