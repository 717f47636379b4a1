use Rattle.std.proofs.Common.{◌≡◌, Bool, subst, sym}
use Rattle.relay_workers.specs.Gates.{noted}
use Rattle.relay_workers.specs.Gates.Notice.{Found}
use Rattle.relay_workers.proofs.Steps.{reported_from}
use Rattle.relay_workers.proofs.checking.check_one.Goals as goal

pub returns-in-Some-clause-over : goal.returns-in-Some-clause-over
returns-in-Some-clause-over g c =
    let found = subst (λ (ok : Bool). g.G.Gate.notes c.probe.new.self ≡ noted (Found c.args.server ok) (g.G.Gate.notes c.args.gate.now)) (sym c.has_passed-ok.ensures) c.in-Some.ensures.found in (
      c.has_passed-ok.result,
      reported_from g.N.BoardName.terms g.N.DeskName.setup c.args.server c.has_passed-ok.result c.note_check.result _ found c.note_check.ensures,
    )
