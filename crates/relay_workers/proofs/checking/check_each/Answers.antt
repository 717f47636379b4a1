use Rattle.std.proofs.Common.{rules, ◌≡◌, ◌∙◌, ℕ, List, Option, subst, arith}
use Rattle.std.proofs.Math.ListN.{length-set}
use Rattle.relay_workers.specs.Gates.{Notice, noted}
use Rattle.relay_workers.specs.Gates.Notice.{Now}
use Rattle.relay_workers.specs.Checks.{HasLooked, IsDue, Looks}
use Rattle.relay_workers.specs.Checks.HasLooked.{at_none, at_one}
use Rattle.relay_workers.proofs.Steps.{same_read}
use Rattle.relay_workers.proofs.checking.check_each.Goals as goal

pub loop-number-init : goal.loop-number-init
loop-number-init g c = (search rules, at_none)

-- when its check is due was read from the list
pub loop-number-preserved : goal.loop-number-preserved
loop-number-preserved g c =
    let inside = c.loop-number-test.true in
    let many = c.loop-number.invariant.0 in
    let read = same_read c.loop-number.next_checks c.loop-number.number c.index-next_checks-number.result 0 (omega arith) in (
      length-set c.loop-number.next_checks c.loop-number.number c.look.result ∙ many,
      at_one _ _ _ _ c.look.ensures.0 _ c.loop-number.invariant.1
          (subst (λ (next : ℕ). IsDue c.args.proxy.now.config.servers c.loop-number.number next c.moment-now.result c.look.ensures.0) read c.look.ensures.1)
          (subst (λ (next : ℕ). Looks g.N.BoardName.terms g.N.DeskName.setup c.moment-now.result c.loop-number.number c.look.ensures.0 next c.look.result
          (g.G.Gate.notes c.loop-number.gate) (g.G.Gate.notes c.look.new.gate)) read c.look.ensures.2),
    )

pub returns : goal.returns
returns g c =
    let most = c.loop-number.auto.number-end in
    let least = c.loop-number-test.false in
    let all : c.loop-number.number ≡ 64 = omega arith in (
      c.moment-now.result,
      subst (λ (count : ℕ). HasLooked g.N.BoardName.terms g.N.DeskName.setup c.args.proxy.now.config.servers c.moment-now.result c.args.next_checks.now
          (noted (Now c.moment-now.result) (g.G.Gate.notes c.args.gate.now)) count c.loop-number.next_checks (g.G.Gate.notes c.loop-number.gate)) all
          (subst (λ (notes : Option (List (Notice g.row.G-Client.Denot g.row.G-Server.Denot))). HasLooked g.N.BoardName.terms g.N.DeskName.setup
          c.args.proxy.now.config.servers c.moment-now.result c.args.next_checks.now notes c.loop-number.number c.loop-number.next_checks
          (g.G.Gate.notes c.loop-number.gate)) c.moment-now.ensures.told c.loop-number.invariant.1),
    )
