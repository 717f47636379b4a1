use Rattle.std.proofs.Common.{inr, refl, sym, ap}
use Rattle.relay_workers.proofs.member_seat.MemberSeat.work.Goals as goal

-- a worker left it so
pub invariant_of-self : goal.invariant_of-self
invariant_of-self g c = record {
  its = ∣ inr (
    c.worker-result.result,
    _,
    _,
    (c.args.proxy.now.config, _, _, _, _, c.worker-result.ensures.worked, refl, refl, c.requires.fresh, c.requires.unused, refl),
  ) ∣₁;
}

pub returns : goal.returns
returns g c = (
  c.worker-result.new.idle.seat.view,
  (
    c.args.proxy.now.config,
    _,
    _,
    _,
    _,
    c.worker-result.ensures.worked,
    refl,
    ap g.G.Gate.notes (sym c.new.ensures),
    c.requires.fresh,
    c.requires.unused,
    refl,
  ),
)
