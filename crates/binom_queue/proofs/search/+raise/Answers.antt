use Rattle.std.proofs.Common.{sym, refl}
use Rattle.base_lists.proofs.Orders.{less_not_tied}
use Rattle.binom_queue.proofs.Floors.{absent_under_floor, floor_of_children}
use Rattle.binom_queue.proofs.Raised.{raised_here, raised_after}
use Rattle.binom_queue.proofs.search.+raise.Goals as goal

-- all below a root of a greater key is above that key
pub holds-returns-in-Less-clause-missed : goal.holds-returns-in-Less-clause-missed
holds-returns-in-Less-clause-missed g t c is =
    let root = c.args.root.now in (
      refl,
      (
        less_not_tied g.met.K.Ord.total c.args.key.now root.pair.0 (sym c.in-Less.ensures),
        absent_under_floor g.met.K.Ord.total root.pair.0
            c.args.key.now _ (sym c.in-Less.ensures) (floor_of_children g.met.K.Ord.total root.pair.0 root.order root.child c.requires),
      ),
    )

pub raise-returns-then-holds-clause-found : goal.raise-returns-then-holds-clause-found
raise-returns-then-holds-clause-found g t c found =
    raised_here g.met.K.Ord.total c.args.key.now c.args.above.now c.args.trees.now c.in-Of.root c.deref_mut-root.result.now c.holds.new.root
    c.in-Of.is c.deref_mut-root.ensures.value
    c.swap.new.x c.swap.new.y (c.if-holds.ensures.found refl) c.holds.ensures.rest.0 c.holds.ensures.rest.1 c.swap.ensures.x_after c.swap.ensures.y_after

pub raise-returns-clause-found : goal.raise-returns-clause-found
raise-returns-clause-found g t c found =
    raised_after g.met.K.Ord.total c.args.key.now c.args.above.now c.args.trees.now c.in-Of.root c.deref_mut-root.result.now c.holds.new.root
    c.in-Of.is c.deref_mut-root.ensures.value
    c.raise.new.above c.raise.new.trees (c.if-holds.ensures.missed refl).0 (c.raise.ensures.found found)
