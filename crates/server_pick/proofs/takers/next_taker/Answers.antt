use Rattle.std.proofs.Common.{◌≡◌, ℕ, ◌==◌, Option, None, Some, true, cond, slice_get, if◌then◌else◌, refl, sym, ap, arith}
use Rattle.std.specs.Option.{option_map_or}
use Rattle.std.proofs.lemmas.Bool.Decides.{Decides-eqb}
use Rattle.log_entries.specs.declared.setup.ServerSet.{ServerSet}
use Rattle.log_entries.specs.declared.setup.Setup.{Setup}
use Rattle.log_entries.specs.States.{cursor_after_granting}
use Rattle.log_entries.proofs.Choices.{free_there}
use Rattle.slot_ledger.specs.Ledgers.{scene_in}
use Rattle.server_pick.specs.Sets.{IsIn}
use Rattle.server_pick.proofs.Taking.{picked_next}
use Rattle.std.proofs.lemmas.Grind.{common_steps}
use Rattle.server_pick.proofs.takers.next_taker.Goals as goal

-- the cursor stays where a server of weight 0 takes
weightless_stays : (setup : Setup) (server cursor : ℕ) → option_map_or (λ it. it.weight) (slice_get setup.servers server) 0 ≡ 0
    → cursor ≡ cursor_after_granting setup server cursor
weightless_stays setup server cursor none = go (slice_get setup.servers server) none
  where
    go : (o : Option ServerSet) → option_map_or (λ it. it.weight) o 0 ≡ 0 → cursor ≡ (if option_map_or (λ it. it.weight == 0) o true then cursor else server)
    go None e = refl
    go (Some it) e = ap (λ b. cond b cursor server) (sym ((Decides-eqb it.weight 0).1 e))

pub returns-then-is_empty-clause-next : goal.returns-then-is_empty-clause-next
returns-then-is_empty-clause-next g c = λ server can. c.is_empty.ensures.0 c.if-is_empty.true server ((c.takers-takers.ensures server).1 can)

pub first_weightless-requires : goal.first_weightless-requires
first_weightless-requires g c = λ server own. free_there (scene_in c.args.ledger.now) server ((c.takers-takers.ensures server).0 own).0

pub returns-in-Some-clause-next : goal.returns-in-Some-clause-next
returns-in-Some-clause-next g c =
    let first = c.in-Some.ensures in
    record {
      takes = (c.takers-takers.ensures c.in-Some.server).0 first.0;
      weightless_first = λ other none can. (first.1, first.2 other ((c.takers-takers.ensures other).1 can) none);
      picked = λ some. absurd (omega (arith, first.1));
    }

pub returns-in-Some-clause-cursor : goal.returns-in-Some-clause-cursor
returns-in-Some-clause-cursor g c = weightless_stays c.args.ledger.now.setup c.in-Some.server c.args.cursor.now c.in-Some.ensures.1

pub returns-clause-next : goal.returns-clause-next
returns-clause-next g c = picked_next (scene_in c.args.ledger.now) c.args.cursor.now
    (IsIn c.takers-takers.result) c.pick.result c.takers-takers.ensures c.in_default.ensures c.pick.ensures.picked

pub returns-clause-cursor : goal.returns-clause-cursor
returns-clause-cursor g c = grind (arith, common_steps)
