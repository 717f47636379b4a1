use Rattle.std.proofs.Common.{◌≡◌, ℤ, ◌+◌, List, ◌∷◌, [], ◌++◌, IsTrue, take, drop, sym, ap, subst, ◌∙◌, arith, w64, to_z, of_z}
use Rattle.std.proofs.lemmas.Int.{to_z-of_z}
use Rattle.std.proofs.lemmas.List.{take_more, take_all}
use Rattle.std.specs.List.{AllByRecursion}
use Rattle.log_reading.specs.declared.grant.SlotGrant.{SlotGrant}
use Rattle.log_entries.specs.Queues.{IsQueueOf}
use Rattle.late_cert.specs.Running.{IsGreatest, HasRoomFor, latenesses_of, worst_so_far, worst_with}
use Rattle.late_cert.specs.Tests.{late_by}
use Rattle.late_cert.proofs.Worst.{among_with}
use Rattle.base_lists.proofs.Members.{from_one_on}
use Rattle.late_cert.proofs.table.Running.granted_from.Goals as goal

roomy : (c : goal.After-lateness) → HasRoomFor c.args.self.now c.index-grants-number.result
roomy c =
    let gs : List SlotGrant = c.grants-grants.result.now in
    let all : AllByRecursion (HasRoomFor c.args.self.now) (drop c.args.from gs) =
    subst (λ l. AllByRecursion (HasRoomFor c.args.self.now) (drop c.args.from l)) (sym c.grants-grants.ensures.grants) c.requires.room in
    subst (HasRoomFor c.args.self.now) (sym c.index-grants-number.is)
    (from_one_on (HasRoomFor c.args.self.now) gs c.args.from c.loop-number.number c.index-grants-number.result all c.loop-number.auto.number
    c.loop-number-test.true)

pub granted-requires-clause-queue : goal.granted-requires-clause-queue
granted-requires-clause-queue c =
    subst (λ n. IsQueueOf n c.index-grants-number.result.queue) (sym c.loop-number.invariant.servers) (roomy c).0

pub granted-requires-clause-room : goal.granted-requires-clause-room
granted-requires-clause-room c = subst IsTrue (sym (c.loop-number.invariant.room c.index-grants-number.result.class)) (roomy c).1

pub loop-number-preserved : goal.loop-number-preserved
loop-number-preserved c =
    let gs : List SlotGrant = c.grants-grants.result.now in
    let g : SlotGrant = c.index-grants-number.result in
    let was = c.loop-number.self in
    let more : take (c.loop-number.number + 1) gs ≡ take c.loop-number.number gs ++ g ∷ [] =
    take_more gs c.loop-number.number g c.loop-number-test.true ∙ ap (λ it. take c.loop-number.number gs ++ it ∷ []) (sym c.index-grants-number.is) in
    let told : ℤ = to_z w64 (of_z w64 c.lateness.result) in
    let late : told ≡ late_by g = to_z-of_z w64 c.lateness.result (record { sfits = c.lateness.type_inv }) ∙ c.lateness.ensures in
    record {
      worst = λ queue class in_range.
          subst (λ o. IsGreatest (latenesses_of queue class (take (c.loop-number.number + 1) gs)) o) (sym (c.granted.ensures.worst queue class in_range))
          (subst (λ l. IsGreatest (latenesses_of queue class l) (worst_with (worst_so_far was) g.queue g.class told queue class)) (sym more)
          (subst (λ z. IsGreatest (latenesses_of queue class (take c.loop-number.number gs ++ g ∷ []))
          (worst_with (worst_so_far was) g.queue g.class z queue class))
          (sym late)
          (among_with (take c.loop-number.number gs) g (worst_so_far was) queue class (c.loop-number.invariant.worst queue class in_range))));
      room = λ class. c.granted.ensures.room class ∙ c.loop-number.invariant.room class;
      servers = c.granted.ensures.servers ∙ c.loop-number.invariant.servers;
    }

pub returns-clause-worst : goal.returns-clause-worst
returns-clause-worst c queue class in_range =
    let gs : List SlotGrant = c.grants-grants.result.now in
    let whole : take c.loop-number.number gs ≡ gs = take_all c.loop-number.number gs (omega arith) in
    subst (λ l. IsGreatest (latenesses_of queue class l) (worst_so_far c.loop-number.self queue class)) (whole ∙ c.grants-grants.ensures.grants)
    (c.loop-number.invariant.worst queue class in_range)
