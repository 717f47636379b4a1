use Rattle.std.proofs.Common.{◌≡◌, ◌+◌, ℤ, List, ◌∙◌, sym, subst, refl, is_lt, rules, get_or}
use Rattle.std.specs.Ordering.{int_cmp, ordering_then}
use Rattle.log_entries.specs.contracts.queue.QueueOrd.TheImpl as derived
use Rattle.std.specs.List.Sorted.{IsSortedByKey, IsStableByKey, ties}
use Rattle.std.proofs.lemmas.List.Elements.{filter_agree}
use Rattle.std.proofs.lemmas.List.Sorted.{answers_always}
use Rattle.std.specs.declared.cmp.Ordering.{Ordering}
use Rattle.log_entries.specs.declared.queue.Queue.{Queue}
use Rattle.log_reading.specs.declared.grant.SlotGrant.{SlotGrant}
use Rattle.late_cert.specs.Groups.{is_before}
use Rattle.late_cert.proofs.Order.{order, group_order, before_is}
use Rattle.late_cert.proofs.making.sorted_grants.Goals as goal

abbrev key : SlotGrant → Queue × ℤ
key g = (g.queue, g.class)

-- two grants compare as their keys do
before_by_key : (x y : SlotGrant) → is_before x y ≡ is_lt (order (key x) (key y))
before_by_key x y = before_is x.queue y.queue x.class y.class

ties_by_key : (x y : SlotGrant) → ties is_before x y ≡ ties (λ (a b : SlotGrant). is_lt (order (key a) (key b))) x y
ties_by_key x y = rw (before_by_key x y, before_by_key y x) refl

pub returns-clause-sorted : goal.returns-clause-sorted
returns-clause-sorted c =
    let h : IsSortedByKey {X = SlotGrant} {K = Queue × ℤ} key order c.sort_by_key.new.self.items =
    subst (λ (cmp : Queue × ℤ → Queue × ℤ → Ordering). IsSortedByKey {X = SlotGrant} {K = Queue × ℤ} key cmp c.sort_by_key.new.self.items) group_order
    (c.in_ok-sort_by_key.ensures.sorted key (answers_always _ _ _ (λ f a r h k. search rules))) in
    λ k d low high. before_by_key (get_or c.sort_by_key.new.self.items (k + 1) d) (get_or c.sort_by_key.new.self.items k d) ∙ h k d low high

pub returns-clause-stable : goal.returns-clause-stable
returns-clause-stable c =
    let h : IsStableByKey {X = SlotGrant} {K = Queue × ℤ} key order c.args.grants.now c.sort_by_key.new.self.items =
    subst (λ (cmp : Queue × ℤ → Queue × ℤ → Ordering).
    IsStableByKey {X = SlotGrant} {K = Queue × ℤ} key cmp c.args.grants.now c.sort_by_key.new.self.items) group_order
    (subst (λ (l : List SlotGrant).
    IsStableByKey {X = SlotGrant} {K = Queue × ℤ} key (λ a b. ordering_then (derived.ghosts.cmp a.0 b.0) (int_cmp a.1 b.1)) l c.sort_by_key.new.self.items)
    c.in_ok-sorted.ensures.items (c.sort_by_key.ensures.stable key (answers_always _ _ _ (λ f a r h k. search rules)))) in
    λ x.
    filter_agree (ties is_before x) (ties (λ (a b : SlotGrant). is_lt (order (key a) (key b))) x) (ties_by_key x) c.sort_by_key.new.self.items
    ∙ h x
    ∙ sym (filter_agree (ties is_before x) (ties (λ (a b : SlotGrant). is_lt (order (key a) (key b))) x) (ties_by_key x) c.args.grants.now)
