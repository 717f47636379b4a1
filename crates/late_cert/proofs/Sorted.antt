-- Grants in order: what stands together, and what comes later.
use Rattle.std.proofs.Common.{◌≡◌, ℕ, zero, suc, ◌+◌, ◌<◌, ◌≤◌, ◌&&◌, not, Bool, true, false, cond, ℤ}
use Rattle.std.proofs.Common.{List, [], ◌∷◌, take, drop, length, get_or, refl, ap, sym, ◌∙◌, subst, arith}
use Rattle.std.specs.Cmp.{IsStrictWeakOrder}
use Rattle.std.specs.List.{AllByRecursion, filter, prefix_len}
use Rattle.std.specs.List.Sorted.{IsSortedBy, IsStableBy, ties}
use Rattle.std.specs.Ordering.{int_eq}
use Rattle.std.proofs.lemmas.Bool.{false≢true, and_parts}
use Rattle.std.proofs.lemmas.Bool.Decides.{Decides-int_eq}
use Rattle.std.proofs.lemmas.List.Elements.{recursion_from_All, filter_agree}
use Rattle.std.proofs.lemmas.List.Sorted.{sorted_far}
use Rattle.base_lists.proofs.Members.{filter_none}
use Rattle.log_entries.specs.declared.queue.Queue.{Queue}
use Rattle.log_entries.specs.Rows.{same_queue}
use Rattle.log_entries.proofs.Choices.{queue_own, queue_same}
use Rattle.log_reading.specs.Grants.{is_of}
use Rattle.log_reading.specs.declared.grant.SlotGrant.{SlotGrant}
use Rattle.late_cert.specs.Groups.{is_before}
use Rattle.late_cert.specs.Reports.{comes_before}
use Rattle.late_cert.proofs.Order.{before_other, ties_same, same_ties, before_one_way, before_chain}

-- each grant comes no earlier than those before it
abbrev pub AreSorted : List SlotGrant → Type 0
AreSorted [] = Unit {0}
AreSorted (g ∷ gs) = AllByRecursion (λ h. is_before h g ≡ false) gs × AreSorted gs

before_order : IsStrictWeakOrder is_before
before_order = record {
  one_way = λ x y h. before_one_way x.queue y.queue x.class y.class h;
  chain = λ x y z h k. before_chain x.queue y.queue z.queue x.class y.class z.class h k;
}

from_far : (gs : List SlotGrant) → ((i j : ℕ) (d : SlotGrant) → i ≤ j → j < length gs → is_before (get_or gs j d) (get_or gs i d) ≡ false) → AreSorted gs
from_far [] far = tt
from_far (g ∷ gs) far = (
  recursion_from_All (λ h. is_before h g ≡ false) gs (λ k d below. far zero (suc k) d (omega arith) (omega arith)),
  from_far gs (λ i j d le below. far (suc i) (suc j) d (omega arith) (omega arith)),
)

pub are_sorted : (gs : List SlotGrant) → IsSortedBy is_before gs → AreSorted gs
are_sorted gs sorted = from_far gs (sorted_far is_before before_order gs sorted)

pub sorted_drop : (n : ℕ) (gs : List SlotGrant) → AreSorted gs → AreSorted (drop n gs)
sorted_drop zero gs sorted = sorted
sorted_drop (suc n) [] sorted = tt
sorted_drop (suc n) (g ∷ gs) sorted = sorted_drop n gs sorted.1

-- a grant from a queue and of a class
pub is_of_true : (q : Queue) (c : ℤ) (g : SlotGrant) → is_of q c g ≡ true → (q ≡ g.queue) × (c ≡ g.class)
is_of_true q c g e = let h = and_parts (same_queue q g.queue) (int_eq c g.class) e in (queue_same q g.queue h.0, (Decides-int_eq c g.class).0 h.1)

pub is_of_own : (g : SlotGrant) → is_of g.queue g.class g ≡ true
is_of_own g = rw (queue_own g.queue, (Decides-int_eq g.class g.class).1 refl) refl

-- no grant comes before a queue and class
abbrev pub NoneBefore : Queue → ℤ → List SlotGrant → Type 0
NoneBefore q c gs = AllByRecursion (λ h. comes_before h.queue h.class q c ≡ false) gs

-- none but the first ones are from that queue and of that class
other_later : (q : Queue) (c : ℤ) (g h : SlotGrant) → comes_before q c g.queue g.class ≡ true → is_before h g ≡ false → is_of q c h ≡ false
other_later q c g h before later = go (is_of q c h) refl
  where
    go : (b : Bool) → is_of q c h ≡ b → is_of q c h ≡ false
    go false e = e
    go true e =
        let same = is_of_true q c h e in
        let k : comes_before q c g.queue g.class ≡ false =
        subst (λ p. comes_before p c g.queue g.class ≡ false) (sym same.0)
        (subst (λ d. comes_before h.queue d g.queue g.class ≡ false) (sym same.1) later) in
        absurd (false≢true (sym k ∙ before))

all_other : (q : Queue) (c : ℤ) (g : SlotGrant) (gs : List SlotGrant) → comes_before q c g.queue g.class ≡ true → AllByRecursion (λ h. is_before h g ≡ false) gs
    → AllByRecursion (λ h. is_of q c h ≡ false) gs
all_other q c g [] before later = tt
all_other q c g (h ∷ gs) before later = (other_later q c g h before later.0, all_other q c g gs before later.1)

others : (q : Queue) (c : ℤ) (g : SlotGrant) (gs : List SlotGrant) → AreSorted (g ∷ gs) → comes_before g.queue g.class q c ≡ false → is_of q c g ≡ false
    → AllByRecursion (λ h. is_of q c h ≡ false) (g ∷ gs)
others q c g gs sorted none e = (e, all_other q c g gs (before_other q g.queue c g.class none e) sorted.0)

-- what stands in front from a queue and of a class is all there is, and what follows is from others
pub record IsSplit (q : Queue) (c : ℤ) (gs : List SlotGrant) : Type 0 where
  pub front : take (prefix_len (is_of q c) gs) gs ≡ filter (is_of q c) gs
  pub passes : AllByRecursion (λ h. is_of q c h ≡ true) (take (prefix_len (is_of q c) gs) gs)
  pub back : AllByRecursion (λ h. is_of q c h ≡ false) (drop (prefix_len (is_of q c) gs) gs)

pub split_sorted : (q : Queue) (c : ℤ) (gs : List SlotGrant) → AreSorted gs → NoneBefore q c gs → IsSplit q c gs
split_sorted q c [] sorted none = record { front = refl; passes = tt; back = tt }
split_sorted q c (g ∷ gs) sorted none = go (is_of q c g) refl (split_sorted q c gs sorted.1 none.1)
  where
    longer : suc (prefix_len (is_of q c) gs) ≡ 1 + prefix_len (is_of q c) gs
    longer = omega arith

    go : (b : Bool) → is_of q c g ≡ b → IsSplit q c gs → IsSplit q c (g ∷ gs)
    go true e rest =
        let n : suc (prefix_len (is_of q c) gs) ≡ prefix_len (is_of q c) (g ∷ gs) = longer ∙ ap (λ b. cond b (1 + prefix_len (is_of q c) gs) 0) (sym e) in
        record {
          front = subst (λ k. take k (g ∷ gs) ≡ filter (is_of q c) (g ∷ gs)) n (ap (λ l. g ∷ l) rest.front
              ∙ ap (λ b. cond b (g ∷ filter (is_of q c) gs) (filter (is_of q c) gs)) (sym e));
          passes = subst (λ k. AllByRecursion (λ h. is_of q c h ≡ true) (take k (g ∷ gs))) n (e, rest.passes);
          back = subst (λ k. AllByRecursion (λ h. is_of q c h ≡ false) (drop k (g ∷ gs))) n rest.back;
        }
    go false e rest =
        let n : 0 ≡ prefix_len (is_of q c) (g ∷ gs) = ap (λ b. cond b (1 + prefix_len (is_of q c) gs) 0) (sym e) in
        let all = others q c g gs sorted none.0 e in
        record {
          front = subst (λ k. take k (g ∷ gs) ≡ filter (is_of q c) (g ∷ gs)) n (sym (filter_none (is_of q c) (g ∷ gs) all));
          passes = subst (λ k. AllByRecursion (λ h. is_of q c h ≡ true) (take k (g ∷ gs))) n tt;
          back = subst (λ k. AllByRecursion (λ h. is_of q c h ≡ false) (drop k (g ∷ gs))) n all;
        }

-- where the first grant is from a queue and of a class, none comes before these
pub none_before_first : (q : Queue) (c : ℤ) (gs : List SlotGrant) → AreSorted gs → 0 < prefix_len (is_of q c) gs → NoneBefore q c gs
none_before_first q c [] sorted some = tt
none_before_first q c (g ∷ gs) sorted some = go (is_of q c g) refl some
  where
    go : (b : Bool) → is_of q c g ≡ b → 0 < cond b (1 + prefix_len (is_of q c) gs) 0 → NoneBefore q c (g ∷ gs)
    go false e less = absurd (omega arith)
    go true e less =
        let same = is_of_true q c g e in
        let all : NoneBefore g.queue g.class (g ∷ gs) = ((same_ties g.queue g.queue g.class g.class (is_of_own g)).0, sorted.0) in
        subst (λ p. NoneBefore p c (g ∷ gs)) (sym same.0) (subst (λ d. NoneBefore g.queue d (g ∷ gs)) (sym same.1) all)

-- a stable sort keeps the order of what is from one queue and of one class
ties_are : (x y : SlotGrant) → ties is_before x y ≡ is_of x.queue x.class y
ties_are x y = go (is_of x.queue x.class y) refl (comes_before x.queue x.class y.queue y.class) (comes_before y.queue y.class x.queue x.class) refl refl
  where
    go : (b : Bool) → is_of x.queue x.class y ≡ b → (l r : Bool) → comes_before x.queue x.class y.queue y.class ≡ l
        → comes_before y.queue y.class x.queue x.class ≡ r → (not l && not r) ≡ b
    go true e l r f g = let h = same_ties x.queue y.queue x.class y.class e in cc
    go false e true r f g = refl
    go false e false true f g = refl
    go false e false false f g = absurd (false≢true (sym e ∙ ties_same x.queue y.queue x.class y.class f g))

pub stable_filter : (x : SlotGrant) (gs sorted : List SlotGrant) → IsStableBy is_before gs sorted
    → filter (is_of x.queue x.class) sorted ≡ filter (is_of x.queue x.class) gs
stable_filter x gs sorted stable =
    sym (filter_agree (ties is_before x) (is_of x.queue x.class) (ties_are x) sorted) ∙ stable x
    ∙ filter_agree (ties is_before x) (is_of x.queue x.class) (ties_are x) gs
