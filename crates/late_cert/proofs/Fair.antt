-- In a log that keeps the order of its queues a stay that joined before an earlier grant of its queue and class is due
-- no earlier.
use Rattle.std.proofs.Common.{◌≡◌, ◌≢◌, ℕ, ◌+◌, ◌<◌, ◌≤◌, Bool, true, false, cond, ℤ, ◌≤ℤ◌, List, [], ◌∷◌, ◌++◌}
use Rattle.std.proofs.Common.{map, length, Option, None, Some, IsTrue, refl, ap, sym, ◌∙◌, subst, arith, append_assoc, length-append, Greater}
use Rattle.std.specs.List.{AllByRecursion, filter}
use Rattle.std.specs.Option.{option_map_or, IfSome, IsSomeAnd}
use Rattle.std.proofs.lemmas.Int.{ints}
use Rattle.std.proofs.lemmas.List.{append-nil}
use Rattle.due_key.specs.Order.{key_cmp}
use Rattle.due_key.specs.declared.key.Key.{Key}
use Rattle.log_entries.specs.declared.entry.Entry.{Entry}
use Rattle.log_entries.specs.declared.queue.Queue.{Queue}
use Rattle.log_entries.specs.Rows.{phase_waits_in}
use Rattle.log_entries.specs.declared.setup.Setup.{Setup}
use Rattle.log_entries.specs.States.{State, after, after_all}
use Rattle.log_entries.proofs.Judged.{after_all-push}
use Rattle.log_reading.specs.Grants.{Wait, grant_in, joins, joining_of, key_known, grant_after, grants_after, is_of}
use Rattle.log_reading.specs.declared.base.BaseRow.{BaseRow}
use Rattle.log_reading.specs.declared.grant.SlotGrant.{SlotGrant}
use Rattle.log_reading.specs.declared.grant.Stay.{Stay}
use Rattle.log_reading.proofs.Joinings.{none_in_second, grants_no_joining}
use Rattle.log_reading.proofs.Timely.{follows}
use Rattle.log_reading.specs.Ordered.{TakesLeast, KeepsOrder, AllKeepOrder, HaveArrived}
use Rattle.log_reading.proofs.Back.{Waited, step_back, steps_back, have_arrived_after}
use Rattle.late_cert.proofs.Sorted.{is_of_true}

-- each later stay that joined no later than an earlier one's slot is due no earlier
abbrev pub AreFair : List Stay → Type 0
AreFair [] = Unit {0}
AreFair (s ∷ ss) = AllByRecursion (λ u. u.joined ≤ s.slot → s.due ≤ℤ u.due) ss × AreFair ss

-- slots rise from a position on
abbrev pub RisesFrom : ℕ → List Stay → Type 0
RisesFrom n [] = Unit {0}
RisesFrom n (s ∷ ss) = (n < s.slot) × RisesFrom s.slot ss

-- the stays from a queue and of a class among what follows a log
abbrev pub stays_after : List BaseRow → Queue → ℤ → List Entry → List Entry → List Stay
stays_after base q c past es = map (λ g. g.stay) (filter (is_of q c) (grants_after base past es))

-- ---- one grant

-- what is known of a grant where it stands
record IsTaken (s : State) (past : List Entry) (q : Queue) (c : ℤ) (e : Entry) (g : SlotGrant) : Type 0 where
  wait : Wait
  is : grant_in e ≡ Some wait
  queue : q ≡ wait.queue
  joined : g.stay.joined ≡ joining_of wait.ticket wait.queue past
  slot : g.stay.slot ≡ length past + 1
  takes : TakesLeast s.rows wait
  class : takes.row.key.class ≡ c
  due : takes.row.key.due ≡ g.stay.due

taken : (base : List BaseRow) (s : State) (past : List Entry) (q : Queue) (c : ℤ) (e : Entry) (g : SlotGrant) → HaveArrived base past s.rows
    → KeepsOrder s.rows e
    → grant_after base past e ≡ Some g → is_of q c g ≡ true → IsTaken s past q c e g
taken base s past q c e g have keeps made of =
    let f = follows base past e g made in
    let takes : TakesLeast s.rows f.wait = subst (λ (o : Option Wait). IfSome o (TakesLeast s.rows)) f.is keeps.least in
    let same = is_of_true q c g of in
    let came : key_known base takes.row.key.ticket past ≡ Some f.key = ap (λ t. key_known base t past) takes.named ∙ f.known in
    let facts = subst (λ (o : Option Key). IsSomeAnd o (λ it. (it.class ≡ takes.row.key.class) × (it.due ≡ takes.row.key.due))) came
    (have takes.row takes.live) in
    record {
      wait = f.wait;
      is = f.is;
      queue = same.0 ∙ ap (λ (x : SlotGrant). x.queue) f.made;
      joined = ap (λ (x : SlotGrant). x.stay.joined) f.made;
      slot = ap (λ (x : SlotGrant). x.stay.slot) f.made;
      takes = takes;
      class = sym facts.0 ∙ sym (ap (λ (x : SlotGrant). x.class) f.made) ∙ sym same.1;
      due = sym facts.1 ∙ sym (ap (λ (x : SlotGrant). x.stay.due) f.made);
    }

due_least : (a b : Key) → key_cmp a b ≢ Greater → a.class ≡ b.class → a.due ≤ℤ b.due
due_least a b least class = go a.class b.class a.due b.due a.ticket b.ticket class least
  where
    go : (c d x y : ℤ) (t u : ℕ) → c ≡ d → key_cmp (record { class = c; due = x; ticket = t }) (record { class = d; due = y; ticket = u }) ≢ Greater → x ≤ℤ y
    go c d x y t u same h = grind (arith, ints, h)

-- ---- two grants

-- each key of the class that waits in the queue is due no earlier than a date
abbrev NoneDueEarlier : State → Queue → ℤ → ℤ → Type 0
NoneDueEarlier s q c due = (key : Key) → Waited s.rows q key → key.class ≡ c → due ≤ℤ key.due

later_fair : (base : List BaseRow) (setup : Setup) (q : Queue) (c due : ℤ) (s1 : State) (past1 : List Entry) → NoneDueEarlier s1 q c due
    → (between es past2 : List Entry) (s2 : State) → past2 ≡ past1 ++ between → s2 ≡ after_all setup s1 between → HaveArrived base past2 s2.rows
    → AllKeepOrder setup s2 es
    → AllByRecursion (λ u. u.joined ≤ length past1 → due ≤ℤ u.due) (stays_after base q c past2 es)
later_fair base setup q c due s1 past1 none between [] past2 s2 is_past is_state have keep = tt
later_fair base setup q c due s1 past1 none between (e ∷ es) past2 s2 is_past is_state have keep =
    by_grant (grant_after base past2 e) refl
    (later_fair base setup q c due s1 past1 none (between ++ e ∷ []) es (past2 ++ e ∷ []) (after setup s2 e) (ap (λ l. l ++ e ∷ []) is_past
    ∙ append_assoc past1 between (e ∷ [])) (ap (λ s. after setup s e) is_state
    ∙ sym (after_all-push setup s1 between e)) (have_arrived_after base setup past2 s2 e have keep.0) keep.1)
  where
    pair : (g : SlotGrant) → grant_after base past2 e ≡ Some g → is_of q c g ≡ true → g.stay.joined ≤ length past1 → due ≤ℤ g.stay.due
    pair g made of low =
        let t = taken base s2 past2 q c e g have keep.0 made of in
        let row = t.takes.row in
        let w = t.wait in
        let low_in : joining_of w.ticket w.queue (past1 ++ between) ≤ length past1 =
        subst (λ l. joining_of w.ticket w.queue l ≤ length past1) is_past (subst (λ n. n ≤ length past1) t.joined low) in
        let quiet : AllByRecursion (λ x. joins row.key.ticket w.queue x ≡ false) between =
        subst (λ n. AllByRecursion (λ x. joins n w.queue x ≡ false) between) (sym t.takes.named) (none_in_second w.ticket w.queue past1 between low_in) in
        let here : Waited (after_all setup s1 between).rows w.queue row.key =
        subst (λ (s : State). Waited s.rows w.queue row.key) is_state (record { row = row; live = t.takes.live; same = refl; waits = t.takes.waits }) in
        let before : Waited s1.rows q row.key = subst (λ p. Waited s1.rows p row.key) (sym t.queue) (steps_back setup s1 between w.queue row.key here quiet) in
        subst (λ z. due ≤ℤ z) t.due (none row.key before t.class)

    by_class : (g : SlotGrant) → grant_after base past2 e ≡ Some g → (b : Bool) → is_of q c g ≡ b
        → AllByRecursion (λ u. u.joined ≤ length past1 → due ≤ℤ u.due) (stays_after base q c (past2 ++ e ∷ []) es)
        → AllByRecursion (λ u. u.joined ≤ length past1
        → due ≤ℤ u.due) (map (λ x. x.stay) (cond b (g ∷ filter (is_of q c) (grants_after base (past2 ++ e ∷ []) es))
        (filter (is_of q c) (grants_after base (past2 ++ e ∷ []) es))))
    by_class g made true of rest = (pair g made of, rest)
    by_class g made false of rest = rest

    by_grant : (o : Option SlotGrant) → grant_after base past2 e ≡ o
        → AllByRecursion (λ u. u.joined ≤ length past1 → due ≤ℤ u.due) (stays_after base q c (past2 ++ e ∷ []) es)
        → AllByRecursion (λ u. u.joined ≤ length past1
        → due ≤ℤ u.due) (map (λ x. x.stay) (filter (is_of q c) (option_map_or (λ x. x ∷ []) o [] ++ grants_after base (past2 ++ e ∷ []) es)))
    by_grant None made rest = rest
    by_grant (Some g) made rest = by_class g made (is_of q c g) refl rest

-- all grants of a queue and class
pub fair_after : (base : List BaseRow) (setup : Setup) (q : Queue) (c : ℤ) (past es : List Entry) (s : State) → HaveArrived base past s.rows
    → AllKeepOrder setup s es → AreFair (stays_after base q c past es)
fair_after base setup q c past [] s have keep = tt
fair_after base setup q c past (e ∷ es) s have keep =
    by_grant (grant_after base past e) refl (fair_after base setup q c (past ++ e ∷ []) es (after setup s e)
    (have_arrived_after base setup past s e have keep.0) keep.1)
  where
    long : length (past ++ e ∷ []) ≡ length past + 1
    long = omega (arith, length-append past (e ∷ []))

    first : (g : SlotGrant) → IsTaken s past q c e g → NoneDueEarlier (after setup s e) q c g.stay.due
    first g t key w class =
        let back : Waited s.rows q key = step_back setup s e q key w (grants_no_joining e t.wait key.ticket q t.is) in
        let waits : IsTrue (phase_waits_in t.wait.queue back.row.phase) = subst (λ p. IsTrue (phase_waits_in p back.row.phase)) t.queue back.waits in
        let least = t.takes.least back.row back.live waits in
        subst (λ z. z ≤ℤ key.due) t.due (due_least t.takes.row.key key (subst (λ (k : Key). key_cmp t.takes.row.key k ≢ Greater) back.same least) (t.class
        ∙ sym class))

    by_class : (g : SlotGrant) → grant_after base past e ≡ Some g → (b : Bool) → is_of q c g ≡ b → AreFair (stays_after base q c (past ++ e ∷ []) es)
        → AreFair (map (λ x. x.stay) (cond b (g ∷ filter (is_of q c) (grants_after base (past ++ e ∷ []) es))
        (filter (is_of q c) (grants_after base (past ++ e ∷ []) es))))
    by_class g made false of rest = rest
    by_class g made true of rest =
        let t = taken base s past q c e g have keep.0 made of in
        let slot : length (past ++ e ∷ []) ≡ g.stay.slot = long ∙ sym t.slot in (
          subst (λ n. AllByRecursion (λ u. u.joined ≤ n → g.stay.due ≤ℤ u.due) (stays_after base q c (past ++ e ∷ []) es)) slot
              (later_fair base setup q c g.stay.due (after setup s e) (past ++ e ∷ []) (first g t) [] es (past ++ e ∷ []) (after setup s e)
              (sym (append-nil (past ++ e ∷ []))) refl (have_arrived_after base setup past s e have keep.0) keep.1),
          rest,
        )

    by_grant : (o : Option SlotGrant) → grant_after base past e ≡ o → AreFair (stays_after base q c (past ++ e ∷ []) es)
        → AreFair (map (λ x. x.stay) (filter (is_of q c) (option_map_or (λ x. x ∷ []) o [] ++ grants_after base (past ++ e ∷ []) es)))
    by_grant None made rest = rest
    by_grant (Some g) made rest = by_class g made (is_of q c g) refl rest

-- slots rise
pub rises_lower : (m n : ℕ) (ss : List Stay) → n ≤ m → RisesFrom m ss → RisesFrom n ss
rises_lower m n [] le rises = tt
rises_lower m n (s ∷ ss) le rises = (let h = rises.0 in omega arith, rises.1)

pub rises_after : (base : List BaseRow) (q : Queue) (c : ℤ) (past es : List Entry) → RisesFrom (length past) (stays_after base q c past es)
rises_after base q c past [] = tt
rises_after base q c past (e ∷ es) = by_grant (grant_after base past e) refl (rises_after base q c (past ++ e ∷ []) es)
  where
    long : length (past ++ e ∷ []) ≡ length past + 1
    long = omega (arith, length-append past (e ∷ []))

    by_class : (g : SlotGrant) → grant_after base past e ≡ Some g → (b : Bool) → RisesFrom (length (past ++ e ∷ [])) (stays_after base q c (past ++ e ∷ []) es)
        → RisesFrom (length past) (map (λ x. x.stay)
        (cond b (g ∷ filter (is_of q c) (grants_after base (past ++ e ∷ []) es)) (filter (is_of q c) (grants_after base (past ++ e ∷ []) es))))
    by_class g made false rest = rises_lower (length (past ++ e ∷ [])) (length past) (stays_after base q c (past ++ e ∷ []) es) (omega (arith, long)) rest
    by_class g made true rest =
        let slot : g.stay.slot ≡ length past + 1 = ap (λ (x : SlotGrant). x.stay.slot) (follows base past e g made).made in
        (omega arith, subst (λ n. RisesFrom n (stays_after base q c (past ++ e ∷ []) es)) (long ∙ sym slot) rest)

    by_grant : (o : Option SlotGrant) → grant_after base past e ≡ o → RisesFrom (length (past ++ e ∷ [])) (stays_after base q c (past ++ e ∷ []) es)
        → RisesFrom (length past) (map (λ x. x.stay) (filter (is_of q c) (option_map_or (λ x. x ∷ []) o [] ++ grants_after base (past ++ e ∷ []) es)))
    by_grant None made rest = rises_lower (length (past ++ e ∷ [])) (length past) (stays_after base q c (past ++ e ∷ []) es) (omega (arith, long)) rest
    by_grant (Some g) made rest = by_class g made (is_of q c g) rest
