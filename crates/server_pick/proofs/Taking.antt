-- Servers that take from queues.
use Rattle.std.proofs.Common.{◌≡◌, ◌≢◌, ℕ, ◌<◌, ◌≤◌, nat_lt, ◌&&◌, ◌==◌, Bool, true, false, IsTrue, Option, None, Some, MatchOption}
use Rattle.std.proofs.Common.{slice_get, if◌then◌else◌, ◌↔◌, refl, ap, sym, ◌∙◌, subst, arith, ◌⊎◌, inl, inr, Ordering, Less, Equal, Greater}
use Rattle.std.specs.Ordering.{is_lt}
use Rattle.std.proofs.lemmas.Bool.{and_from, or_cases, or_left, or_right}
use Rattle.std.proofs.lemmas.Bool.Decides.{Decides-eqb, nat_tests}
use Rattle.due_key.specs.declared.key.Key.{Key}
use Rattle.due_key.specs.Order.{key_cmp}
use Rattle.due_key.proofs.KeyOrder.{key_cmp_total, key_cmp_exact}
use Rattle.base_lists.proofs.Orders.{less_from_greater, greater_from_less}
use Rattle.log_entries.specs.declared.queue.Queue.{Queue}
use Rattle.log_entries.specs.declared.queue.Queue.TheVariants.{Backend, Server}
use Rattle.log_entries.specs.declared.row.Phase.{Phase}
use Rattle.log_entries.specs.declared.row.Phase.TheVariants.{Loose, Waiting, Serving, Told}
use Rattle.log_entries.specs.declared.row.Row.{Row}
use Rattle.log_entries.specs.Grants.{CanTake, IsSettled, IsNextTaker}
use Rattle.log_entries.specs.Picks.{weight_of, IsPick}
use Rattle.log_entries.specs.Rows.{Rows, IsRow, phase_waits_in, waits_in, queued}
use Rattle.log_entries.specs.Scenes.{Scene, is_up, is_usable, may_take, may_go_to}
use Rattle.log_entries.proofs.Choices.{goes, queue_own}
use Rattle.server_pick.specs.declared.heads.Heads.{Heads}
use Rattle.server_pick.specs.Heads.{head_at, IsLeastIn, IsHead, IsLawfulTake, has_stay, goes_first, queue_of}
use Rattle.server_pick.specs.Picked.{IsFirstWeightless}
use Rattle.base_lists.proofs.Both.{and_first, and_second}
use Rattle.base_lists.proofs.Counts.{some_at, at_some}
use Rattle.server_pick.proofs.Chosen.{pick_same}

-- no key is greater than one that is no greater than a third
no_greater : (a b c : Key) → key_cmp a b ≢ Greater → key_cmp b c ≢ Greater → key_cmp a c ≢ Greater
no_greater a b c one two = by_order (key_cmp a b) refl
  where
    by_order : (o : Ordering) → key_cmp a b ≡ o → key_cmp a c ≢ Greater
    by_order Greater e = absurd (one e)
    by_order Equal e = subst (λ (k : Key). key_cmp k c ≢ Greater) (sym (key_cmp_exact a b e)) two
    by_order Less e = λ greater.
        let back : key_cmp c a ≡ Less = less_from_greater key_cmp_total a c greater in
        let far : key_cmp c b ≡ Less = key_cmp_total.trans c a b back e in
        two (greater_from_less key_cmp_total c b far)

-- and a row that may go to a server waits in a queue that it may take from
pub may_go_waits : (scene : Scene) (server : ℕ) (phase : Phase) → may_go_to scene server phase ≡ true
    → (queue : Queue) × (phase_waits_in queue phase ≡ true) × (may_take scene server queue ≡ true)
may_go_waits scene server Loose m = cc
may_go_waits scene server (Serving s) m = cc
may_go_waits scene server (Told c) m = cc
may_go_waits scene server (Waiting queue since) m = (queue, queue_own queue, m)

-- a row that may go to a server waits in its own queue where the server is up, or in the backend's where it is usable
by_queues : (scene : Scene) (server : ℕ) (phase : Phase) → may_go_to scene server phase ≡ true
    → ((is_up scene server ≡ true) × (phase_waits_in (Server server) phase ≡ true)) ⊎ ((is_usable scene server ≡ true) × (phase_waits_in Backend phase ≡ true))
by_queues scene server phase m = go (may_go_waits scene server phase m)
  where
    go : (queue : Queue) × (phase_waits_in queue phase ≡ true) × (may_take scene server queue ≡ true)
        → ((is_up scene server ≡ true) × (phase_waits_in (Server server) phase ≡ true))
        ⊎ ((is_usable scene server ≡ true) × (phase_waits_in Backend phase ≡ true))
    go (Backend, w, t) = inr (t, w)
    go (Server own, w, t) = inl (
      and_first (is_up scene server) (own == server) t,
      subst (λ s. phase_waits_in (Server s) phase ≡ true) ((Decides-eqb own server).0 (and_second (is_up scene server) (own == server) t)) w,
    )

own_taken : (scene : Scene) (server : ℕ) → is_up scene server ≡ true → may_take scene server (Server server) ≡ true
own_taken scene server up = rw up ((Decides-eqb server server).1 refl)

-- a server that can take is up
pub taker_up : (scene : Scene) (server : ℕ) → CanTake scene server → is_up scene server ≡ true
taker_up scene server can = elim (by_queues scene server can.1.0.phase can.1.2) [ inl w ↦ w.0 | inr w ↦ and_first (is_up scene server) _ w.0 ]

-- somebody waits in a queue exactly where one of the rows does
pub waits_counted : (queue : Queue) (rows : Rows)
    → nat_lt 0 (queued queue rows) ≡ true ↔ ((row : Row) × IsRow rows row × (phase_waits_in queue row.phase ≡ true))
waits_counted queue rows = (
  (λ some. by_cell (at_some (waits_in queue) rows (let n = some in grind (arith, nat_tests)))),
  (λ it. let some : 1 ≤ queued queue rows = some_at (waits_in queue) rows it.1.0 (Some it.0) it.1.1 it.2 in grind (arith, nat_tests)),
)
  where
    by_cell : (i : ℕ) × (x : Option Row) × (slice_get rows i ≡ Some x) × (waits_in queue x ≡ true)
        → (row : Row) × IsRow rows row × (phase_waits_in queue row.phase ≡ true)
    by_cell (i, Some row, at, waits) = (row, (i, at), waits)
    by_cell (i, None, at, waits) = cc

-- a server has a stay exactly where a request may go to it
pub stay_may_go : (scene : Scene) (server : ℕ) → has_stay scene server ≡ true ↔ ((row : Row) × IsRow scene.rows row × IsTrue (may_go_to scene server row.phase))
stay_may_go scene server = (
  (λ stay. elim (or_cases (is_up scene server && own) (is_usable scene server && other) stay) [
    | inl it ↦
        let r = (waits_counted (Server server) scene.rows).0 (and_second (is_up scene server) own it) in
        (r.0, r.1, goes scene server (Server server) r.0.phase r.2 (own_taken scene server (and_first (is_up scene server) own it)))
    | inr it ↦
        let r = (waits_counted Backend scene.rows).0 (and_second (is_usable scene server) other it) in
        (r.0, r.1, goes scene server Backend r.0.phase r.2 (and_first (is_usable scene server) other it))
  ]),
  (λ may. elim (by_queues scene server may.0.phase may.2) [
    | inl w ↦ or_left (is_up scene server && own) (is_usable scene server && other)
        (and_from (is_up scene server) own w.0 ((waits_counted (Server server) scene.rows).1 (may.0, may.1, w.1)))
    | inr w ↦ or_right (is_up scene server && own) (is_usable scene server && other)
        (and_from (is_usable scene server) other w.0 ((waits_counted Backend scene.rows).1 (may.0, may.1, w.1)))
  ]),
)
  where
    own : Bool
    own = nat_lt 0 (queued (Server server) scene.rows)

    other : Bool
    other = nat_lt 0 (queued Backend scene.rows)

-- the first of weight 0 takes next
pub weightless_next : (scene : Scene) (cursor : ℕ) (among : ℕ → Type 0) (server : ℕ) → ((k : ℕ) → among k ↔ CanTake scene k)
    → IsFirstWeightless scene among (Some server) → IsNextTaker scene cursor server
weightless_next scene cursor among server same is = record {
  takes = (same server).0 is.0;
  weightless_first = λ other none can. (is.1, is.2 other ((same other).1 can) none);
  picked = λ some. let none = is.1 in absurd (omega arith);
}

-- and where there is none, the pick
pub picked_next : (scene : Scene) (cursor : ℕ) (among : ℕ → Type 0) (picked : Option ℕ) → ((k : ℕ) → among k ↔ CanTake scene k)
    → IsFirstWeightless scene among None → MatchOption picked ((k : ℕ) → among k → ⊥) (λ server. IsPick scene cursor among server)
    → MatchOption picked (IsSettled scene) (IsNextTaker scene cursor)
picked_next scene cursor among None same weighty none = λ server can. none server ((same server).1 can)
picked_next scene cursor among (Some server) same weighty is = record {
  takes = (same server).0 is.member;
  weightless_first = λ other none can. let some : 0 < weight_of scene other = weighty other ((same other).1 can) in absurd (omega arith);
  picked = λ some. pick_same scene cursor among (CanTake scene) server same is;
}

not_first : (key its : Key) → is_lt (key_cmp its key) ≡ false → key_cmp key its ≢ Greater
not_first key its f greater = let less : key_cmp its key ≡ Less = less_from_greater key_cmp_total key its greater in let no : true ≡ false = sym (ap is_lt less)
    ∙ f in cc

first_less : (key mine : Key) → is_lt (key_cmp key mine) ≡ true → key_cmp key mine ≢ Greater
first_less key mine t greater = let no : false ≡ true = sym (ap is_lt greater) ∙ t in cc

-- the next taker takes the smaller head
pub lawful_take : (scene : Scene) (cursor : ℕ) (heads : Heads) (server : ℕ) → IsHead heads.own (Server server) scene.rows
    → IsHead heads.backend Backend scene.rows → IsNextTaker scene cursor server → IsLawfulTake scene cursor heads server (queue_of scene heads server)
lawful_take scene cursor heads server own other next = go (is_usable scene server) refl heads.own refl own heads.backend refl other
  where
    -- a head that is no greater than any that the server may take
    take : (queue : Queue) (key : Key) → head_at heads queue ≡ Some key → IsLeastIn queue scene.rows key → may_take scene server queue ≡ true
        → ((r : Row) → IsRow scene.rows r → phase_waits_in (Server server) r.phase ≡ true → key_cmp key r.key ≢ Greater)
        → ((r : Row) → IsRow scene.rows r → is_usable scene server ≡ true → phase_waits_in Backend r.phase ≡ true → key_cmp key r.key ≢ Greater)
        → IsLawfulTake scene cursor heads server queue
    take queue key head is taken first second = (
      key,
      head,
      record {
        row = is.row;
        live = is.live;
        named = ap (λ (k : Key). k.ticket) is.own;
        waits = is.waits;
        taken = taken;
        next = next;
        least = λ r live may. subst (λ (k : Key). key_cmp k r.key ≢ Greater) (sym is.own)
            (elim (by_queues scene server r.phase may) [ inl w ↦ first r live w.1 | inr w ↦ second r live w.0 w.1 ]);
      },
    )

    -- some request waits that the server may take
    idle : {P : Type 0} → ((r : Row) → IsRow scene.rows r → phase_waits_in (Server server) r.phase ≡ true → ⊥)
        → ((r : Row) → IsRow scene.rows r → is_usable scene server ≡ true → phase_waits_in Backend r.phase ≡ true → ⊥) → P
    idle first second = absurd (elim (by_queues scene server next.takes.1.0.phase next.takes.1.2)
        [ inl w ↦ first next.takes.1.0 next.takes.1.1 w.1 | inr w ↦ second next.takes.1.0 next.takes.1.1 w.0 w.1 ])

    both : (key its : Key) → heads.own ≡ Some key → IsLeastIn (Server server) scene.rows key → heads.backend ≡ Some its → IsLeastIn Backend scene.rows its
        → is_usable scene server ≡ true → (b : Bool) → is_lt (key_cmp its key) ≡ b
        → IsLawfulTake scene cursor heads server (if is_lt (key_cmp its key) then Backend else Server server)
    both key its k own l other e true t = rw t
        (take Backend its l other e (λ r live w. no_greater its key r.key (first_less its key t) (own.least r live w)) (λ r live u w. other.least r live w))
    both key its k own l other e false t = rw t
        (take (Server server) key k own (own_taken scene server (taker_up scene server next.takes)) own.least
        (λ r live u w. no_greater key its r.key (not_first key its t) (other.least r live w)))

    go : (u : Bool) → is_usable scene server ≡ u → (h : Option Key) → heads.own ≡ h → IsHead h (Server server) scene.rows → (b : Option Key) → heads.backend ≡ b
        → IsHead b Backend scene.rows
        → IsLawfulTake scene cursor heads server (if u && goes_first b h then Backend else Server server)
    go false e None k own b l other = idle own (λ r live t w. let no : false ≡ true = sym e ∙ t in cc)
    go false e (Some key) k own b l other = take (Server server) key k own (own_taken scene server (taker_up scene server next.takes)) own.least
        (λ r live t w. let no : false ≡ true = sym e ∙ t in cc)
    go true e None k own None l other = idle own (λ r live t w. other r live w)
    go true e None k own (Some its) l other = take Backend its l other e (λ r live w. absurd (own r live w)) (λ r live t w. other.least r live w)
    go true e (Some key) k own None l other =
        take (Server server) key k own (own_taken scene server (taker_up scene server next.takes)) own.least (λ r live t w. absurd (other r live w))
    go true e (Some key) k own (Some its) l other = both key its k own l other e (is_lt (key_cmp its key)) refl
