-- What is chosen is one: the least key of some rows, the pick of some servers, the server that takes next.
use Rattle.std.proofs.Common.{◌≡◌, ◌≢◌, ℕ, zero, suc, ◌+◌, ◌-◌, ◌<◌, ◌≤◌, ◌==◌, ◌&&◌, ◌||◌, nat_lt, Bool, true, false, cond}
use Rattle.std.proofs.Common.{Option, None, Some, MatchOption, length, slice_get, refl, ap, sym, ◌∙◌, subst, arith, Ordering, Less, Equal, Greater}
use Rattle.std.specs.Option.{option_map_or}
use Rattle.std.proofs.lemmas.Bool.{and_parts}
use Rattle.std.proofs.lemmas.Bool.Decides.{Decides-eqb, nat_tests}
use Rattle.std.proofs.lemmas.Option.{same_Some, slice_get_within}
use Rattle.due_key.specs.declared.key.Key.{Key}
use Rattle.due_key.specs.Order.{key_cmp}
use Rattle.due_key.proofs.KeyOrder.{key_cmp_total, key_cmp_exact}
use Rattle.base_lists.proofs.Orders.{greater_from_less}
use Rattle.base_lists.proofs.Never.{false_true, none_some}
use Rattle.log_entries.specs.declared.queue.Queue.{Queue}
use Rattle.log_entries.specs.declared.queue.Queue.TheVariants.{Backend, Server}
use Rattle.log_entries.specs.declared.row.Phase.{Phase}
use Rattle.log_entries.specs.declared.row.Phase.TheVariants.{Loose, Waiting, Serving, Told}
use Rattle.log_entries.specs.declared.row.Row.{Row}
use Rattle.log_entries.specs.declared.setup.ServerSet.{ServerSet}
use Rattle.log_entries.specs.Grants.{CanTake, IsNextTaker}
use Rattle.log_entries.specs.Picks.{weight_of, steps_after, IsPick}
use Rattle.log_entries.specs.Placement.{IsCandidate, IsChosen, IsJoining, IsTurnedAway}
use Rattle.log_entries.specs.Rows.{Rows, IsRow, queued, same_queue, phase_waits_in}
use Rattle.log_entries.specs.Scenes.{Scene, limit_of, is_open, of_server, is_up, is_usable, is_free, has_room, takes_pinned, working_pin, may_take, may_go_to}
use Rattle.log_entries.proofs.RowLemmas.{HaveOwnTickets}

-- keys of which neither comes after the other are one
pub key_same : (a b : Key) → key_cmp a b ≢ Greater → key_cmp b a ≢ Greater → a ≡ b
key_same a b below above = by_order (key_cmp a b) refl
  where
    by_order : (o : Ordering) → key_cmp a b ≡ o → a ≡ b
    by_order Less e = absurd (above (greater_from_less key_cmp_total a b e))
    by_order Equal e = key_cmp_exact a b e
    by_order Greater e = absurd (below e)

-- rows of one ticket are one
pub row_same : (rows : Rows) (r u : Row) → HaveOwnTickets rows → IsRow rows r → IsRow rows u → r.key.ticket ≡ u.key.ticket → r ≡ u
row_same rows r u own (p, at) (q, there) named =
    let here : p ≡ q = own.own p q r u at there named in
    same_Some r u (same_Some (Some r) (Some u) (sym at ∙ ap (slice_get rows) here ∙ there))

-- queues that are the same are one, and so is the queue that a phase waits in
pub queue_same : (a b : Queue) → same_queue a b ≡ true → a ≡ b
queue_same Backend Backend e = refl
queue_same (Server a) (Server b) e = ap Server ((Decides-eqb a b).0 e)
queue_same Backend (Server b) e = false_true e
queue_same (Server a) Backend e = false_true e

pub queue_own : (q : Queue) → same_queue q q ≡ true
queue_own Backend = refl
queue_own (Server s) = (Decides-eqb s s).1 refl

pub waits_same : (phase : Phase) (a b : Queue) → phase_waits_in a phase ≡ true → phase_waits_in b phase ≡ true → a ≡ b
waits_same (Waiting q m) a b first second = queue_same a q first ∙ sym (queue_same b q second)
waits_same Loose a b first second = false_true first
waits_same (Serving v) a b first second = false_true first
waits_same (Told c) a b first second = false_true first

-- a slot that may go to a queue may go to each row that waits there
pub goes : (scene : Scene) (v : ℕ) (q : Queue) (phase : Phase) → phase_waits_in q phase ≡ true → may_take scene v q ≡ true → may_go_to scene v phase ≡ true
goes scene v q (Waiting other m) waits takes = subst (λ (x : Queue). may_take scene v x ≡ true) (queue_same q other waits) takes
goes scene v q Loose waits takes = false_true waits
goes scene v q (Serving w) waits takes = false_true waits
goes scene v q (Told c) waits takes = false_true waits

-- a server of which a test holds is there
pub there : (scene : Scene) (v : ℕ) (test : ServerSet → Bool) → of_server scene v test ≡ true → v < length scene.servers
there scene v test holds = by_server (slice_get scene.servers v) refl holds
  where
    by_server : (o : Option ServerSet) → slice_get scene.servers v ≡ o → option_map_or test o false ≡ true → v < length scene.servers
    by_server None e holds = false_true holds
    by_server (Some it) e holds = slice_get_within scene.servers v it e

pub free_there : (scene : Scene) (v : ℕ) → is_free scene v ≡ true → v < length scene.servers
free_there scene v free = there scene v _ free

pub room_there : (scene : Scene) (v : ℕ) → has_room scene v ≡ true → v < length scene.servers
room_there scene v room = there scene v _ (and_parts (is_usable scene v) _ room).1

room_usable : (scene : Scene) (v : ℕ) → has_room scene v ≡ true → is_usable scene v ≡ true
room_usable scene v room = (and_parts (is_usable scene v) _ room).0

-- the server whose pin works is there
pub pinned_there : (scene : Scene) (pin : Option ℕ) (v : ℕ) → working_pin scene pin ≡ Some v → v < length scene.servers
pinned_there scene None v works = none_some works
pinned_there scene (Some p) v works = by_test (takes_pinned scene p) refl works
  where
    by_free : (b : Bool) → is_free scene p ≡ b → (b || of_server scene p (λ it. (it.maxqueue == 0) || nat_lt (queued (Server p) scene.rows) it.maxqueue)) ≡ true
        → p < length scene.servers
    by_free true e holds = free_there scene p e
    by_free false e holds = there scene p _ holds

    by_test : (b : Bool) → takes_pinned scene p ≡ b → cond b (Some p) None ≡ Some v → v < length scene.servers
    by_test true e found =
        let parts = and_parts (is_up scene p && is_open (limit_of scene p)) _ e in
        subst (λ k. k < length scene.servers) (same_Some p v found) (by_free (is_free scene p) refl parts.1)
    by_test false e found = none_some found

-- servers as far after the cursor as one another are one
steps_same : (n cursor a b : ℕ) → cursor < n → a < n → b < n
    → cond (nat_lt cursor a) (a - cursor) ((a + n) - cursor) ≡ cond (nat_lt cursor b) (b - cursor) ((b + n) - cursor) → a ≡ b
steps_same n cursor a b within first second same = grind (arith, nat_tests)

module _ (scene : Scene) (cursor : ℕ) (within : 0 < length scene.servers → cursor < length scene.servers) where
  pub pick_same : (among : ℕ → Type 0) (a b : ℕ) → ((v : ℕ) → among v → v < length scene.servers) → IsPick scene cursor among a → IsPick scene cursor among b
      → a ≡ b
  pick_same among a b is_there first second =
      let nearer : steps_after scene cursor a ≤ steps_after scene cursor b = first.nearest b second.member second.least in
      let farther : steps_after scene cursor b ≤ steps_after scene cursor a = second.nearest a first.member first.least in
      let low : a < length scene.servers = is_there a first.member in
      let high : b < length scene.servers = is_there b second.member in
      steps_same (length scene.servers) cursor a b (within (omega arith)) low high (omega arith)

  pub taker_same : (a b : ℕ) → IsNextTaker scene cursor a → IsNextTaker scene cursor b → a ≡ b
  taker_same a b first second = by_weights (weight_of scene a) (weight_of scene b) refl refl
    where
      by_weights : (m n : ℕ) → weight_of scene a ≡ m → weight_of scene b ≡ n → a ≡ b
      by_weights zero n e f =
          let up = second.weightless_first a e first.takes in
          let down = first.weightless_first b up.0 second.takes in
          let low : b ≤ a = up.1 in
          let high : a ≤ b = down.1 in
          omega arith
      by_weights (suc m) zero e f =
          let down = first.weightless_first b f second.takes in
          let none : weight_of scene a ≡ 0 = down.0 in
          absurd (omega (arith, none, e))
      by_weights (suc m) (suc n) e f =
          pick_same (CanTake scene) a b (λ v can. free_there scene v can.0) (first.picked (omega (arith, e))) (second.picked (omega (arith, f)))

  -- the server that a request is put on
  pub chosen_same : (pin avoid : Option ℕ) (a b : ℕ) → IsChosen scene cursor pin avoid a → IsChosen scene cursor pin avoid b → a ≡ b
  chosen_same pin avoid a b first second = by_pin (working_pin scene pin) first second
    where
      by_pin : (o : Option ℕ) → MatchOption o (IsPick scene cursor (IsCandidate scene avoid) a) (λ own. own ≡ a)
          → MatchOption o (IsPick scene cursor (IsCandidate scene avoid) b) (λ own. own ≡ b) → a ≡ b
      by_pin None first second = pick_same (IsCandidate scene avoid) a b (λ v it. room_there scene v it.0) first second
      by_pin (Some own) first second = sym first ∙ second

  pub chosen_there : (pin avoid : Option ℕ) (v : ℕ) → IsChosen scene cursor pin avoid v → v < length scene.servers
  chosen_there pin avoid v chosen = by_pin (working_pin scene pin) refl chosen
    where
      by_pin : (o : Option ℕ) → working_pin scene pin ≡ o → MatchOption o (IsPick scene cursor (IsCandidate scene avoid) v) (λ own. own ≡ v)
          → v < length scene.servers
      by_pin None e it = room_there scene v it.member.0
      by_pin (Some own) e it = pinned_there scene pin v (e ∙ ap Some it)

  -- where there is one, some server is usable and has room, or the pin works
  chosen_room : (pin avoid : Option ℕ) (v : ℕ) → IsChosen scene cursor pin avoid v → working_pin scene pin ≡ None → has_room scene v ≡ true
  chosen_room pin avoid v chosen none = by_pin (working_pin scene pin) none chosen
    where
      by_pin : (o : Option ℕ) → o ≡ None → MatchOption o (IsPick scene cursor (IsCandidate scene avoid) v) (λ own. own ≡ v) → has_room scene v ≡ true
      by_pin None e it = it.member.0
      by_pin (Some own) e it = none_some (sym e)

  pub chosen_not_backend : (pin avoid : Option ℕ) (v : ℕ) → IsChosen scene cursor pin avoid v → IsJoining scene cursor pin avoid Backend → ⊥
  chosen_not_backend pin avoid v chosen joins = joins.2 v (chosen_room pin avoid v chosen joins.0)

  pub chosen_not_away : (pin avoid : Option ℕ) (v : ℕ) → IsChosen scene cursor pin avoid v → IsTurnedAway scene pin → ⊥
  chosen_not_away pin avoid v chosen away = away.1 v (room_usable scene v (chosen_room pin avoid v chosen away.0))
