-- At each stage one entry at most may come that begins no event, and where one may an event may not.
use Rattle.std.proofs.Common.{◌≡◌, ◌≢◌, ℕ, ◌<◌, ◌≤◌, ◌==◌, true, false, ◌⊎◌, inl, inr, IsTrue, Option, None, Some, length, refl, ap, sym, ◌∙◌, subst, arith}
use Rattle.std.proofs.lemmas.Bool.{and_parts}
use Rattle.std.proofs.lemmas.Bool.Decides.{Decides-eqb, nat_tests}
use Rattle.due_key.specs.declared.key.Key.{Key}
use Rattle.base_verdict.specs.declared.cause.Cause.TheVariants.{Aborted, Timeout, Retries, NoServer}
use Rattle.base_lists.proofs.Never.{false_true}
use Rattle.log_entries.specs.declared.entry.Entry.{Entry}
use Rattle.log_entries.specs.declared.entry.Entry.TheVariants.{Arrive, Done, Fail, Abort, Tick, Check, Limit, Direct}
use Rattle.log_entries.specs.declared.entry.Entry.TheVariants.{Joined, Granted, Moved, Freed, Retried, Left, Health, Ended}
use Rattle.log_entries.specs.declared.queue.Queue.{Queue}
use Rattle.log_entries.specs.declared.queue.Queue.TheVariants.{Backend, Server}
use Rattle.log_entries.specs.declared.row.Phase.{Phase}
use Rattle.log_entries.specs.declared.row.Phase.TheVariants.{Loose, Waiting, Serving, Told}
use Rattle.log_entries.specs.declared.row.Row.{Row}
use Rattle.log_entries.specs.declared.setup.Setup.{Setup}
use Rattle.log_entries.specs.Grants.{IsSettled, IsLawfulGrant}
use Rattle.log_entries.specs.Histories.{begins_event}
use Rattle.log_entries.specs.Judgement.{IsInPhase, HasSlot, IsTold, IsFirstExpired, IsFirstIn, was_up, Stage, placing, returning, ending, failing}
use Rattle.log_entries.specs.Judgement.{freed_by_failure, aborting, telling, checking, emptying, granting, EventIsOver, MayGrant, IsPut, IsPutAnew, MayCome}
use Rattle.log_entries.specs.Refusals.{is_waiting}
use Rattle.log_entries.specs.Retries.{are_spent, are_redispatched, are_retried}
use Rattle.log_entries.specs.Rows.{Rows, phase_is_served_by, phase_is_told, phase_waits_in, pin_of, failures_of}
use Rattle.log_entries.specs.States.{State, scene, Point, point_of}
use Rattle.log_entries.specs.Scenes.{Scene, is_up, is_free, may_go_to}
use Rattle.log_entries.proofs.Choices.{key_same, row_same, waits_same, goes, taker_same, chosen_same, chosen_not_backend, chosen_not_away}
use Rattle.log_entries.proofs.RowLemmas.{HaveOwnTickets}

-- what an event owes at a stage, grants aside
module _ (setup : Setup) (s : State) where
  abbrev pub Owed : Stage → Entry → Type 0
  Owed (placing newcomer) entry = IsPut (scene setup s) s.cursor (pin_of newcomer s.rows) None newcomer entry
  Owed (returning leaver) (Freed ticket server) = (ticket ≡ leaver) × HasSlot s.rows ticket server
  Owed (returning leaver) (Ended ticket) = (ticket ≡ leaver) × IsTold s.rows ticket
  Owed (ending leaver) (Ended ticket) = ticket ≡ leaver
  Owed (failing leaver) (Retried ticket server failures) =
      (ticket ≡ leaver) × HasSlot s.rows ticket server × (failures_of ticket s.rows ≡ failures) × IsTrue (are_retried setup failures)
  Owed (failing leaver) (Freed ticket server) =
      (ticket ≡ leaver) × HasSlot s.rows ticket server × (IsTrue (are_retried setup (failures_of ticket s.rows)) → ⊥)
  Owed (freed_by_failure leaver server) (Left ticket Retries) =
      (ticket ≡ leaver) × IsTrue (are_spent setup (failures_of ticket s.rows))
  Owed (freed_by_failure leaver server) entry = IsPutAnew setup s leaver server entry
  Owed (aborting leaver) (Left ticket Aborted) = (ticket ≡ leaver) × IsInPhase is_waiting s.rows ticket
  Owed telling (Left ticket Timeout) = IsFirstExpired setup s ticket
  Owed (checking checked) (Health server up) =
      (server ≡ checked) × (is_up (scene setup s) server ≡ up) × (was_up setup s server ≢ up)
  Owed (emptying emptied) (Moved ticket server) =
      (server ≡ emptied) × IsTrue setup.redispatch × IsFirstIn (Server server) s.rows ticket
  Owed stage entry = ⊥

  -- a grant that may come
  abbrev pub MayBeGranted : Stage → Entry → Type 0
  MayBeGranted stage (Granted ticket queue server) = MayGrant setup s stage × IsLawfulGrant (scene setup s) s.cursor ticket queue server
  MayBeGranted stage entry = ⊥

  -- an entry that may come, and begins no event
  abbrev pub IsNext : Stage → Entry → Type 0
  IsNext stage entry = MayBeGranted stage entry ⊎ Owed stage entry

  pub granted_or_owed : (n : ℕ) (t : Stage) (e : Entry) → begins_event e ≡ false → MayCome (point_of setup s n) t e → IsNext t e
  granted_or_owed n t (Arrive m a) none may = false_true (sym none)
  granted_or_owed n t (Done m u) none may = false_true (sym none)
  granted_or_owed n t (Fail m u) none may = false_true (sym none)
  granted_or_owed n t (Abort m u) none may = false_true (sym none)
  granted_or_owed n t (Tick m) none may = false_true (sym none)
  granted_or_owed n t (Check m v ok) none may = false_true (sym none)
  granted_or_owed n t (Limit m v k) none may = false_true (sym none)
  granted_or_owed n t (Granted u q v) none may = inl may
  granted_or_owed n (placing t) e none may = inr may
  granted_or_owed n (returning t) e none may = inr may
  granted_or_owed n (ending t) e none may = inr may
  granted_or_owed n (failing t) e none may = inr may
  granted_or_owed n (freed_by_failure t w) e none may = inr may
  granted_or_owed n (aborting t) e none may = inr may
  granted_or_owed n telling e none may = inr may
  granted_or_owed n (checking w) e none may = inr may
  granted_or_owed n (emptying w) e none may = inr may
  granted_or_owed n granting e none may = inr may

-- a slot, or a word that none came, are the row's of the ticket
same_slot : (rows : Rows) (u v w : ℕ) → HaveOwnTickets rows → HasSlot rows u v → HasSlot rows u w → v ≡ w
same_slot rows u v w own first second =
    let it : first.row ≡ second.row = row_same rows first.row second.row own first.live second.live (first.named ∙ sym second.named) in
    served_same first.row.phase first.phase (subst (λ (r : Row). phase_is_served_by w r.phase ≡ true) (sym it) second.phase)
  where
    served_same : (phase : Phase) → phase_is_served_by v phase ≡ true → phase_is_served_by w phase ≡ true → v ≡ w
    served_same (Serving x) a b = sym ((Decides-eqb x v).0 a) ∙ (Decides-eqb x w).0 b
    served_same Loose a b = false_true a
    served_same (Waiting q m) a b = false_true a
    served_same (Told c) a b = false_true a

slot_not_told : (rows : Rows) (u v : ℕ) → HaveOwnTickets rows → HasSlot rows u v → IsTold rows u → ⊥
slot_not_told rows u v own slot told =
    let it : slot.row ≡ told.row = row_same rows slot.row told.row own slot.live told.live (slot.named ∙ sym told.named) in
    apart slot.row.phase slot.phase (subst (λ (r : Row). phase_is_told r.phase ≡ true) (sym it) told.phase)
  where
    apart : (phase : Phase) → phase_is_served_by v phase ≡ true → phase_is_told phase ≡ true → ⊥
    apart (Serving x) a b = false_true b
    apart Loose a b = false_true a
    apart (Waiting q m) a b = false_true a
    apart (Told c) a b = false_true a

-- spent retries are neither tried again nor redispatched
spent_not_redispatched : (setup : Setup) (n : ℕ) → IsTrue (are_spent setup n) → IsTrue (are_redispatched setup n) → ⊥
spent_not_redispatched setup n spent redispatched =
    let same : n ≡ setup.retries = (Decides-eqb n setup.retries).0 (and_parts setup.redispatch (n == setup.retries) redispatched).1 in
    let more : setup.retries < n = grind (arith, nat_tests) in
    absurd (omega arith)

module _ (setup : Setup) (s : State) (own : HaveOwnTickets s.rows) (within : 0 < length setup.servers → s.cursor < length setup.servers) where
  abbrev sc : Scene
  sc = scene setup s

  -- the requests with the least key of a queue are one
  first_same : (q : Queue) (u w : ℕ) → IsFirstIn q s.rows u → IsFirstIn q s.rows w → u ≡ w
  first_same q u w first second =
      let key : first.row.key ≡ second.row.key =
      key_same first.row.key second.row.key (first.least second.row second.live second.waits) (second.least first.row first.live first.waits) in
      sym first.named ∙ ap (λ (k : Key). k.ticket) key ∙ second.named

  -- and so are the lawful grants
  granted_same : (u w : ℕ) (q r : Queue) (v x : ℕ) → IsLawfulGrant sc s.cursor u q v → IsLawfulGrant sc s.cursor w r x → Granted u q v ≡ Granted w r x
  granted_same u w q r v x first second =
      let server : v ≡ x = taker_same sc s.cursor within v x first.next second.next in
      let mine = goes sc v q first.row.phase first.waits first.taken in
      let its = goes sc x r second.row.phase second.waits second.taken in
      let to_its = subst (λ k. may_go_to sc k second.row.phase ≡ true) (sym server) its in
      let to_mine = subst (λ k. may_go_to sc k first.row.phase ≡ true) server mine in
      let key : first.row.key ≡ second.row.key =
      key_same first.row.key second.row.key (first.least second.row second.live to_its) (second.least first.row first.live to_mine) in
      let ticket : u ≡ w = sym first.named ∙ ap (λ (k : Key). k.ticket) key ∙ second.named in
      let row : first.row ≡ second.row = row_same s.rows first.row second.row own first.live second.live (ap (λ (k : Key). k.ticket) key) in
      let queue : q ≡ r = waits_same first.row.phase q r first.waits (subst (λ (y : Row). phase_waits_in r y.phase ≡ true) (sym row) second.waits) in
      cc

  -- what a placement comes to
  put_same : (pin avoid : Option ℕ) (t : ℕ) (e f : Entry) → IsPut sc s.cursor pin avoid t e → IsPut sc s.cursor pin avoid t f → e ≡ f
  put_same pin avoid t (Direct u v) (Direct w x) first second =
      let ticket : u ≡ w = first.0 ∙ sym second.0 in
      let server : v ≡ x = chosen_same sc s.cursor within pin avoid v x first.1.0 second.1.0 in
      cc
  put_same pin avoid t (Direct u v) (Joined w (Server x)) first second =
      let server : v ≡ x = chosen_same sc s.cursor within pin avoid v x first.1.0 second.1.0 in
      absurd (second.1.1 (subst (λ k. is_free sc k ≡ true) server first.1.1))
  put_same pin avoid t (Direct u v) (Joined w Backend) first second = absurd (chosen_not_backend sc s.cursor within pin avoid v first.1.0 second.1)
  put_same pin avoid t (Direct u v) (Left w NoServer) first second = absurd (chosen_not_away sc s.cursor within pin avoid v first.1.0 second.1)
  put_same pin avoid t (Direct u v) f first second = absurd second
  put_same pin avoid t (Joined u (Server v)) (Direct w x) first second =
      let server : v ≡ x = chosen_same sc s.cursor within pin avoid v x first.1.0 second.1.0 in
      absurd (first.1.1 (subst (λ k. is_free sc k ≡ true) (sym server) second.1.1))
  put_same pin avoid t (Joined u (Server v)) (Joined w (Server x)) first second =
      let ticket : u ≡ w = first.0 ∙ sym second.0 in
      let server : v ≡ x = chosen_same sc s.cursor within pin avoid v x first.1.0 second.1.0 in
      cc
  put_same pin avoid t (Joined u (Server v)) (Joined w Backend) first second = absurd (chosen_not_backend sc s.cursor within pin avoid v first.1.0 second.1)
  put_same pin avoid t (Joined u (Server v)) (Left w NoServer) first second = absurd (chosen_not_away sc s.cursor within pin avoid v first.1.0 second.1)
  put_same pin avoid t (Joined u (Server v)) f first second = absurd second
  put_same pin avoid t (Joined u Backend) (Direct w x) first second = absurd (chosen_not_backend sc s.cursor within pin avoid x second.1.0 first.1)
  put_same pin avoid t (Joined u Backend) (Joined w (Server x)) first second = absurd (chosen_not_backend sc s.cursor within pin avoid x second.1.0 first.1)
  put_same pin avoid t (Joined u Backend) (Joined w Backend) first second = let ticket : u ≡ w = first.0 ∙ sym second.0 in cc
  put_same pin avoid t (Joined u Backend) (Left w NoServer) first second = absurd (second.1.1 first.1.1.0 first.1.1.1)
  put_same pin avoid t (Joined u Backend) f first second = absurd second
  put_same pin avoid t (Left u NoServer) (Direct w x) first second = absurd (chosen_not_away sc s.cursor within pin avoid x second.1.0 first.1)
  put_same pin avoid t (Left u NoServer) (Joined w (Server x)) first second = absurd (chosen_not_away sc s.cursor within pin avoid x second.1.0 first.1)
  put_same pin avoid t (Left u NoServer) (Joined w Backend) first second = absurd (first.1.1 second.1.1.0 second.1.1.1)
  put_same pin avoid t (Left u NoServer) (Left w NoServer) first second = let ticket : u ≡ w = first.0 ∙ sym second.0 in cc
  put_same pin avoid t (Left u NoServer) f first second = absurd second
  put_same pin avoid t e f first second = absurd first

  -- what is owed at each other stage, told by what the entry is
  returned : (t : ℕ) (e : Entry) → Owed setup s (returning t) e → ((v : ℕ) × (e ≡ Freed t v) × HasSlot s.rows t v) ⊎ ((e ≡ Ended t) × IsTold s.rows t)
  returned t (Freed u v) owed = inl (v, ap (λ k. Freed k v) owed.0, subst (λ k. HasSlot s.rows k v) owed.0 owed.1)
  returned t (Ended u) owed = inr (ap Ended owed.0, subst (IsTold s.rows) owed.0 owed.1)
  returned t e owed = absurd owed

  ended : (t : ℕ) (e : Entry) → Owed setup s (ending t) e → e ≡ Ended t
  ended t (Ended u) owed = ap Ended owed
  ended t e owed = absurd owed

  record IsCarriedOn (t : ℕ) (e : Entry) : Type 0 where
    pub server : ℕ
    pub slot : HasSlot s.rows t server
    pub kept : IsTrue (are_retried setup (failures_of t s.rows)) → e ≡ Retried t server (failures_of t s.rows)
    pub given_back : (IsTrue (are_retried setup (failures_of t s.rows)) → ⊥) → e ≡ Freed t server
    pub decided : IsTrue (are_retried setup (failures_of t s.rows)) ⊎ (IsTrue (are_retried setup (failures_of t s.rows)) → ⊥)

  carried_on : (t : ℕ) (e : Entry) → Owed setup s (failing t) e → IsCarriedOn t e
  carried_on t (Retried u v k) owed =
      let ticket : u ≡ t = owed.0 in
      let count : failures_of t s.rows ≡ k = subst (λ x. failures_of x s.rows ≡ k) ticket owed.2 in
      let again : IsTrue (are_retried setup (failures_of t s.rows)) = subst (λ x. are_retried setup x ≡ true) (sym count) owed.3 in
      record {
        server = v;
        slot = subst (λ x. HasSlot s.rows x v) ticket owed.1;
        kept = λ retried. ap (λ x. Retried x v k) ticket ∙ ap (λ x. Retried t v x) (sym count);
        given_back = λ refused. absurd (refused again);
        decided = inl again;
      }
  carried_on t (Freed u v) owed =
      let ticket : u ≡ t = owed.0 in
      let refused : IsTrue (are_retried setup (failures_of t s.rows)) → ⊥ = subst (λ x. IsTrue (are_retried setup (failures_of x s.rows)) → ⊥) ticket owed.2 in
      record {
        server = v;
        slot = subst (λ x. HasSlot s.rows x v) ticket owed.1;
        kept = λ retried. absurd (refused retried);
        given_back = λ never. ap (λ x. Freed x v) ticket;
        decided = inr refused;
      }
  carried_on t e owed = absurd owed

  left_behind : (t w : ℕ) (e : Entry) → Owed setup s (freed_by_failure t w) e
      → ((e ≡ Left t Retries) × IsTrue (are_spent setup (failures_of t s.rows))) ⊎ IsPutAnew setup s t w e
  left_behind t w (Left u Retries) owed = inl (ap (λ k. Left k Retries) owed.0, subst (λ k. are_spent setup (failures_of k s.rows) ≡ true) owed.0 owed.1)
  left_behind t w e owed = inr owed

  gave_up : (t : ℕ) (e : Entry) → Owed setup s (aborting t) e → e ≡ Left t Aborted
  gave_up t (Left u Aborted) owed = ap (λ k. Left k Aborted) owed.0
  gave_up t e owed = absurd owed

  told : (e : Entry) → Owed setup s telling e → (u : ℕ) × (e ≡ Left u Timeout) × IsFirstExpired setup s u
  told (Left u Timeout) owed = (u, refl, owed)
  told e owed = absurd owed

  changed_health : (v : ℕ) (e : Entry) → Owed setup s (checking v) e → (e ≡ Health v (is_up sc v)) × (was_up setup s v ≢ is_up sc v)
  changed_health v (Health w up) owed =
      let server : w ≡ v = owed.0 in
      let now : is_up sc v ≡ up = subst (λ k. is_up sc k ≡ up) server owed.1 in
      (ap (λ k. Health k up) server ∙ ap (λ b. Health v b) (sym now), λ same. owed.2 (ap (was_up setup s) server ∙ same ∙ now))
  changed_health v e owed = absurd owed

  moved_on : (v : ℕ) (e : Entry) → Owed setup s (emptying v) e → (u : ℕ) × (e ≡ Moved u v) × IsTrue setup.redispatch × IsFirstIn (Server v) s.rows u
  moved_on v (Moved u w) owed = (u, ap (λ k. Moved u k) owed.0, owed.1, subst (λ k. IsFirstIn (Server k) s.rows u) owed.0 owed.2)
  moved_on v e owed = absurd owed

  expired_same : (u w : ℕ) → IsFirstExpired setup s u → IsFirstExpired setup s w → u ≡ w
  expired_same u w first second =
      let low : u ≤ second.row.key.ticket = first.first second.row second.expired in
      let high : w ≤ first.row.key.ticket = second.first first.row first.expired in
      omega (arith, low, high, first.named, second.named)

  -- what is owed is one
  owed_same : (t : Stage) (e f : Entry) → Owed setup s t e → Owed setup s t f → e ≡ f
  owed_same (placing t) e f first second = put_same (pin_of t s.rows) None t e f first second
  owed_same (returning t) e f first second =
      elim (returned t e first) [
        | inl a ↦ elim (returned t f second) [
          | inl b ↦ a.1 ∙ ap (Freed t) (same_slot s.rows t a.0 b.0 own a.2 b.2) ∙ sym b.1
          | inr b ↦ absurd (slot_not_told s.rows t a.0 own a.2 b.1)
        ]
        | inr a ↦ elim (returned t f second) [
          | inl b ↦ absurd (slot_not_told s.rows t b.0 own b.2 a.1)
          | inr b ↦ a.0 ∙ sym b.0
        ]
      ]
  owed_same (ending t) e f first second = ended t e first ∙ sym (ended t f second)
  owed_same (failing t) e f first second =
      let a = carried_on t e first in
      let b = carried_on t f second in
      let server : a.server ≡ b.server = same_slot s.rows t a.server b.server own a.slot b.slot in
      elim a.decided [
        | inl again ↦ a.kept again ∙ ap (λ k. Retried t k (failures_of t s.rows)) server ∙ sym (b.kept again)
        | inr refused ↦ a.given_back refused ∙ ap (Freed t) server ∙ sym (b.given_back refused)
      ]
  owed_same (freed_by_failure t w) e f first second =
      elim (left_behind t w e first) [
        | inl a ↦ elim (left_behind t w f second) [
          | inl b ↦ a.0 ∙ sym b.0
          | inr b ↦ absurd (spent_not_redispatched setup (failures_of t s.rows) a.1 b.redispatched)
        ]
        | inr a ↦ elim (left_behind t w f second) [
          | inl b ↦ absurd (spent_not_redispatched setup (failures_of t s.rows) b.1 a.redispatched)
          | inr b ↦ put_same None (Some w) t e f a.put b.put
        ]
      ]
  owed_same (aborting t) e f first second = gave_up t e first ∙ sym (gave_up t f second)
  owed_same telling e f first second =
      let a = told e first in
      let b = told f second in
      a.1 ∙ ap (λ k. Left k Timeout) (expired_same a.0 b.0 a.2 b.2) ∙ sym b.1
  owed_same (checking v) e f first second = (changed_health v e first).0 ∙ sym (changed_health v f second).0
  owed_same (emptying v) e f first second =
      let a = moved_on v e first in
      let b = moved_on v f second in
      a.1 ∙ ap (λ k. Moved k v) (first_same (Server v) a.0 b.0 a.3 b.3) ∙ sym b.1
  owed_same granting e f first second = absurd first

  -- where nothing but grants is owed, nothing is
  over_owes_none : (t : Stage) (e : Entry) → EventIsOver setup s t → Owed setup s t e → ⊥
  over_owes_none granting e over owed = owed
  over_owes_none telling e over owed = let it = told e owed in over it.2.row it.2.expired
  over_owes_none (checking v) e over owed = (changed_health v e owed).1 over
  over_owes_none (emptying v) e over owed = let it = moved_on v e owed in over it.2 it.3.row it.3.live it.3.waits
  over_owes_none t e over owed = absurd over

  -- and where a slot may go to another request first, the one that is put anew isn't put yet
  grant_owes_none : (t : Stage) (u v : ℕ) (q : Queue) (e : Entry) → MayGrant setup s t → IsLawfulGrant sc s.cursor u q v → Owed setup s t e → ⊥
  grant_owes_none (freed_by_failure t w) u v q e may grant owed =
      elim (left_behind t w e owed) [
        | inl spent ↦ spent_not_redispatched setup (failures_of t s.rows) spent.1 may
        | inr put ↦ put.settled v grant.next.takes
      ]
  grant_owes_none granting u v q e may grant owed = owed
  grant_owes_none telling u v q e may grant owed = over_owes_none telling e may owed
  grant_owes_none (checking w) u v q e may grant owed = over_owes_none (checking w) e may owed
  grant_owes_none (emptying w) u v q e may grant owed = over_owes_none (emptying w) e may owed
  grant_owes_none t u v q e may grant owed = absurd may

  granted_is : (t : Stage) (e : Entry) → MayBeGranted setup s t e
      → (u : ℕ) × (q : Queue) × (v : ℕ) × (e ≡ Granted u q v) × MayGrant setup s t × IsLawfulGrant sc s.cursor u q v
  granted_is t (Granted u q v) may = (u, q, v, refl, may.0, may.1)
  granted_is t e may = absurd may

  -- two entries that may come and begin no event are one
  pub same_entry : (t : Stage) (e f : Entry) → IsNext setup s t e → IsNext setup s t f → e ≡ f
  same_entry t e f (inl first) (inl second) =
      let x = granted_is t e first in
      let y = granted_is t f second in
      x.3 ∙ granted_same x.0 y.0 x.1 y.1 x.2 y.2 x.5 y.5 ∙ sym y.3
  same_entry t e f (inl first) (inr second) = let x = granted_is t e first in absurd (grant_owes_none t x.0 x.2 x.1 f x.4 x.5 second)
  same_entry t e f (inr first) (inl second) = let y = granted_is t f second in absurd (grant_owes_none t y.0 y.2 y.1 e y.4 y.5 first)
  same_entry t e f (inr first) (inr second) = owed_same t e f first second

  -- where an event may begin, or a log may end, none of them may come
  pub event_alone : (t : Stage) (e : Entry) → EventIsOver setup s t → IsSettled sc → IsNext setup s t e → ⊥
  event_alone t e over settled (inl grant) = let x = granted_is t e grant in settled x.2 x.5.next.takes
  event_alone t e over settled (inr owed) = over_owes_none t e over owed

-- an event may come where the one before is over and all is settled
pub event_begins : (here : Point) (t : Stage) (e : Entry) → begins_event e ≡ true → MayCome here t e
    → EventIsOver here.setup here.state t × IsSettled (scene here.setup here.state)
event_begins here t (Arrive m a) begins may = (may.0.over, may.0.settled)
event_begins here t (Done m u) begins may = (may.over, may.settled)
event_begins here t (Fail m u) begins may = (may.over, may.settled)
event_begins here t (Abort m u) begins may = (may.over, may.settled)
event_begins here t (Tick m) begins may = (may.over, may.settled)
event_begins here t (Check m v ok) begins may = (may.over, may.settled)
event_begins here t (Limit m v k) begins may = (may.over, may.settled)
event_begins here t e begins may = false_true begins
