-- Grants and moves of a logged state.
use Rattle.std.proofs.Common.{◌≡◌, ◌≢◌, ℕ, ◌+◌, ◌<◌, ◌≤◌, List, [], ◌∷◌, Option, None, Some, IsTrue, length, refl, ap, sym, ◌∙◌, subst}
use Rattle.std.proofs.Common.{arith, ◌==◌, Ordering, Less, Equal, Greater}
use Rattle.std.proofs.lemmas.Bool.Decides.{Decides-eqb}
use Rattle.due_key.specs.declared.key.Key.{Key}
use Rattle.due_key.specs.Order.{key_cmp}
use Rattle.due_key.proofs.KeyOrder.{key_cmp_total, key_cmp_exact}
use Rattle.log_entries.specs.declared.entry.Entry.TheVariants.{Granted}
use Rattle.log_entries.specs.declared.queue.Queue.{Queue}
use Rattle.log_entries.specs.declared.queue.Queue.TheVariants.{Backend, Server}
use Rattle.log_entries.specs.declared.row.Phase.TheVariants.{Waiting, Serving}
use Rattle.log_entries.specs.Grants.{IsLawfulGrant, IsSettled}
use Rattle.log_entries.specs.Histories.{History, state_of}
use Rattle.log_entries.specs.Refusals.{is_waiting}
use Rattle.log_entries.specs.Rows.{Rows, IsEmptyQueue, in_phase}
use Rattle.log_entries.specs.declared.entry.Entry.{Entry}
use Rattle.log_entries.specs.States.{scene, after_all, cursor_after_granting}
use Rattle.log_entries.specs.Scenes.{Scene, is_up}
use Rattle.log_entries.proofs.RowLemmas.{changed_at}
use Rattle.base_lists.proofs.Orders.{greater_from_less}
use Rattle.log_reading.specs.Grants.{joining_of, has_joined}
use Rattle.log_reading.specs.Windows.{base_rows}
use Rattle.log_reading.specs.Readable.{HasArrived}
use Rattle.base_lists.proofs.Both.{and_second}
use Rattle.slot_ledger.specs.Ledgers.{with_cells, scene_in as kept_scene}
use Rattle.slot_ledger.specs.Cells.{rows_in, HasRow, with_phase, loosened}
use Rattle.server_pick.specs.declared.heads.Heads.{Heads}
use Rattle.server_pick.specs.Heads.{AreHeads, IsHead, IsLawfulTake, IsLeastIn}
use Rattle.queue_waits.specs.declared.waiters.Waiter.{Waiter}
use Rattle.queue_waits.specs.Waitlists.{Waitlist, Waiters, NoneWaitsIn, WaitsFirstIn, IsFirstKey, IsHeadOf, AreFirst, without_waiter}
use Rattle.dispatch_state.specs.Histories.{with_entry, scene_of, waiting_of, MayComeNext, MayGrantNext, IsGrant}
use Rattle.dispatch_state.specs.LoggedStates.{LoggedState, history_of, noted, IsLoggedState, position_of}
use Rattle.dispatch_state.proofs.Beginning.{scene_is, cursor_is}
use Rattle.dispatch_state.proofs.Entries.{cursor_moved}
use Rattle.dispatch_state.proofs.Resting.{waits_phase, phase_waits}
use Rattle.dispatch_state.proofs.Stepping.{stands_cell, state_consistent}
use Rattle.dispatch_state.proofs.Waiters.{ItsRow, waits_listed, listed, unqueued, one_fewer, row_arrived, row_joined}
use Rattle.dispatch_state.proofs.Within.{take_within}

-- two first requests of a queue have one key
pub first_once : (queue : Queue) (waiters : Waiters) (p q : ℕ) (v w : Waiter) → WaitsFirstIn queue waiters p v → WaitsFirstIn queue waiters q w
    → v.key ≡ w.key
first_once queue waiters p q v w one two = by_order (key_cmp v.key w.key) refl
  where
    by_order : (o : Ordering) → key_cmp v.key w.key ≡ o → v.key ≡ w.key
    by_order Equal e = key_cmp_exact v.key w.key e
    by_order Greater e = absurd (one.least q w two.waits two.its e)
    by_order Less e = absurd (two.least p v one.waits one.its (greater_from_less key_cmp_total v.key w.key e))

-- the key of a lawful take is the first one's
first_key : (here : Scene) (list : Waitlist) (heads : Heads) (server cursor : ℕ) (queue : Queue) → AreFirst server heads list
    → (take : IsLawfulTake here cursor heads server queue) → IsFirstKey queue list.waiters take.0
first_key here list heads server cursor Backend first take = subst (λ (o : Option Key). IsHeadOf o Backend list.waiters) take.1 first.backend
first_key here list heads server cursor (Server own) first take =
    subst (λ n. IsFirstKey (Server n) list.waiters take.0)
    (sym ((Decides-eqb own server).0 (and_second (is_up here server) (own == server) take.2.taken)))
    (subst (λ (o : Option Key). IsHeadOf o (Server server) list.waiters) take.1 first.own)

pub not_empty : (here : Scene) (list : Waitlist) (heads : Heads) (server cursor : ℕ) (queue : Queue) → AreFirst server heads list
    → IsLawfulTake here cursor heads server queue → NoneWaitsIn queue list.waiters → ⊥
not_empty here list heads server cursor queue first take none =
    let it = first_key here list heads server cursor queue first take in none it.0 it.1 it.2.waits it.2.its

module _ {N : Type 0} (pair_of : N → Key × ℕ) where
  -- nobody listed in a queue, no row waits in it
  pub none_wait : (t : LoggedState N) (queue : Queue) → IsLoggedState pair_of t → NoneWaitsIn queue t.waits.waiters
      → IsEmptyQueue queue (state_of (history_of t)).rows
  none_wait t queue is none row live waits_so =
      let w = waits_phase queue row.phase waits_so in none live.0 _ (listed pair_of t live.0 row queue w.0 is live.1 w.1) refl

  least_is : (t : LoggedState N) (queue : Queue) (key : Key) → IsLoggedState pair_of t → IsFirstKey queue t.waits.waiters key
      → IsLeastIn queue (state_of (history_of t)).rows key
  least_is t queue key is first =
      let its = waits_listed pair_of t first.0 first.1 is first.2.waits in
      record {
        row = its.row;
        live = (first.0, its.stands);
        waits = phase_waits queue its.since its.row.phase (its.phase ∙ ap (λ (q : Queue). Waiting q its.since) first.2.its);
        own = its.key ∙ first.3;
        least = λ other live waits_so.
            let w = waits_phase queue other.phase waits_so in
            subst (λ (k : Key). key_cmp k other.key ≢ Greater) first.3 (first.2.least live.0 _ (listed pair_of t live.0 other queue w.0 is live.1 w.1) refl);
      }

  -- the heads of a server's queue and of the backend's are those of the rows
  pub heads_are : (t : LoggedState N) (heads : Heads) (server : ℕ) → IsLoggedState pair_of t → AreFirst server heads t.waits
      → AreHeads heads server (rows_in t.kept.cells)
  heads_are t heads server is first =
      subst (λ (r : Rows). AreHeads heads server r) (sym is.holds.rows) (record {
        own = by_head heads.own (Server server) first.own;
        backend = by_head heads.backend Backend first.backend;
      })
    where
      by_head : (head : Option Key) (queue : Queue) → IsHeadOf head queue t.waits.waiters → IsHead head queue (state_of (history_of t)).rows
      by_head None queue none = none_wait t queue is none
      by_head (Some key) queue its = least_is t queue key is its

  -- what a grant's calls found
  pub record GrantCalls (t : LoggedState N) (heads : Heads) (server : ℕ) (queue : Queue) (place : ℕ) (waiter : Waiter) : Type 0 where
    pub before : IsLoggedState pair_of t
    pub may_grant : MayGrantNext (history_of t)
    pub heads_first : AreFirst server heads t.waits
    pub take : IsLawfulTake (kept_scene t.kept) t.position.cursor heads server queue
    pub first : WaitsFirstIn queue t.waits.waiters place waiter

  pub grant_calls : (t : LoggedState N) (now : History) (left : Waitlist) (heads : Heads) (server : ℕ) (queue : Queue) (place : ℕ) (waiter : Waiter)
      → IsLoggedState pair_of t → history_of t ≡ now → MayGrantNext now → AreFirst server heads left → left ≡ t.waits
      → IsLawfulTake (kept_scene t.kept) t.position.cursor heads server queue → WaitsFirstIn queue left.waiters place waiter
      → GrantCalls t heads server queue place waiter
  grant_calls t now left heads server queue place waiter is same may_grant heads_first kept take first = record {
    before = is;
    may_grant = subst MayGrantNext (sym same) may_grant;
    heads_first = subst (AreFirst server heads) kept heads_first;
    take = take;
    first = subst (λ (l : Waitlist). WaitsFirstIn queue l.waiters place waiter) kept first;
  }

  module _ (t : LoggedState N) (heads : Heads) (server : ℕ) (queue : Queue) (place : ℕ) (waiter : Waiter)
      (calls : GrantCalls t heads server queue place waiter) where
    its : ItsRow t.log.entries (state_of (history_of t)).rows place waiter
    its = waits_listed pair_of t place waiter calls.before calls.first.waits

    pub grant_within : server < length t.kept.setup.servers
    grant_within = (take_within (kept_scene t.kept) t.position.cursor heads server queue calls.take).0

    pub grant_may : MayComeNext (history_of t) (Granted waiter.key.ticket queue server)
    grant_may =
        let key = first_key (kept_scene t.kept) t.waits heads server t.position.cursor queue calls.heads_first calls.take in
        let same : calls.take.0 ≡ waiter.key = sym key.3 ∙ first_once queue t.waits.waiters key.0 place key.1 waiter key.2 calls.first in (
          calls.may_grant,
          subst (λ (k : Key). IsLawfulGrant (scene_of (history_of t)) (state_of (history_of t)).cursor k.ticket queue server) same
              (subst (λ n. IsLawfulGrant (scene_of (history_of t)) n calls.take.0.ticket queue server) (cursor_is pair_of t calls.before)
              (subst (λ (s : Scene). IsLawfulGrant s t.position.cursor calls.take.0.ticket queue server) (scene_is pair_of t calls.before) calls.take.2)),
        )

    pub grant_row : HasRow t.kept.cells place
    grant_row = let s = stands_cell t.kept.cells (state_of (history_of t)).rows place its.row calls.before.holds.rows its.stands in (s.0, s.1)

    pub grant_kept : (node : N) (now : ℕ) → pair_of node ≡ (waiter.key, place) → now ≡ cursor_after_granting t.kept.setup server t.position.cursor
        → IsLoggedState pair_of
        (record {
          kept = with_cells t.kept (with_phase (Serving server) (loosened node t.kept.cells place) place);
          log =
              noted t.log (Granted waiter.key.ticket queue server);
          waits = without_waiter t.waits place;
          position =
              record { cursor = now; last = t.position.last; ticket = t.position.ticket };
        })
    grant_kept node now pair moved =
        let s = state_of (history_of t) in
        unqueued pair_of t (Granted waiter.key.ticket queue server) place waiter (Serving server) node (record {
          cursor =
              now;
          last = t.position.last;
          ticket = t.position.ticket;
        }) calls.before grant_may refl calls.first.waits refl pair refl refl refl refl
        (cursor_moved t.position s now calls.before.holds.position
        ∙ ap (λ n. position_of (record s { cursor = n })) (moved ∙ ap (cursor_after_granting t.kept.setup server) (cursor_is pair_of t calls.before)))

    grant_fewer : waiting_of (with_entry (history_of t) (Granted waiter.key.ticket queue server)) + 1 ≡ waiting_of (history_of t)
    grant_fewer =
        one_fewer (history_of t) (Granted waiter.key.ticket queue server) place its.row (record its.row { phase = Serving server }) its.stands
        (changed_at (state_of (history_of t)).rows waiter.key.ticket place its.row (in_phase (Serving server))
        (state_consistent pair_of t calls.before).tickets its.stands (ap (λ (k : Key). k.ticket) its.key))
        (ap is_waiting its.phase) refl

    pub is_grant : (now : History) → now ≡ with_entry (history_of t) (Granted waiter.key.ticket queue server) → IsGrant (history_of t) now
    is_grant now goes = record {
      ticket = waiter.key.ticket;
      queue = queue;
      server = server;
      grants = goes;
      lawful = grant_may;
      fewer = subst (λ (h : History). waiting_of h + 1 ≡ waiting_of (history_of t)) (sym goes) grant_fewer;
    }

    -- the log has room for it, and knows its ticket
    pub grant_room : length t.log.entries + waiting_of (history_of t) ≤ t.kept.setup.log → length t.log.entries < t.log.room
    grant_room room = let fewer = grant_fewer in let most = calls.before.log_room in omega arith

    pub grant_arrived : HasArrived (base_rows t.log.base.rows) t.log.entries waiter.key.ticket waiter.key.class waiter.key.due
    grant_arrived =
        subst (λ (k : Key). HasArrived (base_rows t.log.base.rows) t.log.entries k.ticket k.class k.due) its.key
        (row_arrived pair_of t its.row calls.before (place, its.stands))

    pub grant_joined : joining_of waiter.key.ticket queue t.log.entries ≡ waiter.joined
    grant_joined =
        ap (λ (k : Key). joining_of k.ticket queue t.log.entries) (sym its.key) ∙ ap (λ (q : Queue). joining_of its.row.key.ticket q t.log.entries)
        (sym calls.first.its) ∙ its.joined

    pub grant_waits : IsTrue (has_joined (base_rows t.log.base.rows) waiter.key.ticket queue t.log.entries)
    grant_waits =
        let base = base_rows t.log.base.rows in
        let waits_so = row_joined pair_of t its.row waiter.queue calls.before (place, its.stands)
        (phase_waits waiter.queue its.since its.row.phase its.phase) in
        subst (λ (k : Key). IsTrue (has_joined base k.ticket queue t.log.entries)) its.key
        (subst (λ (q : Queue). IsTrue (has_joined base its.row.key.ticket q t.log.entries)) calls.first.its waits_so)

    -- an event has begun: where none has all is settled
    pub grant_begun : 0 < length t.log.entries
    grant_begun = begun_by t.log.entries refl
      where
        begun_by : (log : List Entry) → t.log.entries ≡ log → 0 < length t.log.entries
        begun_by [] none =
            let settled : IsSettled (scene_of (history_of t)) =
            subst (λ l. IsSettled (scene t.kept.setup (after_all t.kept.setup t.log.base l))) (sym none) calls.before.judged.begins.dispatched.settled in
            absurd (settled server grant_may.1.next.takes)
        begun_by (e ∷ log) some = subst (λ l. 0 < length l) (sym some) (omega arith)
