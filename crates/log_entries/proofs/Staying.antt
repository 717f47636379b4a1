-- What every state of a log that is judged keeps within its setup: rows are at servers that are there, and one of them was picked
-- last.
use Rattle.std.proofs.Common.{◌≡◌, ℕ, ◌<◌, ◌==◌, Bool, true, false, cond, List, [], ◌∷◌, Option, None, Some, length, slice_get, subst, inl, inr}
use Rattle.std.specs.Option.{option_map_or}
use Rattle.std.proofs.lemmas.Option.{same_Some}
use Rattle.std.proofs.Math.ListN.{set}
use Rattle.base_verdict.specs.declared.cause.Cause.{Cause}
use Rattle.base_verdict.specs.declared.cause.Cause.TheVariants.{NoServer}
use Rattle.base_lists.proofs.Never.{none_some}
use Rattle.base_lists.proofs.Places.{get-set_cases}
use Rattle.log_entries.specs.declared.entry.Entry.{Entry}
use Rattle.log_entries.specs.declared.entry.Entry.TheVariants.{Arrive, Done, Fail, Abort, Tick, Check, Limit, Direct}
use Rattle.log_entries.specs.declared.entry.Entry.TheVariants.{Joined, Granted, Moved, Freed, Retried, Left, Health, Ended}
use Rattle.log_entries.specs.declared.queue.Queue.TheVariants.{Backend, Server}
use Rattle.log_entries.specs.declared.row.Phase.{Phase}
use Rattle.log_entries.specs.declared.row.Phase.TheVariants.{Loose, Waiting, Serving, Told}
use Rattle.log_entries.specs.declared.row.Row.{Row}
use Rattle.log_entries.specs.declared.setup.ServerSet.{ServerSet}
use Rattle.log_entries.specs.declared.setup.Setup.{Setup}
use Rattle.log_entries.specs.Bounds.{IsAtOneOf}
use Rattle.log_entries.specs.Judgement.{Stage, placing, freed_by_failure, IsPut, MayCome, AllMayCome, next_stage}
use Rattle.log_entries.specs.Retries.{failed}
use Rattle.log_entries.specs.Rows.{Rows, IsRow, IsVacant, changed, in_phase, in_backend_since, gone, pin_of}
use Rattle.log_entries.specs.States.{State, scene, after, after_all, arrived, cursor_after_placing, cursor_after_granting, Point, point_of, next_point}
use Rattle.log_entries.proofs.Choices.{free_there, chosen_there}
use Rattle.log_entries.proofs.SameRows.{changed_row}

-- each row at a server is at one of this many
abbrev pub AreAtServers : ℕ → Rows → Type 0
AreAtServers servers rows = (row : Row) → IsRow rows row → IsAtOneOf servers row.phase

-- a state's rows and cursor keep to the servers that are there
pub record KeepsTo (servers : ℕ) (state : State) : Type 0 where
  pub rows : AreAtServers servers state.rows
  pub cursor : 0 < servers → state.cursor < servers

-- rows of which one is changed, where what is made of a row keeps what holds of each
pub changed_keeps : (P : Row → Type 0) (rows : Rows) (u : ℕ) (f : Row → Option Row) → ((r w : Row) → P r → f r ≡ Some w → P w)
    → ((r : Row) → IsRow rows r → P r) → (r : Row) → IsRow (changed u f rows) r → P r
changed_keeps P rows u f stays all row live =
    let it = changed_row rows u f row live in
    by_test (it.0.key.ticket == u) it.0 (all it.0 it.1) it.2
  where
    by_test : (b : Bool) (r : Row) → P r → cond b (f r) (Some r) ≡ Some row → P row
    by_test true r holds made = stays r row holds made
    by_test false r holds made = subst P (same_Some r row made) holds

-- rows of which one is new
pub admitted_keeps : (P : Row → Type 0) (rows : Rows) (p : ℕ) (r : Row) → IsVacant rows p → P r → ((w : Row) → IsRow rows w → P w)
    → (w : Row) → IsRow (set rows p (Some r)) w → P w
admitted_keeps P rows p r vacant here all row live =
    elim (get-set_cases rows p live.0 None (Some r) (Some row) vacant live.1) [
      | inl e ↦ subst P (same_Some r row e.1) here
      | inr e ↦ all row (live.0, e.1)
    ]

changed_at_servers : (n : ℕ) (rows : Rows) (u : ℕ) (f : Row → Option Row) → ((r w : Row) → IsAtOneOf n r.phase → f r ≡ Some w → IsAtOneOf n w.phase)
    → AreAtServers n rows → AreAtServers n (changed u f rows)
changed_at_servers n = changed_keeps (λ row. IsAtOneOf n row.phase)

to_phase : (n : ℕ) (phase : Phase) → IsAtOneOf n phase → (r w : Row) → IsAtOneOf n r.phase → in_phase phase r ≡ Some w → IsAtOneOf n w.phase
to_phase n phase at r w was made = subst (λ (x : Row). IsAtOneOf n x.phase) (same_Some _ w made) at

put_on_within : (n v cursor : ℕ) (pin : Option ℕ) → v < n → (0 < n → cursor < n) → 0 < n → cursor_after_placing v pin cursor < n
put_on_within n v cursor None low was some = low
put_on_within n v cursor (Some p) low was some = by_test (p == v)
  where
    by_test : (b : Bool) → cond b cursor v < n
    by_test true = was some
    by_test false = low

module _ (setup : Setup) (s : State) where
  granted_within : (v : ℕ) → v < length setup.servers → (0 < length setup.servers → s.cursor < length setup.servers) → 0 < length setup.servers
      → cursor_after_granting setup v s.cursor < length setup.servers
  granted_within v low was some = by_test (option_map_or (λ (it : ServerSet). it.weight == 0) (slice_get setup.servers v) true)
    where
      by_test : (b : Bool) → cond b s.cursor v < length setup.servers
      by_test true = was some
      by_test false = low

  put_keeps : (pin avoid : Option ℕ) (t : ℕ) (e : Entry) → KeepsTo (length setup.servers) s → IsPut (scene setup s) s.cursor pin avoid t e
      → KeepsTo (length setup.servers) (after setup s e)
  put_keeps pin avoid t (Direct u v) keeps put =
      let low : v < length setup.servers = free_there (scene setup s) v put.1.1 in
      record {
        rows = changed_at_servers (length setup.servers) s.rows u (in_phase (Serving v)) (to_phase (length setup.servers) (Serving v) low) keeps.rows;
        cursor = put_on_within (length setup.servers) v s.cursor (pin_of u s.rows) low keeps.cursor;
      }
  put_keeps pin avoid t (Joined u (Server v)) keeps put =
      let low : v < length setup.servers = chosen_there (scene setup s) s.cursor keeps.cursor pin avoid v put.1.0 in
      record {
        rows = changed_at_servers (length setup.servers) s.rows u (in_phase (Waiting (Server v) s.moment))
            (to_phase (length setup.servers) (Waiting (Server v) s.moment) low) keeps.rows;
        cursor = put_on_within (length setup.servers) v s.cursor (pin_of u s.rows) low keeps.cursor;
      }
  put_keeps pin avoid t (Joined u Backend) keeps put =
      record {
        rows = changed_at_servers (length setup.servers) s.rows u (in_phase (Waiting Backend s.moment))
            (to_phase (length setup.servers) (Waiting Backend s.moment) tt) keeps.rows;
        cursor = keeps.cursor;
      }
  put_keeps pin avoid t (Left u NoServer) keeps put =
      record {
        rows = changed_at_servers (length setup.servers) s.rows u (in_phase (Told NoServer))
            (to_phase (length setup.servers) (Told NoServer) tt) keeps.rows;
        cursor = keeps.cursor;
      }
  put_keeps pin avoid t e keeps put = absurd put

  told_keeps : (u : ℕ) (c : Cause) → KeepsTo (length setup.servers) s → KeepsTo (length setup.servers) (after setup s (Left u c))
  told_keeps u c keeps = record {
    rows = changed_at_servers (length setup.servers) s.rows u (in_phase (Told c))
        (to_phase (length setup.servers) (Told c) tt) keeps.rows;
    cursor = keeps.cursor;
  }

  pub keeps_after : (n : ℕ) (t : Stage) (e : Entry) → KeepsTo (length setup.servers) s → MayCome (point_of setup s n) t e
      → KeepsTo (length setup.servers) (after setup s e)
  keeps_after n t (Arrive m a) keeps may = record {
    rows = admitted_keeps (λ row. IsAtOneOf (length setup.servers) row.phase) s.rows a.place (arrived a) may.1.vacant tt keeps.rows;
    cursor = keeps.cursor;
  }
  keeps_after n t (Done m u) keeps may = record { rows = keeps.rows; cursor = keeps.cursor }
  keeps_after n t (Fail m u) keeps may =
      record {
        rows = changed_at_servers (length setup.servers) s.rows u (failed setup)
            (λ r w at made. subst (λ (x : Row). IsAtOneOf (length setup.servers) x.phase) (same_Some _ w made) at) keeps.rows;
        cursor = keeps.cursor;
      }
  keeps_after n t (Abort m u) keeps may = record { rows = keeps.rows; cursor = keeps.cursor }
  keeps_after n t (Tick m) keeps may = record { rows = keeps.rows; cursor = keeps.cursor }
  keeps_after n t (Check m v ok) keeps may = record { rows = keeps.rows; cursor = keeps.cursor }
  keeps_after n t (Limit m v k) keeps may = record { rows = keeps.rows; cursor = keeps.cursor }
  keeps_after n t (Granted u q v) keeps may =
      let low : v < length setup.servers = free_there (scene setup s) v may.1.next.takes.0 in
      record {
        rows = changed_at_servers (length setup.servers) s.rows u (in_phase (Serving v)) (to_phase (length setup.servers) (Serving v) low) keeps.rows;
        cursor = granted_within v low keeps.cursor;
      }
  keeps_after n (placing t) (Direct u v) keeps may = put_keeps (pin_of t s.rows) None t (Direct u v) keeps may
  keeps_after n (placing t) (Joined u q) keeps may = put_keeps (pin_of t s.rows) None t (Joined u q) keeps may
  keeps_after n (freed_by_failure t w) (Direct u v) keeps may = put_keeps None (Some w) t (Direct u v) keeps may.put
  keeps_after n (freed_by_failure t w) (Joined u q) keeps may = put_keeps None (Some w) t (Joined u q) keeps may.put
  keeps_after n t (Direct u v) keeps may = absurd may
  keeps_after n t (Joined u q) keeps may = absurd may
  keeps_after n t (Moved u v) keeps may =
      record {
        rows = changed_at_servers (length setup.servers) s.rows u (in_backend_since s.moment)
            (λ r w at made. subst (λ (x : Row). IsAtOneOf (length setup.servers) x.phase) (same_Some _ w made) tt) keeps.rows;
        cursor = keeps.cursor;
      }
  keeps_after n t (Freed u v) keeps may =
      record {
        rows = changed_at_servers (length setup.servers) s.rows u (in_phase Loose) (to_phase (length setup.servers) Loose tt) keeps.rows;
        cursor = keeps.cursor;
      }
  keeps_after n t (Retried u v k) keeps may = keeps
  keeps_after n t (Left u c) keeps may = told_keeps u c keeps
  keeps_after n t (Health v up) keeps may = keeps
  keeps_after n t (Ended u) keeps may =
      record { rows = changed_at_servers (length setup.servers) s.rows u gone (λ r w at made. none_some made) keeps.rows; cursor = keeps.cursor }

pub keeps_all : (here : Point) (t : Stage) (es : List Entry) → KeepsTo (length here.setup.servers) here.state → AllMayCome here t es
    → KeepsTo (length here.setup.servers) (after_all here.setup here.state es)
keeps_all here t [] keeps all = keeps
keeps_all here t (e ∷ es) keeps all = keeps_all (next_point here e) (next_stage t e) es (keeps_after here.setup here.state here.used t e keeps all.0) all.1
