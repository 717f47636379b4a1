-- What every state of a log that is judged keeps of its requests: each may stand as it does by the state's moment.
use Rattle.std.proofs.Common.{ℕ, ◌≤◌, List, [], ◌∷◌, subst, arith}
use Rattle.std.proofs.lemmas.Option.{same_Some}
use Rattle.base_lists.proofs.Never.{none_some}
use Rattle.log_entries.specs.declared.entry.Entry.{Entry}
use Rattle.log_entries.specs.declared.entry.Entry.TheVariants.{Arrive, Done, Fail, Abort, Tick, Check, Limit, Direct}
use Rattle.log_entries.specs.declared.entry.Entry.TheVariants.{Joined, Granted, Moved, Freed, Retried, Left, Health, Ended}
use Rattle.log_entries.specs.declared.row.Phase.{Phase}
use Rattle.log_entries.specs.declared.row.Phase.TheVariants.{Loose, Waiting, Serving, Told}
use Rattle.log_entries.specs.declared.row.Row.{Row}
use Rattle.log_entries.specs.declared.setup.Setup.{Setup}
use Rattle.log_entries.specs.Bounds.{IsSinceBy, IsRowBy}
use Rattle.log_entries.specs.Judgement.{Stage, MayCome, AllMayCome, next_stage}
use Rattle.log_entries.specs.Retries.{failed}
use Rattle.log_entries.specs.Rows.{Rows, IsRow, changed, in_phase, in_backend_since, gone}
use Rattle.log_entries.specs.States.{State, after, after_all, arrived, Point, point_of, next_point}
use Rattle.log_entries.proofs.Staying.{changed_keeps, admitted_keeps}

abbrev pub AreRowsBy : ℕ → Rows → Type 0
AreRowsBy moment rows = (row : Row) → IsRow rows row → IsRowBy moment row

since_later : (m n : ℕ) → m ≤ n → (phase : Phase) → IsSinceBy m phase → IsSinceBy n phase
since_later m n later (Waiting queue since) is = omega (arith, later, is)
since_later m n later Loose is = tt
since_later m n later (Serving server) is = tt
since_later m n later (Told cause) is = tt

later : (m n : ℕ) → m ≤ n → (rows : Rows) → AreRowsBy m rows → AreRowsBy n rows
later m n goes rows by row live =
    let it = by row live in
    record {
      class = it.class;
      due = (it.due.0, (let low : it.due.0 ≤ m = it.due.1 in omega (arith, low, goes)), it.due.2);
      since = since_later m n goes row.phase it.since;
    }

module _ (setup : Setup) (s : State) (by : AreRowsBy s.moment s.rows) where
  in_new_phase : (phase : Phase) → IsSinceBy s.moment phase → (u : ℕ) → AreRowsBy s.moment (changed u (in_phase phase) s.rows)
  in_new_phase phase since u =
      changed_keeps (IsRowBy s.moment) s.rows u (in_phase phase)
      (λ r w is made. subst (IsRowBy s.moment) (same_Some _ w made) (record { class = is.class; due = is.due; since = since })) by

  pub standing_after : (n : ℕ) (t : Stage) (e : Entry) → MayCome (point_of setup s n) t e → AreRowsBy (after setup s e).moment (after setup s e).rows
  standing_after n t (Arrive m a) may =
      admitted_keeps (IsRowBy m) s.rows a.place (arrived a) may.1.vacant
      (record { class = may.1.class; due = (m, omega arith, may.1.due); since = tt })
      (later s.moment m may.0.later s.rows by)
  standing_after n t (Done m u) may = later s.moment m may.later s.rows by
  standing_after n t (Fail m u) may =
      later s.moment m may.later (changed u (failed setup) s.rows)
      (changed_keeps (IsRowBy s.moment) s.rows u (failed setup)
      (λ r w is made. subst (IsRowBy s.moment) (same_Some _ w made) (record { class = is.class; due = is.due; since = is.since })) by)
  standing_after n t (Abort m u) may = later s.moment m may.later s.rows by
  standing_after n t (Tick m) may = later s.moment m may.later s.rows by
  standing_after n t (Check m v ok) may = later s.moment m may.later s.rows by
  standing_after n t (Limit m v k) may = later s.moment m may.later s.rows by
  standing_after n t (Direct u v) may = in_new_phase (Serving v) tt u
  standing_after n t (Joined u q) may = in_new_phase (Waiting q s.moment) (omega arith) u
  standing_after n t (Granted u q v) may = in_new_phase (Serving v) tt u
  standing_after n t (Moved u v) may =
      changed_keeps (IsRowBy s.moment) s.rows u (in_backend_since s.moment)
      (λ r w is made. subst (IsRowBy s.moment) (same_Some _ w made) (record { class = is.class; due = is.due; since = omega arith })) by
  standing_after n t (Freed u v) may = in_new_phase Loose tt u
  standing_after n t (Retried u v k) may = by
  standing_after n t (Left u c) may = in_new_phase (Told c) tt u
  standing_after n t (Health v up) may = by
  standing_after n t (Ended u) may = changed_keeps (IsRowBy s.moment) s.rows u gone (λ r w is made. none_some made) by

pub standing_all : (here : Point) (t : Stage) (es : List Entry) → AreRowsBy here.state.moment here.state.rows → AllMayCome here t es
    → AreRowsBy (after_all here.setup here.state es).moment (after_all here.setup here.state es).rows
standing_all here t [] by all = by
standing_all here t (e ∷ es) by all =
    standing_all (next_point here e) (next_stage t e) es (standing_after here.setup here.state by here.used t e all.0) all.1
