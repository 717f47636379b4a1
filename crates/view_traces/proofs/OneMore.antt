-- An entry more of a trace.
use Rattle.std.proofs.Common.{◌≡◌, ℕ, ◌≤◌, List, [], ◌∷◌, ◌++◌, Some, None, IsSome, length, subst, sym, append_assoc, refl}
use Rattle.std.specs.Option.{IfSome, unwrap_or}
use Rattle.std.proofs.lemmas.List.{append-nil}
use Rattle.log_entries.specs.declared.entry.Entry.{Entry}
use Rattle.log_reading.specs.Grants.{moment_in, moment_of}
use Rattle.log_reading.proofs.Moments.{moment_of-push, moment_of_none}
use Rattle.view_traces.specs.Timed.{MayStand, AllStand, IsTimed}

all_stand_push : (past es : List Entry) (e : Entry) → AllStand past es → MayStand (past ++ es) e → AllStand past (es ++ e ∷ [])
all_stand_push past [] e all may = (subst (λ l. MayStand l e) (append-nil past) may, tt)
all_stand_push past (x ∷ es) e all may =
    (all.0, all_stand_push (past ++ x ∷ []) es e all.1 (subst (λ l. MayStand l e) (sym (append_assoc past (x ∷ []) es)) may))

pub event_more : (log : List Entry) (e : Entry) (moment : ℕ) → IsTimed log → moment_in e ≡ Some moment → moment_of log ≤ moment → IsTimed (log ++ e ∷ [])
event_more log e moment timed is later = all_stand_push [] log e timed (record {
  begins = λ none. subst IsSome (sym is) refl;
  later = subst (λ o. IfSome o (λ m. moment_of log ≤ m)) (sym is) later;
})

pub event_moment : (log : List Entry) (e : Entry) (moment : ℕ) → moment_in e ≡ Some moment → moment_of (log ++ e ∷ []) ≡ moment
event_moment log e moment is = subst (λ o. moment_of (log ++ e ∷ []) ≡ unwrap_or o (moment_of log)) is (moment_of-push log e)

pub decision_more : (log : List Entry) (e : Entry) → IsTimed log → moment_in e ≡ None → (length log ≡ 0 → ⊥) → IsTimed (log ++ e ∷ [])
decision_more log e timed is some = all_stand_push [] log e timed (record {
  begins = λ none. absurd (some none);
  later = subst (λ o. IfSome o (λ m. moment_of log ≤ m)) (sym is) tt;
})

pub decision_moment : (log : List Entry) (e : Entry) → moment_in e ≡ None → moment_of (log ++ e ∷ []) ≡ moment_of log
decision_moment log e is = moment_of_none log e is
