-- A legal log keeps within its setup; and the parts of entries.
use Rattle.std.proofs.Common.{◌≡◌, ◌↔◌, ℕ, zero, suc, ◌<◌, ◌≤◌, ◌^◌, false, List, [], ◌∷◌, ◌++◌, All, refl, sym, ◌∙◌, arith}
use Rattle.std.proofs.lemmas.List.Elements.{All-head, All-tail}
use Rattle.base_lists.proofs.Never.{false_true}
use Rattle.log_entries.specs.declared.entry.Entry.{Entry}
use Rattle.log_entries.specs.declared.entry.Entry.TheVariants.{Arrive, Done, Fail, Abort, Tick, Check, Limit}
use Rattle.log_entries.specs.declared.setup.Setup.{Setup}
use Rattle.log_entries.specs.Bounds.{IsInBounds}
use Rattle.log_entries.specs.Dispatch.{arrivals_of, IsGivenBetween}
use Rattle.log_entries.specs.Histories.{History, state_of, begins_event}
use Rattle.log_entries.specs.Judgement.{Stage, AllMayCome, next_stage, stage_after}
use Rattle.log_entries.specs.Legal.{IsLegal}
use Rattle.log_entries.specs.States.{State, after, after_all, Point, next_point, point_after}
use Rattle.log_entries.proofs.Dispatched.{dispatched, legal_consistent}
use Rattle.log_entries.proofs.Judged.{places_all}
use Rattle.log_entries.proofs.Runs.{judged_on, judged_off}
use Rattle.log_entries.proofs.Windows.{legal_range, legal_keeps, legal_standing}

none_given : (first last ticket arrivals : ℕ) → last < 2 ^ 40 → 2 ^ 40 ≤ ticket → (0 < arrivals → IsGivenBetween first last ticket) → arrivals ≡ 0
none_given first last ticket zero low high given = refl
none_given first last ticket (suc more) low high given = let up_to = (given (omega arith)).up_to in absurd (omega arith)

pub within : (h : History) → IsLegal h → IsInBounds h
within h legal =
    let range = legal_range h legal in
    let keeps = legal_keeps h legal in
    record {
      places = places_all h.setup h.base h.log ∙ legal.begins.places;
      ticket = range.numbered;
      rows = λ row live. (legal_consistent h legal).below live.0 row live.1;
      arrivals = λ ticket high. none_given h.base.ticket (state_of h).ticket ticket (arrivals_of ticket h.log) range.numbered high
          ((dispatched h legal).one_place ticket).arrives_given;
      moment = range.timed;
      timed_rows = legal_standing h legal;
      servers = keeps.rows;
      cursor = keeps.cursor;
    }

judged_front : (here : Point) (t : Stage) (es fs : List Entry) → AllMayCome here t (es ++ fs) → AllMayCome here t es
judged_front here t [] fs all = tt
judged_front here t (e ∷ es) fs all = (all.0, judged_front (next_point here e) (next_stage t e) es fs all.1)

pub judged_parts : (here : Point) (t : Stage) (es fs : List Entry)
    → AllMayCome here t (es ++ fs) ↔ (AllMayCome here t es × AllMayCome (point_after here es) (stage_after t es) fs)
judged_parts here t es fs = (
  λ all. (judged_front here t es fs all, judged_off here t es fs all),
  λ both. judged_on here t es fs both.0 both.1,
)

-- none but an event changes the moment
moment_kept : (setup : Setup) (s : State) (e : Entry) → begins_event e ≡ false → (after setup s e).moment ≡ s.moment
moment_kept setup s (Arrive m a) none = false_true (sym none)
moment_kept setup s (Done m u) none = false_true (sym none)
moment_kept setup s (Fail m u) none = false_true (sym none)
moment_kept setup s (Abort m u) none = false_true (sym none)
moment_kept setup s (Tick m) none = false_true (sym none)
moment_kept setup s (Check m v ok) none = false_true (sym none)
moment_kept setup s (Limit m v k) none = false_true (sym none)
moment_kept setup s e none = refl

pub moment_stays : (setup : Setup) (s : State) (es : List Entry) → All (λ entry. begins_event entry ≡ false) es → (after_all setup s es).moment ≡ s.moment
moment_stays setup s [] none = refl
moment_stays setup s (e ∷ es) none =
    moment_stays setup (after setup s e) es (All-tail (λ entry. begins_event entry ≡ false) e es none)
    ∙ moment_kept setup s e (All-head (λ entry. begins_event entry ≡ false) e es none)
