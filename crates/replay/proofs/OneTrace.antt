-- A script has one trace.
use Rattle.std.proofs.Common.{◌≡◌, ◌⊎◌, inl, inr, ℕ, ◌+◌, pos, ◌+ℤ◌, max, List, [], ◌∷◌}
use Rattle.std.proofs.Common.{◌++◌, map, None, refl, ap, sym, ◌∙◌, subst}
use Rattle.std.specs.Str.Lines.{lines}
use Rattle.std.proofs.lemmas.List.{append_cancel_left, map-append}
use Rattle.std.proofs.lemmas.Option.{same_Some}
use Rattle.base_lists.proofs.Never.{none_some}
use Rattle.log_entries.specs.declared.entry.Arrival.{Arrival}
use Rattle.log_entries.specs.declared.entry.Entry.{Entry}
use Rattle.log_entries.specs.declared.entry.Entry.TheVariants as entries
use Rattle.log_entries.specs.Determined.{unplaced, AreSameButForPlaces, AreSameHistories, AreRefusedAlike}
use Rattle.log_entries.specs.Histories.{History, state_of, next_window, effective, refuses_arrival, end_of}
use Rattle.log_entries.specs.Histories.{refuses_done, refuses_failure, refuses_abort, refuses_check, refuses_limit}
use Rattle.log_entries.specs.Judgement.{MayCome, granting}
use Rattle.log_entries.specs.Legal.{IsBase, IsLegal}
use Rattle.log_entries.specs.States.{State}
use Rattle.log_entries.proofs.Runs.{adds_legally}
use Rattle.log_entries.proofs.SameCalls.{refused_alike, added_alike, rolled_alike}
use Rattle.log_entries.proofs.SameRows.{same_state-itself}
use Rattle.log_entries.proofs.Windows.{opening_base, empty_legal}
use Rattle.late_cert.proofs.OneReport.{reports_same}
use Rattle.log_texts.specs.declared.step.Step.{Step}
use Rattle.log_texts.specs.declared.step.Step.TheVariants.{Arrive, Done, Fail, Abort, Tick, Check, Limit, Roll}
use Rattle.log_texts.specs.Headers.{settings_of}
use Rattle.log_texts.specs.Reports.{roll_text, reports_text}
use Rattle.log_texts.specs.ScriptTexts.{StepAnswers, IsAccepted, IsEventOf, IsRefused, IsRolled, IsScriptText, server_number, named_pin, refuses}
use Rattle.log_texts.specs.Steps.{steps_of}
use Rattle.log_texts.specs.Traces.{entry_text, entries_text, refusal_text}
use Rattle.replay.specs.Defaults.{opening, names_of, script_setup}
use Rattle.replay.specs.TraceTexts.{IsTraceOf}

-- no line of a trace shows a place
unplaced_text : (names : List (List ℕ)) (e : Entry) → entry_text names (unplaced e) ≡ entry_text names e
unplaced_text names (entries.Arrive m a) = refl
unplaced_text names e = refl

unplaced_texts : (names : List (List ℕ)) (es : List Entry) → entries_text names (map unplaced es) ≡ entries_text names es
unplaced_texts names [] = refl
unplaced_texts names (e ∷ es) = ap (λ l. l ++ entries_text names (map unplaced es)) (unplaced_text names e)
    ∙ ap (λ l. entry_text names e ++ l) (unplaced_texts names es)

same_texts : (names : List (List ℕ)) (es fs : List Entry) → AreSameButForPlaces es fs → entries_text names fs ≡ entries_text names es
same_texts names es fs same = sym (unplaced_texts names fs) ∙ ap (entries_text names) (sym same) ∙ unplaced_texts names es

-- a step's refusal is one
refused_same : (names : List (List ℕ)) (h other : History) → AreRefusedAlike h other → (step : Step) → refuses names h step ≡ refuses names other step
refused_same names h other same (Arrive moment class offset pin) = same.arrival (named_pin names pin)
refused_same names h other same (Done moment ticket) = same.done ticket
refused_same names h other same (Fail moment ticket) = same.failure ticket
refused_same names h other same (Abort moment ticket) = same.abort ticket
refused_same names h other same (Tick moment) = same.tick
refused_same names h other same (Check moment server answered) = same.check (server_number names server)
refused_same names h other same (Limit moment server limit) = same.limit (server_number names server)
refused_same names h other same Roll = refl

-- nothing refuses a step whose event may come
accepted_none : (names : List (List ℕ)) (h : History) (step : Step) (e : Entry) → IsEventOf names h step e
    → MayCome (end_of h) granting e → refuses names h step ≡ None
accepted_none names h (Arrive moment class offset pin) (entries.Arrive at arrival) asked may = ap (refuses_arrival h) (sym asked.3) ∙ may.0.accepted
accepted_none names h (Done moment ticket) (entries.Done at leaver) asked may = ap (refuses_done h) (sym asked.1) ∙ may.accepted
accepted_none names h (Fail moment ticket) (entries.Fail at leaver) asked may = ap (refuses_failure h) (sym asked.1) ∙ may.accepted
accepted_none names h (Abort moment ticket) (entries.Abort at leaver) asked may = ap (refuses_abort h) (sym asked.1) ∙ may.accepted
accepted_none names h (Tick moment) (entries.Tick at) asked may = may.accepted
accepted_none names h (Check moment name answered) (entries.Check at server ok) asked may = ap (refuses_check h) (sym asked.1) ∙ may.accepted
accepted_none names h (Limit moment name limit) (entries.Limit at server most) asked may = ap (refuses_limit h) (sym asked.1) ∙ may.accepted
accepted_none names h step e asked may = absurd asked

-- the event of a step is one, but for its place
module _ (names : List (List ℕ)) (h other : History) (same : AreSameHistories h other) where
  same_moment : (m : ℕ) → effective other m ≡ effective h m
  same_moment m = ap (λ (s : State). max s.moment m) same.state.rest

  at_once : (m at there : ℕ) → at ≡ effective h m → there ≡ effective other m → at ≡ there
  at_once m at there mine its = mine ∙ sym (same_moment m) ∙ sym its

  same_arrival : (at there : ℕ) (a b : Arrival) → at ≡ there → a.ticket ≡ b.ticket → a.class ≡ b.class → a.due ≡ b.due → a.pin ≡ b.pin
      → unplaced (entries.Arrive at a) ≡ unplaced (entries.Arrive there b)
  same_arrival at there a b moment ticket class due pin =
      ap (λ x. entries.Arrive x (record a { place = 0 })) moment
      ∙ ap (λ x. entries.Arrive there (record a { place = 0; ticket = x })) ticket
      ∙ ap (λ x. entries.Arrive there (record a { place = 0; ticket = b.ticket; class = x })) class
      ∙ ap (λ x. entries.Arrive there (record a { place = 0; ticket = b.ticket; class = b.class; due = x })) due
      ∙ ap (λ x. entries.Arrive there (record b { place = 0; pin = x })) pin

  same_event : (step : Step) (e f : Entry) → IsEventOf names h step e → IsEventOf names other step f → MayCome (end_of h) granting e
      → MayCome (end_of other) granting f
      → unplaced e ≡ unplaced f
  same_event (Arrive moment class offset pin) (entries.Arrive at a) (entries.Arrive there b) asked wanted may might =
      let now : at ≡ there = at_once moment at there asked.0 wanted.0 in
      let numbered : (state_of other).ticket ≡ (state_of h).ticket = ap (λ (s : State). s.ticket) same.state.rest in
      same_arrival at there a b now (may.1.numbered ∙ ap (λ n. n + 1) (sym numbered) ∙ sym might.1.numbered) (asked.1 ∙ sym wanted.1)
      (asked.2 ∙ ap (λ (n : ℕ). pos n +ℤ offset) now ∙ sym wanted.2) (asked.3 ∙ sym wanted.3)
  same_event (Done moment ticket) (entries.Done at u) (entries.Done there w) asked wanted may might =
      ap (λ x. entries.Done x u) (at_once moment at there asked.0 wanted.0) ∙ ap (entries.Done there) (asked.1 ∙ sym wanted.1)
  same_event (Fail moment ticket) (entries.Fail at u) (entries.Fail there w) asked wanted may might =
      ap (λ x. entries.Fail x u) (at_once moment at there asked.0 wanted.0) ∙ ap (entries.Fail there) (asked.1 ∙ sym wanted.1)
  same_event (Abort moment ticket) (entries.Abort at u) (entries.Abort there w) asked wanted may might =
      ap (λ x. entries.Abort x u) (at_once moment at there asked.0 wanted.0) ∙ ap (entries.Abort there) (asked.1 ∙ sym wanted.1)
  same_event (Tick moment) (entries.Tick at) (entries.Tick there) asked wanted may might = ap entries.Tick (at_once moment at there asked wanted)
  same_event (Check moment name answered) (entries.Check at v ok) (entries.Check there w up) asked wanted may might =
      ap (λ x. entries.Check x v ok) (at_once moment at there asked.0 wanted.0) ∙ ap (λ x. entries.Check there x ok) (asked.1 ∙ sym wanted.1)
      ∙ ap (entries.Check there w) (asked.2 ∙ sym wanted.2)
  same_event (Limit moment name limit) (entries.Limit at v k) (entries.Limit there w l) asked wanted may might =
      ap (λ x. entries.Limit x v k) (at_once moment at there asked.0 wanted.0) ∙ ap (λ x. entries.Limit there x k) (asked.1 ∙ sym wanted.1)
      ∙ ap (entries.Limit there w) (asked.2 ∙ sym wanted.2)
  same_event (Arrive moment class offset pin) (entries.Arrive at a) f asked wanted may might = absurd wanted
  same_event (Done moment ticket) (entries.Done at u) f asked wanted may might = absurd wanted
  same_event (Fail moment ticket) (entries.Fail at u) f asked wanted may might = absurd wanted
  same_event (Abort moment ticket) (entries.Abort at u) f asked wanted may might = absurd wanted
  same_event (Tick moment) (entries.Tick at) f asked wanted may might = absurd wanted
  same_event (Check moment name answered) (entries.Check at v ok) f asked wanted may might = absurd wanted
  same_event (Limit moment name limit) (entries.Limit at v k) f asked wanted may might = absurd wanted
  same_event step e f asked wanted may might = absurd asked

-- what a step leaves of histories that are the same but for places
record AreLeftAlike (new theirs : History) (front back : List ℕ) : Type 0 where
  pub text : front ≡ back
  pub same : AreSameHistories new theirs
  pub legal : IsLegal new
  pub legal_too : IsLegal theirs

module _ (names : List (List ℕ)) (h other new theirs : History) (same : AreSameHistories h other) (legal : IsLegal h) (its : IsLegal other) where
  both_accepted : (step : Step) (front back : List ℕ) → IsAccepted names h new step front → IsAccepted names other theirs step back
      → AreLeftAlike new theirs front back
  both_accepted step front back a b =
      let one : unplaced a.event ≡ unplaced b.event =
      same_event names h other same step a.event b.event a.asked b.asked a.adds.lawful.judged.0 b.adds.lawful.judged.0 in
      let left : AreSameHistories new theirs = added_alike h other new theirs a.event b.event legal its same a.adds b.adds one in
      let grown : map unplaced h.log ++ map unplaced (a.event ∷ a.adds.brought) ≡ map unplaced h.log ++ map unplaced (b.event ∷ b.adds.brought) =
      sym (map-append unplaced h.log (a.event ∷ a.adds.brought)) ∙ ap (map unplaced) (sym a.adds.log) ∙ left.log ∙ ap (map unplaced) b.adds.log
      ∙ map-append unplaced other.log (b.event ∷ b.adds.brought) ∙ ap (λ l. l ++ map unplaced (b.event ∷ b.adds.brought)) (sym same.log)
      in
      let brought : AreSameButForPlaces (a.event ∷ a.adds.brought) (b.event ∷ b.adds.brought) = append_cancel_left (map unplaced h.log) _ _ grown in
      record {
        text = a.written ∙ sym (same_texts names (a.event ∷ a.adds.brought) (b.event ∷ b.adds.brought) brought) ∙ sym b.written;
        same = left;
        legal = adds_legally h new a.event legal a.adds;
        legal_too = adds_legally other theirs b.event its b.adds;
      }

  both_refused : (step : Step) (front back : List ℕ) → IsRefused names h new step front → IsRefused names other theirs step back
      → AreLeftAlike new theirs front back
  both_refused step front back a b =
      let refusal : a.refusal ≡ b.refusal = same_Some a.refusal b.refusal (sym a.applies
      ∙ refused_same names h other (refused_alike h other legal its same) step ∙ b.applies) in
      record {
        text = a.written ∙ ap refusal_text refusal ∙ sym b.written;
        same = subst (λ (x : History). AreSameHistories x theirs) (sym a.unchanged) (subst (AreSameHistories h) (sym b.unchanged) same);
        legal = subst IsLegal (sym a.unchanged) legal;
        legal_too = subst IsLegal (sym b.unchanged) its;
      }

  answered_alike : (step : Step) (front back : List ℕ) → IsRefused names h new step front ⊎ IsAccepted names h new step front
      → IsRefused names other theirs step back ⊎ IsAccepted names other theirs step back → AreLeftAlike new theirs front back
  answered_alike step front back (inl a) (inl b) = both_refused step front back a b
  answered_alike step front back (inr a) (inr b) = both_accepted step front back a b
  answered_alike step front back (inl a) (inr b) =
      none_some (sym (accepted_none names other step b.event b.asked b.adds.lawful.judged.0)
      ∙ sym (refused_same names h other (refused_alike h other legal its same) step) ∙ a.applies)
  answered_alike step front back (inr a) (inl b) =
      none_some (sym (accepted_none names h step a.event a.asked a.adds.lawful.judged.0)
      ∙ refused_same names h other (refused_alike h other legal its same) step ∙ b.applies)

  rolled_both : (front back : List ℕ) → IsBase new.setup new.base → IsBase theirs.setup theirs.base → IsRolled names h new front
      → IsRolled names other theirs back → AreLeftAlike new theirs front back
  rolled_both front back base too a b =
      let reports : b.reports ≡ a.reports = reports_same h other a.reports b.reports legal its same a.certified.chosen b.certified.chosen in
      record {
        text = a.written ∙ ap (roll_text names) (sym reports) ∙ sym b.written;
        same = subst (λ (x : History). AreSameHistories x theirs) (sym a.begins)
            (subst (AreSameHistories (next_window h)) (sym b.begins) (rolled_alike h other same));
        legal = empty_legal new base (ap (λ (x : History). x.log) a.begins);
        legal_too = empty_legal theirs too (ap (λ (x : History). x.log) b.begins);
      }

  step_alike : (step : Step) (front back : List ℕ) → IsBase new.setup new.base → IsBase theirs.setup theirs.base → StepAnswers names h new step front
      → StepAnswers names other theirs step back → AreLeftAlike new theirs front back
  step_alike Roll front back base too a b = rolled_both front back base too a b
  step_alike (Arrive moment class offset pin) front back base too a b = answered_alike (Arrive moment class offset pin) front back a b
  step_alike (Done moment ticket) front back base too a b = answered_alike (Done moment ticket) front back a b
  step_alike (Fail moment ticket) front back base too a b = answered_alike (Fail moment ticket) front back a b
  step_alike (Abort moment ticket) front back base too a b = answered_alike (Abort moment ticket) front back a b
  step_alike (Tick moment) front back base too a b = answered_alike (Tick moment) front back a b
  step_alike (Check moment server answered) front back base too a b = answered_alike (Check moment server answered) front back a b
  step_alike (Limit moment server limit) front back base too a b = answered_alike (Limit moment server limit) front back a b

-- a window whose end is legal begins at a proper base
base_of_event : (names : List (List ℕ)) (h new : History) (step : Step) (front : List ℕ) → IsRefused names h new step front ⊎ IsAccepted names h new step front
    → IsBase new.setup new.base → IsBase h.setup h.base
base_of_event names h new step front (inl a) base = subst (λ (x : History). IsBase x.setup x.base) a.unchanged base
base_of_event names h new step front (inr a) base = subst (λ x. IsBase x h.base) a.adds.setup (subst (IsBase new.setup) a.adds.base base)

base_of_step : (names : List (List ℕ)) (h new : History) (step : Step) (front : List ℕ) → StepAnswers names h new step front → IsBase new.setup new.base
    → IsBase h.setup h.base
base_of_step names h new Roll front a base = a.certified.legal.begins
base_of_step names h new (Arrive moment class offset pin) front a base = base_of_event names h new (Arrive moment class offset pin) front a base
base_of_step names h new (Done moment ticket) front a base = base_of_event names h new (Done moment ticket) front a base
base_of_step names h new (Fail moment ticket) front a base = base_of_event names h new (Fail moment ticket) front a base
base_of_step names h new (Abort moment ticket) front a base = base_of_event names h new (Abort moment ticket) front a base
base_of_step names h new (Tick moment) front a base = base_of_event names h new (Tick moment) front a base
base_of_step names h new (Check moment server answered) front a base = base_of_event names h new (Check moment server answered) front a base
base_of_step names h new (Limit moment server limit) front a base = base_of_event names h new (Limit moment server limit) front a base

base_ahead : (names : List (List ℕ)) (steps : List Step) (h last : History) (text : List ℕ) → IsScriptText names h steps last text → IsLegal last
    → IsBase h.setup h.base
base_ahead names [] h last text is legal = subst (λ (x : History). IsBase x.setup x.base) is.0 legal.begins
base_ahead names (step ∷ steps) h last text is legal = base_of_step names h is.0 step is.1 is.3 (base_ahead names steps is.0 last is.2 is.5 legal)

-- the text of steps is one
record AreReplayedAlike (last other : History) (text back : List ℕ) : Type 0 where
  pub text_is : text ≡ back
  pub same : AreSameHistories last other

one_text : (names : List (List ℕ)) (steps : List Step) (h other last its_last : History) (text back : List ℕ) → AreSameHistories h other → IsLegal h
    → IsLegal other → IsScriptText names h steps last text → IsScriptText names other steps its_last back
    → IsLegal last → IsLegal its_last → AreReplayedAlike last its_last text back
one_text names [] h other last its_last text back same legal its a b end too =
    record { text_is = a.1 ∙ sym b.1; same = subst (λ (x : History). AreSameHistories x its_last) (sym a.0) (subst (AreSameHistories h) (sym b.0) same) }
one_text names (step ∷ steps) h other last its_last text back same legal its a b end too =
    let left = step_alike names h other a.0 b.0 same legal its step a.1 b.1 (base_ahead names steps a.0 last a.2 a.5 end)
    (base_ahead names steps b.0 its_last b.2 b.5 too) a.3 b.3 in
    let rest = one_text names steps a.0 b.0 last its_last a.2 b.2 left.same left.legal left.legal_too a.5 b.5 end too in
    record { text_is = a.4 ∙ ap (λ l. l ++ a.2) left.text ∙ ap (λ l. b.1 ++ l) rest.text_is ∙ sym b.4; same = rest.same }

itself : (h : History) → AreSameHistories h h
itself h = record { setup = refl; base = same_state-itself h.base; log = refl; state = same_state-itself (state_of h) }

pub one_trace : (script text other : List ℕ) → IsTraceOf script text → IsTraceOf script other → other ≡ text
one_trace script text other a b =
    let first : IsLegal (opening (settings_of (lines script))) =
    empty_legal (opening (settings_of (lines script))) (opening_base (script_setup (settings_of (lines script)))) refl in
    let all =
    one_text (names_of (settings_of (lines script))) (steps_of script) (opening (settings_of (lines script)))
    (opening (settings_of (lines script))) a.last b.last a.answers b.answers
    (itself (opening (settings_of (lines script)))) first first a.answered b.answered a.certified.legal b.certified.legal
    in
    let reports : b.reports ≡ a.reports = reports_same a.last b.last a.reports b.reports a.certified.legal b.certified.legal all.same a.certified.chosen
    b.certified.chosen in
    b.written ∙ ap (λ l. l ++ reports_text (names_of (settings_of (lines script))) b.reports) (sym all.text_is)
    ∙ ap (λ l. a.answers ++ reports_text (names_of (settings_of (lines script))) l) reports ∙ sym a.written
