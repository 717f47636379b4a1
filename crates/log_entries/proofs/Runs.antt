-- After any calls a log is legal.
use Rattle.std.proofs.Common.{◌≡◌, ℕ, ◌+◌, true, Option, List, [], ◌∷◌, ◌++◌, length, refl, ap, sym, ◌∙◌, subst, arith, inl, inr}
use Rattle.log_entries.specs.declared.entry.Entry.{Entry}
use Rattle.log_entries.specs.declared.entry.Entry.TheVariants.{Arrive, Done, Fail, Abort, Tick, Check, Limit, Granted}
use Rattle.log_entries.specs.declared.setup.Setup.{Setup}
use Rattle.log_entries.specs.Histories.{History, state_of, begins_event, first_window, start_of, end_of}
use Rattle.log_entries.specs.Judgement.{Stage, granting, EventIsOver, MayBegin, MayCome, AllMayCome, AreLawful, next_stage, stage_after}
use Rattle.log_entries.specs.Legal.{IsLegal, AddsEvent}
use Rattle.log_entries.specs.Runs.{Call, event, roll, GoesOnBy, GoesBy, IsRun}
use Rattle.log_entries.specs.Grants.{IsSettled}
use Rattle.log_entries.specs.Setups.{IsSound}
use Rattle.base_lists.proofs.Never.{false_true}
use Rattle.log_entries.specs.States.{State, scene, after, after_all, Point, point_of, next_point, point_after}
use Rattle.log_entries.specs.declared.refusal.Refusal.{Refusal}
use Rattle.log_entries.proofs.Windows.{opening_base, empty_legal, next_legal}

-- where all is settled an event alone may come
pub is_event : (here : Point) (e : Entry) → IsSettled (scene here.setup here.state) → MayCome here granting e → begins_event e ≡ true
is_event here (Arrive m a) settled may = refl
is_event here (Done m u) settled may = refl
is_event here (Fail m u) settled may = refl
is_event here (Abort m u) settled may = refl
is_event here (Tick m) settled may = refl
is_event here (Check m v ok) settled may = refl
is_event here (Limit m v k) settled may = refl
is_event here (Granted u q v) settled may = absurd (settled v may.1.next.takes)
is_event here e settled may = absurd may

at_stage : {here : Point} {before t : Stage} {m : ℕ} {refused : Option Refusal} → MayBegin here before m refused → EventIsOver here.setup here.state t
    → MayBegin here t m refused
at_stage may over = record { over = over; settled = may.settled; accepted = may.accepted; later = may.later; within = may.within }

-- an event may come at another stage where the one before is over
comes_at : (here : Point) (t : Stage) (e : Entry) → begins_event e ≡ true → EventIsOver here.setup here.state t → MayCome here granting e
    → MayCome here t e
comes_at here t (Arrive m a) begins over may = (at_stage may.0 over, may.1)
comes_at here t (Done m u) begins over may = at_stage may over
comes_at here t (Fail m u) begins over may = at_stage may over
comes_at here t (Abort m u) begins over may = at_stage may over
comes_at here t (Tick m) begins over may = at_stage may over
comes_at here t (Check m v ok) begins over may = at_stage may over
comes_at here t (Limit m v k) begins over may = at_stage may over
comes_at here t e begins over may = false_true begins

-- and what comes after it is as before
same_stage : (t : Stage) (e : Entry) → begins_event e ≡ true → next_stage granting e ≡ next_stage t e
same_stage t (Arrive m a) begins = refl
same_stage t (Done m u) begins = refl
same_stage t (Fail m u) begins = refl
same_stage t (Abort m u) begins = refl
same_stage t (Tick m) begins = refl
same_stage t (Check m v ok) begins = refl
same_stage t (Limit m v k) begins = refl
same_stage t e begins = false_true begins

-- what is lawful goes on lawfully
pub judged_on : (here : Point) (t : Stage) (es fs : List Entry) → AllMayCome here t es
    → AllMayCome (point_after here es) (stage_after t es) fs → AllMayCome here t (es ++ fs)
judged_on here t [] fs all later = subst (λ k. AllMayCome (point_of here.setup here.state k) t fs) (omega arith) later
judged_on here t (e ∷ es) fs all later = (
  all.0,
  judged_on (next_point here e) (next_stage t e) es fs all.1
      (let longer : here.used + length (e ∷ es) ≡ (here.used + 1) + length es = omega arith in
      subst (λ k. AllMayCome (point_of here.setup (after_all here.setup here.state (e ∷ es)) k) (stage_after t (e ∷ es)) fs) longer later),
)

pub after_on : (setup : Setup) (s : State) (es fs : List Entry) → after_all setup s (es ++ fs) ≡ after_all setup (after_all setup s es) fs
after_on setup s [] fs = refl
after_on setup s (e ∷ es) fs = after_on setup (after setup s e) es fs

pub stage_on : (t : Stage) (es fs : List Entry) → stage_after t (es ++ fs) ≡ stage_after (stage_after t es) fs
stage_on t [] fs = refl
stage_on t (e ∷ es) fs = stage_on (next_stage t e) es fs

-- what is lawful at the end of entries is lawful from there on
pub judged_off : (here : Point) (t : Stage) (es fs : List Entry) → AllMayCome here t (es ++ fs)
    → AllMayCome (point_after here es) (stage_after t es) fs
judged_off here t [] fs all = subst (λ k. AllMayCome (point_of here.setup here.state k) t fs) (omega arith) all
judged_off here t (e ∷ es) fs all =
    let longer : (here.used + 1) + length es ≡ here.used + length (e ∷ es) = omega arith in
    subst (λ k. AllMayCome (point_of here.setup (after_all here.setup here.state (e ∷ es)) k) (stage_after t (e ∷ es)) fs) longer
    (judged_off (next_point here e) (next_stage t e) es fs all.1)

-- an event that may come may come where nothing is owed
comes_anew : (here : Point) (t : Stage) (e : Entry) → begins_event e ≡ true → MayCome here t e → MayCome here granting e
comes_anew here t (Arrive m a) begins may = (at_stage may.0 tt, may.1)
comes_anew here t (Done m u) begins may = at_stage may tt
comes_anew here t (Fail m u) begins may = at_stage may tt
comes_anew here t (Abort m u) begins may = at_stage may tt
comes_anew here t (Tick m) begins may = at_stage may tt
comes_anew here t (Check m v ok) begins may = at_stage may tt
comes_anew here t (Limit m v k) begins may = at_stage may tt
comes_anew here t e begins may = false_true begins

-- a history's entries are judged, its last event is over, and all is settled
pub record IsWhole (h : History) : Type 0 where
  pub judged : AllMayCome (start_of h) granting h.log
  pub whole : EventIsOver h.setup (state_of h) (stage_after granting h.log)
  pub settled : IsSettled (scene h.setup (state_of h))

-- the piece that an event and what it brings are, where the whole is lawful
pub adds_piece : (old new : History) (e : Entry) (brought : List Entry) → begins_event e ≡ true → new.setup ≡ old.setup → new.base ≡ old.base
    → new.log ≡ old.log ++ e ∷ brought → IsWhole new
    → AreLawful (end_of old) (e ∷ brought)
adds_piece old new e brought begins same_setup same_base same_log is =
    record {
      judged = (
        comes_anew (end_of old) t e begins later.0,
        subst (λ stage. AllMayCome (next_point (end_of old) e) stage brought) (sym (same_stage t e begins)) later.1,
      );
      whole = subst (EventIsOver setup (after_all setup (state_of old) piece)) (sym same_end)
          (subst (λ (s : State). EventIsOver setup s (stage_after granting (old.log ++ piece))) (after_on setup old.base old.log piece) there.whole);
      settled = subst (λ (s : State). IsSettled (scene setup s)) (after_on setup old.base old.log piece) there.settled;
    }
  where
    setup : Setup
    setup = old.setup

    piece : List Entry
    piece = e ∷ brought

    t : Stage
    t = stage_after granting old.log

    there : IsWhole (record { setup = setup; base = old.base; log = old.log ++ piece })
    there =
        subst (λ x. IsWhole (record { setup = setup; base = old.base; log = x })) same_log
        (subst (λ x. IsWhole (record { setup = setup; base = x; log = new.log })) same_base
        (subst (λ x. IsWhole (record { setup = x; base = new.base; log = new.log })) same_setup is))

    later : AllMayCome (end_of old) t piece
    later = subst (λ k. AllMayCome (point_of setup (state_of old) k) t piece) (omega arith) (judged_off (start_of old) granting old.log piece there.judged)

    same_end : stage_after granting piece ≡ stage_after granting (old.log ++ piece)
    same_end = ap (λ stage. stage_after stage brought) (same_stage t e begins) ∙ sym (stage_on granting old.log piece)

-- an event that is added to a legal log
pub adds_legally : (old new : History) (e : Entry) → IsLegal old → AddsEvent old new e → IsLegal new
adds_legally old new e legal adds = rebuilt new adds.setup adds.base adds.log
  where
    setup : Setup
    setup = old.setup

    piece : List Entry
    piece = e ∷ adds.brought

    t : Stage
    t = stage_after granting old.log

    begins : begins_event e ≡ true
    begins = is_event (end_of old) e legal.lawful.settled adds.lawful.judged.0

    later : AllMayCome (point_of setup (state_of old) (0 + length old.log)) t piece
    later =
        let first = comes_at (end_of old) t e begins legal.lawful.whole adds.lawful.judged.0 in
        let rest = subst (λ stage. AllMayCome (next_point (end_of old) e) stage adds.brought)
        (same_stage t e begins) adds.lawful.judged.1 in
        subst (λ k. AllMayCome (point_of setup (state_of old) k) t piece) (omega arith) (first, rest)

    same_end : stage_after granting piece ≡ stage_after granting (old.log ++ piece)
    same_end = ap (λ stage. stage_after stage adds.brought) (same_stage t e begins) ∙ sym (stage_on granting old.log piece)

    whole : EventIsOver setup (after_all setup old.base (old.log ++ piece)) (stage_after granting (old.log ++ piece))
    whole = subst (EventIsOver setup (after_all setup old.base (old.log ++ piece))) same_end
        (subst (λ (s : State). EventIsOver setup s (stage_after granting piece)) (sym (after_on setup old.base old.log piece)) adds.lawful.whole)

    lawful : AreLawful (start_of old) (old.log ++ piece)
    lawful = record {
      judged = judged_on (start_of old) granting old.log piece legal.lawful.judged later;
      whole = whole;
      settled = subst (λ (s : State). IsSettled (scene setup s)) (sym (after_on setup old.base old.log piece)) adds.lawful.settled;
    }

    rebuilt : (new : History) → new.setup ≡ setup → new.base ≡ old.base → new.log ≡ old.log ++ piece → IsLegal new
    rebuilt new same_setup same_base same_log =
        subst (λ x. IsLegal (record { setup = x; base = new.base; log = new.log })) (sym same_setup)
        (subst (λ x. IsLegal (record { setup = setup; base = x; log = new.log })) (sym same_base)
        (subst (λ x. IsLegal (record { setup = setup; base = old.base; log = x })) (sym same_log) (record { begins = legal.begins; lawful = lawful })))

-- the setup is as before
same_setup : (call : Call) (old new : History) → GoesOnBy call old new → new.setup ≡ old.setup
same_setup (event entry) old new (inl adds) = adds.setup
same_setup (event entry) old new (inr same) = ap (λ (h : History). h.setup) same
same_setup roll old new rolls = ap (λ (h : History). h.setup) rolls

goes_legally : (call : Call) (old new : History) → IsSound old.setup → IsLegal old → GoesOnBy call old new → IsLegal new
goes_legally (event entry) old new sound legal (inl adds) = adds_legally old new entry legal adds
goes_legally (event entry) old new sound legal (inr same) = subst IsLegal (sym same) legal
goes_legally roll old new sound legal rolls = subst IsLegal (sym rolls) (next_legal old sound legal)

stays_legal : (calls : List Call) (old new : History) → IsSound old.setup → IsLegal old → GoesBy calls old new → IsLegal new
stays_legal [] old new sound legal goes = subst IsLegal (sym goes) legal
stays_legal (call ∷ calls) old new sound legal goes =
    stays_legal calls goes.0 new (subst IsSound (sym (same_setup call old goes.0 goes.1)) sound) (goes_legally call old goes.0 sound legal goes.1) goes.2

pub first_legal : (setup : Setup) → IsLegal (first_window setup [])
first_legal setup = empty_legal (first_window setup []) (opening_base setup) refl

pub run_legal : (setup : Setup) (calls : List Call) (history : History) → IsRun setup calls history → IsLegal history
run_legal setup calls history run = stays_legal calls (first_window setup []) history run.0 (first_legal setup) run.1
