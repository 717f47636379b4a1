-- An entry more of what is followed.
use Rattle.std.proofs.Common.{◌≡◌, ℕ, ◌==◌, Bool, true, false, cond, List, [], ◌∷◌, ◌++◌, Option, None, Some, refl, ap, sym, ◌∙◌}
use Rattle.std.specs.Option.{option_map, option_map_or}
use Rattle.std.proofs.lemmas.Bool.{eqb-true}
use Rattle.std.proofs.lemmas.Option.{same_Some}
use Rattle.log_entries.specs.declared.entry.Entry.{Entry}
use Rattle.log_entries.specs.declared.entry.Entry.TheVariants.{Arrive, Done, Fail, Abort, Tick, Check, Limit, Direct, Joined, Granted, Moved, Freed, Retried, Left, Health, Ended}
use Rattle.log_reading.proofs.Moments.{moment_of-push}
use Rattle.log_stretches.specs.Courses.{came_in, later, newer_came}
use Rattle.log_stretches.specs.declared.course.Came.{Came}
use Rattle.log_stretches.proofs.Courses.{came_more}
use Rattle.log_lines.specs.declared.numbers.Numbers.{Numbers}
use Rattle.log_lines.specs.Following.{Following, WindowSoFar, Follows, FollowsLog, known, told_after, came_by, named_in, new_numbers, numbers_after}

cond_when : {X : Type 0} → (b : Bool) (x y z : X) → (b ≡ true → x ≡ y) → cond b x z ≡ cond b y z
cond_when true x y z same = same refl
cond_when false x y z same = refl

-- what is put for a request is what becomes of what was known of it
pub put_known : (ticket other : ℕ) (change : Numbers → Numbers) (before after : Numbers) (told : ℕ → Option Numbers) → told ticket ≡ Some before
    → after ≡ change before
    → cond (ticket == other) (Some after) (told other) ≡ cond (ticket == other) (option_map change (told other)) (told other)
put_known ticket other change before after told is new =
    cond_when (ticket == other) (Some after) (option_map change (told other)) (told other)
    (λ same. ap Some new ∙ sym (ap (option_map change) (ap told (sym (eqb-true ticket other same)) ∙ is)))

-- an entry that names a request doesn't change when it came
kept : (moment : ℕ) (window : WindowSoFar) (before : Numbers) (entry : Entry) → (numbers_after moment window before entry).came ≡ before.came
kept moment window before (Arrive at arrival) = refl
kept moment window before (Done at ticket) = refl
kept moment window before (Fail at ticket) = refl
kept moment window before (Abort at ticket) = refl
kept moment window before (Tick at) = refl
kept moment window before (Check at server ok) = refl
kept moment window before (Limit at server limit) = refl
kept moment window before (Direct ticket server) = refl
kept moment window before (Joined ticket queue) = refl
kept moment window before (Granted ticket queue server) = refl
kept moment window before (Moved ticket server) = refl
kept moment window before (Freed ticket server) = refl
kept moment window before (Retried ticket server count) = refl
kept moment window before (Left ticket cause) = refl
kept moment window before (Health server up) = refl
kept moment window before (Ended ticket) = refl

-- whoever is known after an entry that is no arrival was known before it, and came when they did
told_kept : (ticket moment : ℕ) (window : WindowSoFar) (before : Option Numbers) (entry : Entry) (named : Option ℕ) (numbers : Numbers)
    → option_map_or (λ (it : ℕ). cond (it == ticket) (option_map (λ (n : Numbers). numbers_after moment window n entry) before) before) named before ≡ Some numbers
    → (old : Numbers) × (before ≡ Some old) × (old.came ≡ numbers.came)
told_kept ticket moment window before entry None numbers is = (numbers, is, refl)
told_kept ticket moment window before entry (Some it) numbers is = by_test (it == ticket) before is
  where
    by_test : (b : Bool) (o : Option Numbers) → cond b (option_map (λ (n : Numbers). numbers_after moment window n entry) o) o ≡ Some numbers
        → (old : Numbers) × (o ≡ Some old) × (old.came ≡ numbers.came)
    by_test false o given = (numbers, given, refl)
    by_test true None given = let no : None ≡ Some numbers = given in absurd cc
    by_test true (Some old) given =
        (old, refl, sym (kept moment window old entry) ∙ ap (λ (n : Numbers). n.came) (same_Some (numbers_after moment window old entry) numbers given))

newer_by : (ticket : ℕ) (before : Option Came) (entry : Entry)
    → newer_came ticket before entry ≡ option_map_or (λ (came : Came). cond (came.arrival.ticket == ticket) (Some came) before) (came_by entry) before
newer_by ticket before (Arrive at arrival) = refl
newer_by ticket before (Done at other) = refl
newer_by ticket before (Fail at other) = refl
newer_by ticket before (Abort at other) = refl
newer_by ticket before (Tick at) = refl
newer_by ticket before (Check at server ok) = refl
newer_by ticket before (Limit at server limit) = refl
newer_by ticket before (Direct other server) = refl
newer_by ticket before (Joined other queue) = refl
newer_by ticket before (Granted other queue server) = refl
newer_by ticket before (Moved other server) = refl
newer_by ticket before (Freed other server) = refl
newer_by ticket before (Retried other server count) = refl
newer_by ticket before (Left other cause) = refl
newer_by ticket before (Health server up) = refl
newer_by ticket before (Ended other) = refl

-- what is known of an arrival is what the log says of it, by whether an entry is one
came_with : (ticket : ℕ) (came : Option Came) (before told : Option Numbers) (log : Option Came)
    → ((n : Numbers) → before ≡ Some n → log ≡ Some n.came) → ((n : Numbers) → told ≡ Some n → log ≡ Some n.came) → (numbers : Numbers)
    → option_map_or (λ (it : Came). cond (it.arrival.ticket == ticket) (Some (new_numbers it)) before) came told ≡ Some numbers
    → option_map_or (λ (it : Came). cond (it.arrival.ticket == ticket) (Some it) log) came log ≡ Some numbers.came
came_with ticket None before told log earlier later numbers is = later numbers is
came_with ticket (Some it) before told log earlier later numbers is = by_test (it.arrival.ticket == ticket) is
  where
    by_test : (b : Bool) → cond b (Some (new_numbers it)) before ≡ Some numbers → cond b (Some it) log ≡ Some numbers.came
    by_test true given = ap Some (ap (λ (n : Numbers). n.came) (same_Some (new_numbers it) numbers given))
    by_test false given = earlier numbers given

-- what is known goes on being what the log tells, with an entry more
pub of_step : (log : List Entry) (old : Following) (entry : Entry) (new : Following) → Follows old entry new → FollowsLog log old → FollowsLog (log ++ entry ∷ []) new
of_step log old entry new follows is = record {
  moment = follows.moment ∙ ap (later entry) is.moment ∙ sym (moment_of-push log entry);
  came = λ ticket numbers given.
      came_more log entry ticket
      ∙ newer_by ticket (came_in log ticket) entry
      ∙ came_with ticket (came_by entry) (known old ticket) (told_after ticket (later entry old.moment) old.window (known old ticket) entry) (came_in log ticket)
      (λ n held. is.came ticket n held)
      (λ n told. from_told ticket n (told_kept ticket (later entry old.moment) old.window (known old ticket) entry (named_in entry) n told))
      numbers (sym (follows.numbers ticket) ∙ given);
}
  where
    from_told : (ticket : ℕ) (n : Numbers) → (o : Numbers) × (known old ticket ≡ Some o) × (o.came ≡ n.came) → came_in log ticket ≡ Some n.came
    from_told ticket n kept_by = is.came ticket kept_by.0 kept_by.1 ∙ ap Some kept_by.2

-- and with a request less
pub of_less : (log : List Entry) (old new : Following) (ticket : ℕ) → new.moment ≡ old.moment
    → ((other : ℕ) → known new other ≡ cond (ticket == other) None (known old other)) → FollowsLog log old → FollowsLog log new
of_less log old new ticket same others is = record {
  moment = same ∙ is.moment;
  came = λ other numbers given. by_test other numbers (ticket == other) (sym (others other) ∙ given);
}
  where
    by_test : (other : ℕ) (numbers : Numbers) (b : Bool) → cond b None (known old other) ≡ Some numbers → came_in log other ≡ Some numbers.came
    by_test other numbers true given = let no : None ≡ Some numbers = given in absurd cc
    by_test other numbers false given = is.came other numbers given
