-- What stands behind a script's header lines.
use Rattle.std.proofs.Common.{◌≡◌, ℕ, ◌+◌, ◌<◌, ◌≤◌, nat_le, Bool, true, false, ◌||◌, List, [], ◌∷◌, ◌++◌, length, take, drop, filter_map}
use Rattle.std.proofs.Common.{Option, Some, None, is_some, option_map, option_and_then, if◌then◌else◌, codes, refl, sym, ap, ◌∙◌, arith}
use Rattle.std.proofs.Common.{append_assoc, append-nil, length-append}
use Rattle.std.specs.List.{cons_option, list_any}
use Rattle.std.specs.Str.{bytes_eq}
use Rattle.std.proofs.lemmas.Bool.Decides.{nat_tests}
use Rattle.std.proofs.lemmas.List.{take-append-drop, drop_all}
use Rattle.std.proofs.lemmas.List.Elements.{filter_map-append}
use Rattle.std.proofs.lemmas.List.Folds.{list_any-append}
use Rattle.std.proofs.lemmas.Slice.Eq.{bytes_eq-Decides}
use Rattle.proxy_words.specs.Numerals.{numeral}
use Rattle.proxy_words.specs.Text.{words}
use Rattle.log_texts.specs.declared.setting.Setting.{Setting}
use Rattle.log_texts.specs.declared.step.Step.{Step}
use Rattle.log_texts.specs.declared.step.Step.TheVariants.{Tick, Roll}
use Rattle.log_texts.specs.Steps.{step_of, is_skipped, named, ticketed, arrival_line, tick_of, check_of, limit_step, asked_by}
use Rattle.log_texts.specs.Headers.{Settings, all_of, settings_of, setting_of, set_by}
use Rattle.log_texts.specs.Lines.{kind_by, is_fault}
use Rattle.log_texts.specs.Faults.{is_step, is_faulty, fault_behind}
use Rattle.log_texts.specs.Reading.{IsHeader}
use Rattle.log_texts.proofs.Headers.{parted}

-- what is made of something is there only where that is
and_then_some : {A B : Type 0} (make : A → Option B) (from : Option A) → is_some (option_and_then make from) ≡ true → is_some from ≡ true
and_then_some make None some = cc
and_then_some make (Some x) some = refl

map_some : {A B : Type 0} (make : A → B) (from : Option A) → is_some (option_map make from) ≡ true → is_some from ≡ true
map_some make None some = cc
map_some make (Some x) some = refl

inner_some : {A B : Type 0} {P : Type 0} (make : A → Option B) (from : Option A) → ((x : A) → is_some (make x) ≡ true → P)
    → is_some (option_and_then make from) ≡ true → P
inner_some make None then' some = cc
inner_some make (Some x) then' some = then' x some

either_some : {P : Type 0} (test : Bool) (one other : Option Step) → (is_some one ≡ true → P) → (is_some other ≡ true → P)
    → is_some (if test then one else other) ≡ true → P
either_some true one other first second some = first some
either_some false one other first second some = second some

-- an event's line begins with a moment
module _ (moment : List ℕ) where
  arrival_moment : (others : List (List ℕ)) → is_some (arrival_line moment others) ≡ true → is_some (numeral 18 moment) ≡ true
  arrival_moment [] some = cc
  arrival_moment (class ∷ []) some = cc
  arrival_moment (class ∷ offset ∷ []) some = and_then_some _ (numeral 18 moment) some
  arrival_moment (class ∷ offset ∷ pin ∷ []) some = inner_some _ (named pin) (λ name made. and_then_some _ (numeral 18 moment) made) some
  arrival_moment (class ∷ offset ∷ pin ∷ more ∷ rest) some = cc

  ticket_moment : (others : List (List ℕ)) → is_some (ticketed moment others) ≡ true → is_some (numeral 18 moment) ≡ true
  ticket_moment others some = and_then_some _ (numeral 18 moment) some

  tick_moment : (others : List (List ℕ)) → is_some (tick_of moment others) ≡ true → is_some (numeral 18 moment) ≡ true
  tick_moment [] some = map_some Tick (numeral 18 moment) some
  tick_moment (word ∷ rest) some = cc

  check_moment : (others : List (List ℕ)) → is_some (check_of moment others) ≡ true → is_some (numeral 18 moment) ≡ true
  check_moment [] some = cc
  check_moment (server ∷ []) some = cc
  check_moment (server ∷ result ∷ []) some = and_then_some _ (numeral 18 moment) some
  check_moment (server ∷ result ∷ more ∷ rest) some = cc

  limit_moment : (others : List (List ℕ)) → is_some (limit_step moment others) ≡ true → is_some (numeral 18 moment) ≡ true
  limit_moment [] some = cc
  limit_moment (server ∷ []) some = cc
  limit_moment (server ∷ limit ∷ []) some = and_then_some _ (numeral 18 moment) some
  limit_moment (server ∷ limit ∷ more ∷ rest) some = cc

  event_moment : (name : List ℕ) (others : List (List ℕ)) → is_some (asked_by (moment ∷ name ∷ others)) ≡ true → is_some (numeral 18 moment) ≡ true
  event_moment name others some =
      either_some (bytes_eq name (codes "arrive")) _ _ (arrival_moment others)
      (either_some (bytes_eq name (codes "done")) _ _ (λ made. ticket_moment others (map_some _ (ticketed moment others) made))
      (either_some (bytes_eq name (codes "fail")) _ _ (λ made. ticket_moment others (map_some _ (ticketed moment others) made))
      (either_some (bytes_eq name (codes "abort")) _ _ (λ made. ticket_moment others (map_some _ (ticketed moment others) made))
      (either_some (bytes_eq name (codes "tick")) _ _ (tick_moment others)
      (either_some (bytes_eq name (codes "check")) _ _ (check_moment others)
      (either_some (bytes_eq name (codes "limit")) _ _ (limit_moment others) (λ none. cc))))))) some

  -- a moment is no keyword
  no_keyword : (keyword : List ℕ) → is_some (numeral 18 keyword) ≡ false → is_some (numeral 18 moment) ≡ true → bytes_eq moment keyword ≡ false
  no_keyword keyword none some = by_test (bytes_eq moment keyword) refl
    where
      by_test : (b : Bool) → bytes_eq moment keyword ≡ b → bytes_eq moment keyword ≡ false
      by_test false e = e
      by_test true e =
          let same : moment ≡ keyword = (bytes_eq-Decides moment keyword).0 e in
          let both : is_some (numeral 18 moment) ≡ false = ap (λ w. is_some (numeral 18 w)) same ∙ none in
          cc

  passed : (test : Bool) (one other : Option Setting) → test ≡ false → other ≡ None → (if test then one else other) ≡ None
  passed false one other e none = none
  passed true one other e none = cc

  moment_sets_nothing : (others : List (List ℕ)) → is_some (numeral 18 moment) ≡ true → set_by (moment ∷ others) ≡ None
  moment_sets_nothing others some =
      passed (bytes_eq moment (codes "places")) _ _ (no_keyword (codes "places") refl some)
      (passed (bytes_eq moment (codes "log")) _ _ (no_keyword (codes "log") refl some)
      (passed (bytes_eq moment (codes "retries")) _ _ (no_keyword (codes "retries") refl some)
      (passed (bytes_eq moment (codes "redispatch")) _ _ (no_keyword (codes "redispatch") refl some)
      (passed (bytes_eq moment (codes "queue-timeout")) _ _ (no_keyword (codes "queue-timeout") refl some)
      (passed (bytes_eq moment (codes "server")) _ _ (no_keyword (codes "server") refl some) refl)))))

-- a step sets nothing
asked_sets_nothing : (said : List (List ℕ)) → is_some (asked_by said) ≡ true → set_by said ≡ None
asked_sets_nothing [] some = cc
asked_sets_nothing (word ∷ []) some = by_test (bytes_eq word (codes "roll")) refl some
  where
    by_test : (b : Bool) → bytes_eq word (codes "roll") ≡ b → is_some (asked_by (word ∷ [])) ≡ true → set_by (word ∷ []) ≡ None
    by_test true e asked = ap (λ w. set_by (w ∷ [])) ((bytes_eq-Decides word (codes "roll")).0 e)
    by_test false e asked = let none : is_some (asked_by (word ∷ [])) ≡ false = ap (λ b. is_some (if b then Some Roll else None)) e in cc
asked_sets_nothing (moment ∷ name ∷ others) some = moment_sets_nothing moment (name ∷ others) (event_moment moment name others some)

step_sets_nothing : (line : List ℕ) → is_step line ≡ true → setting_of line ≡ None
step_sets_nothing line step = asked_sets_nothing (words line) step

-- so it is not faulty, and what isn't faulty behind a step sets nothing
step_is_fine : (settings : Settings) (begun : Bool) (line : List ℕ) → is_step line ≡ true → is_faulty settings begun line ≡ false
step_is_fine settings begun line step = by_step (step_of line) refl
  where
    by_step : (o : Option Step) → step_of line ≡ o → is_faulty settings begun line ≡ false
    by_step (Some s) e = ap (λ o. is_fault settings begun (kind_by o (setting_of line) (is_skipped line))) e
    by_step None e = let none : true ≡ false = sym step ∙ ap is_some e in cc

fine_sets_nothing : (settings : Settings) (line : List ℕ) → is_faulty settings true line ≡ false → setting_of line ≡ None
fine_sets_nothing settings line fine = by_step (step_of line) refl
  where
    by_setting : step_of line ≡ None → (o : Option Setting) → setting_of line ≡ o → setting_of line ≡ None
    by_setting none None e = e
    by_setting none (Some setting) e =
        let bad : is_faulty settings true line ≡ true =
        ap (λ o. is_fault settings true (kind_by o (setting_of line) (is_skipped line))) none
        ∙ ap (λ o. is_fault settings true (kind_by None o (is_skipped line))) e in
        let no : true ≡ false = sym bad ∙ fine in
        cc

    by_step : (o : Option Step) → step_of line ≡ o → setting_of line ≡ None
    by_step (Some s) e = step_sets_nothing line (ap is_some e)
    by_step None e = by_setting e (setting_of line) refl

-- behind a step
begun_more : (before : List (List ℕ)) (line : List ℕ) → list_any is_step before ≡ true → list_any is_step (before ++ line ∷ []) ≡ true
begun_more before line begun = list_any-append is_step before (line ∷ []) ∙ ap (λ b. b || list_any is_step (line ∷ [])) begun

or_last : (b : Bool) → b || (true || false) ≡ true
or_last true = refl
or_last false = refl

begun_now : (before : List (List ℕ)) (line : List ℕ) → is_step line ≡ true → list_any is_step (before ++ line ∷ []) ≡ true
begun_now before line step =
    list_any-append is_step before (line ∷ []) ∙ ap (λ b. list_any is_step before || (b || false)) step ∙ or_last (list_any is_step before)

-- a line that isn't faulty is passed
next_fault : (before : List (List ℕ)) (line : List ℕ) (rest : List (List ℕ)) → is_faulty (settings_of before) (list_any is_step before) line ≡ false
    → fault_behind before (line ∷ rest) ≡ fault_behind (before ++ line ∷ []) rest
next_fault before line rest fine = ap (λ b. if b then Some (length before + 1) else fault_behind (before ++ line ∷ []) rest) fine

-- and one is not faulty where there is no fault at all
first_fine : (before : List (List ℕ)) (line : List ℕ) (rest : List (List ℕ)) → fault_behind before (line ∷ rest) ≡ None
    → is_faulty (settings_of before) (list_any is_step before) line ≡ false
first_fine before line rest none = by_test (is_faulty (settings_of before) (list_any is_step before) line) refl
  where
    by_test : (b : Bool) → is_faulty (settings_of before) (list_any is_step before) line ≡ b
        → is_faulty (settings_of before) (list_any is_step before) line ≡ false
    by_test false e = e
    by_test true e =
        let some : fault_behind before (line ∷ rest) ≡ Some (length before + 1) =
        ap (λ b. if b then Some (length before + 1) else fault_behind (before ++ line ∷ []) rest) e in
        cc

-- lines behind a step that have no fault set nothing
none_set : (before rest : List (List ℕ)) → list_any is_step before ≡ true → fault_behind before rest ≡ None → filter_map setting_of rest ≡ []
none_set before [] begun none = refl
none_set before (line ∷ rest) begun none =
    let fine = first_fine before line rest none in
    let sets : setting_of line ≡ None = fine_sets_nothing (settings_of before) line (ap (λ b. is_faulty (settings_of before) b line) (sym begun) ∙ fine) in
    ap (λ o. cons_option o (filter_map setting_of rest)) sets
    ∙ none_set (before ++ line ∷ []) rest (begun_more before line begun) (sym (next_fault before line rest fine) ∙ none)

-- what the lines of a faultless script set is what its header lines do
pub settings_whole : (all : List (List ℕ)) (count : ℕ) → IsHeader all count → fault_behind [] all ≡ None → settings_of all ≡ settings_of (take count all)
settings_whole all count is none =
    ap settings_of (sym (take-append-drop count all))
    ∙ ap all_of (filter_map-append setting_of (take count all) (drop count all)
    ∙ ap (λ l. filter_map setting_of (take count all) ++ l) (by_rest (drop count all) refl) ∙ append-nil (filter_map setting_of (take count all)))
  where
    by_rest : (rest : List (List ℕ)) → drop count all ≡ rest → filter_map setting_of rest ≡ []
    by_rest [] e = refl
    by_rest (line ∷ rest) e =
        let step = is.begins line rest e in
        let here : fault_behind (take count all) (line ∷ rest) ≡ None = ap (fault_behind (take count all)) (sym e) ∙ sym is.faultless ∙ none in
        let fine = first_fine (take count all) line rest here in
        ap (λ o. cons_option o (filter_map setting_of rest)) (step_sets_nothing line step)
        ∙ none_set (take count all ++ line ∷ []) rest (begun_now (take count all) line step) (sym (next_fault (take count all) line rest fine) ∙ here)

-- this many lines behind a header of this many were read; none of them is faulty
pub record AreThrough (all before left : List (List ℕ)) (header number : ℕ) : Type 0 where
  pub cut : all ≡ before ++ left
  pub count : number ≡ length before
  pub faultless : header ≤ number → fault_behind [] all ≡ fault_behind before left
  pub begun : header < number → list_any is_step before ≡ true

abbrev pub IsThrough : List (List ℕ) → List (List ℕ) → ℕ → ℕ → Type 0
IsThrough all left header number = (before : List (List ℕ)) × AreThrough all before left header number

pub none_through : (all : List (List ℕ)) (header : ℕ) → IsThrough all all header 0
none_through all header = ([], record { cut = refl; count = refl; faultless = λ low. refl; begun = λ low. absurd (omega arith) })

module _ (all left rest : List (List ℕ)) (line : List ℕ) (header number : ℕ) (is : IsHeader all header) where
  -- the first line behind the header is a step
  first_step : (before : List (List ℕ)) → AreThrough all before left header number → left ≡ line ∷ rest → header ≡ number → is_step line ≡ true
  first_step before are cut here = is.begins line rest (ap (λ n. drop n all) here ∙ (parted all before left number are.cut are.count).1 ∙ cut)

  through_more : (before : List (List ℕ)) → AreThrough all before left header number → left ≡ line ∷ rest
      → (header ≤ number → is_faulty (settings_of before) (list_any is_step before) line ≡ false) → IsThrough all rest header (number + 1)
  through_more before are cut fine = (
    before ++ line ∷ [],
    record {
      cut = whole;
      count = more;
      faultless = λ low. by_place (nat_le header number) refl low;
      begun = λ low. by_begin (nat_le number header) refl low;
    },
  )
    where
      whole : all ≡ (before ++ line ∷ []) ++ rest
      whole = are.cut ∙ ap (λ l. before ++ l) cut ∙ sym (append_assoc before (line ∷ []) rest)

      more : number + 1 ≡ length (before ++ line ∷ [])
      more = ap (λ n. n + 1) are.count ∙ sym (length-append before (line ∷ []))

      by_place : (b : Bool) → nat_le header number ≡ b → header ≤ number + 1 → fault_behind [] all ≡ fault_behind (before ++ line ∷ []) rest
      by_place true e low =
          let behind : header ≤ number = grind (arith, nat_tests, e) in
          are.faultless behind ∙ ap (fault_behind before) cut ∙ next_fault before line rest (fine behind)
      by_place false e low =
          let here : header ≡ number + 1 = grind (arith, nat_tests, e, low) in
          let parts = parted all (before ++ line ∷ []) rest (number + 1) whole more in
          is.faultless ∙ ap (λ n. fault_behind (take n all) (drop n all)) here ∙ ap (λ l. fault_behind l (drop (number + 1) all)) parts.0
          ∙ ap (fault_behind (before ++ line ∷ [])) parts.1

      by_begin : (b : Bool) → nat_le number header ≡ b → header < number + 1 → list_any is_step (before ++ line ∷ []) ≡ true
      by_begin true e low = begun_now before line (first_step before are cut (grind (arith, nat_tests, e, low)))
      by_begin false e low = begun_more before line (are.begun (grind (arith, nat_tests, e)))

  -- a step, or a line of the header, or one that isn't faulty behind a step is passed
  pub through_step : IsThrough all left header number → left ≡ line ∷ rest → is_step line ≡ true → IsThrough all rest header (number + 1)
  through_step (before, are) cut step = through_more before are cut (λ low. step_is_fine (settings_of before) (list_any is_step before) line step)

  pub through_other : IsThrough all left header number → left ≡ line ∷ rest → is_step line ≡ false
      → (header < number + 1 → (settings : Settings) → is_faulty settings true line ≡ false) → IsThrough all rest header (number + 1)
  through_other (before, are) cut other fine = through_more before are cut (λ low. by_place (nat_le number header) refl low)
    where
      by_place : (b : Bool) → nat_le number header ≡ b → header ≤ number → is_faulty (settings_of before) (list_any is_step before) line ≡ false
      by_place true e low = let step = first_step before are cut (grind (arith, nat_tests, e, low)) in cc
      by_place false e low =
          ap (λ b. is_faulty (settings_of before) b line) (are.begun (grind (arith, nat_tests, e))) ∙ fine (omega arith) (settings_of before)

  -- and else it is the first fault
  pub fault_found : IsThrough all left header number → left ≡ line ∷ rest → is_step line ≡ false → header < number + 1
      → ((settings : Settings) → is_faulty settings true line ≡ true) → fault_behind [] all ≡ Some (number + 1)
  fault_found (before, are) cut other low faulty = by_place (nat_le number header) refl
    where
      by_place : (b : Bool) → nat_le number header ≡ b → fault_behind [] all ≡ Some (number + 1)
      by_place true e = let step = first_step before are cut (grind (arith, nat_tests, e, low)) in cc
      by_place false e =
          let begun = are.begun (grind (arith, nat_tests, e)) in
          let bad : is_faulty (settings_of before) (list_any is_step before) line ≡ true =
          ap (λ b. is_faulty (settings_of before) b line) begun ∙ faulty (settings_of before) in
          are.faultless (omega (arith, low)) ∙ ap (fault_behind before) cut
          ∙ ap (λ b. if b then Some (length before + 1) else fault_behind (before ++ line ∷ []) rest) bad ∙ ap (λ n. Some (n + 1)) (sym are.count)

-- at the end there is none
pub all_through : (all left : List (List ℕ)) (header number : ℕ) → IsHeader all header → IsThrough all left header number → left ≡ []
    → fault_behind [] all ≡ None
all_through all left header number is (before, are) cut = by_place (nat_le header number) refl
  where
    by_place : (b : Bool) → nat_le header number ≡ b → fault_behind [] all ≡ None
    by_place true e = are.faultless (grind (arith, nat_tests, e)) ∙ ap (fault_behind before) cut
    by_place false e =
        let long : length all ≡ length before + length left = ap length are.cut ∙ length-append before left in
        let none : length left ≡ 0 = ap length cut in
        let count = are.count in
        let past : length all ≤ header = grind (arith, nat_tests, e, long, none, count) in
        is.faultless ∙ ap (fault_behind (take header all)) (drop_all header all past)

pub few_through : (all left : List (List ℕ)) (header number : ℕ) → IsThrough all left header number → length all ≡ number + length left
few_through all left header number (before, are) = ap length are.cut ∙ length-append before left ∙ ap (λ n. n + length left) (sym are.count)
