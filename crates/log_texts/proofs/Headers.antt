-- A script's lines are taken in one by one.
use Rattle.std.proofs.Common.{◌≡◌, ℕ, ◌+◌, Bool, true, false, ◌||◌, List, [], ◌∷◌, ◌++◌, length, take, drop}
use Rattle.std.proofs.Common.{filter_map, Option, Some, None, if◌then◌else◌, refl, sym, ap, ◌∙◌, append_assoc, append-nil, length-append, drop_at, arith}
use Rattle.std.proofs.lemmas.List.{take_at}
use Rattle.std.proofs.Math.Bool.{or-false, or_comm}
use Rattle.std.specs.List.{cons_option, last_or, list_any}
use Rattle.std.specs.Option.{option_map_or, option_or}
use Rattle.std.proofs.lemmas.List.Elements.{filter_map-append}
use Rattle.std.proofs.lemmas.List.Folds.{list_any-append}
use Rattle.base_lists.proofs.Found.{last_or-append}
use Rattle.log_texts.specs.declared.setting.Setting.{Setting}
use Rattle.log_texts.specs.Headers.{Settings, all_of, settings_of, setting_of, name_in, server_in, places_in, log_in, retries_in, is_redispatch, timeout_in}
use Rattle.log_texts.specs.Faults.{is_step, is_faulty, fault_behind}
use Rattle.log_texts.specs.Reading.{IsHeader, with_last, with_setting, with_line}

append-option : {X : Type 0} (xs : List X) (x : Option X) → xs ++ cons_option x [] ≡ with_last xs x
append-option xs None = append-nil xs
append-option xs (Some x) = refl

last_or-with_last : {X : Type 0} (xs : List X) (x : Option X) → last_or None (with_last xs x) ≡ option_or x (last_or None xs)
last_or-with_last xs None = refl
last_or-with_last xs (Some x) = last_or-append None xs (x ∷ [])

-- what is found in settings and in one more
found-more : {X : Type 0} (found : Setting → Option X) (settings : List Setting) (setting : Setting)
    → filter_map found (settings ++ setting ∷ []) ≡ with_last (filter_map found settings) (found setting)
found-more found settings setting = filter_map-append found settings (setting ∷ []) ∙ append-option (filter_map found settings) (found setting)

last-more : {X : Type 0} (found : Setting → Option X) (settings : List Setting) (setting : Setting)
    → last_or None (filter_map found (settings ++ setting ∷ [])) ≡ option_or (found setting) (last_or None (filter_map found settings))
last-more found settings setting = ap (last_or None) (found-more found settings setting) ∙ last_or-with_last (filter_map found settings) (found setting)

any-more : (test : Setting → Bool) (settings : List Setting) (setting : Setting)
    → list_any test (settings ++ setting ∷ []) ≡ (test setting || list_any test settings)
any-more test settings setting =
    list_any-append test settings (setting ∷ []) ∙ ap (λ b. list_any test settings || b) (or-false (test setting))
    ∙ or_comm (list_any test settings) (test setting)

-- what one setting more comes to
all_of-more : (settings : List Setting) (setting : Setting) → all_of (settings ++ setting ∷ []) ≡ with_setting (all_of settings) setting
all_of-more settings setting =
    let names = found-more name_in settings setting in
    let servers = found-more server_in settings setting in
    let places = last-more places_in settings setting in
    let log = last-more log_in settings setting in
    let retries = last-more retries_in settings setting in
    let redispatch = any-more is_redispatch settings setting in
    let timeout = last-more timeout_in settings setting in
    cc

all_of-option : (settings : List Setting) (setting : Option Setting)
    → all_of (settings ++ cons_option setting []) ≡ option_map_or (with_setting (all_of settings)) setting (all_of settings)
all_of-option settings None = ap all_of (append-nil settings)
all_of-option settings (Some setting) = all_of-more settings setting

settings_more : (before : List (List ℕ)) (line : List ℕ) → settings_of (before ++ line ∷ []) ≡ with_line (settings_of before) line
settings_more before line = ap all_of (filter_map-append setting_of before (line ∷ [])) ∙ all_of-option (filter_map setting_of before) (setting_of line)

-- some of the lines are read, and none of them is a step or faulty
pub record AreRead (all before left : List (List ℕ)) (header : Settings) (number : ℕ) : Type 0 where
  pub cut : all ≡ before ++ left
  pub settings : header ≡ settings_of before
  pub stepless : list_any is_step before ≡ false
  pub count : number ≡ length before
  pub faultless : fault_behind [] all ≡ fault_behind before left

abbrev pub IsReadTo : List (List ℕ) → List (List ℕ) → Settings → ℕ → Type 0
IsReadTo all left header number = (before : List (List ℕ)) × AreRead all before left header number

pub none_read : (all : List (List ℕ)) (header : Settings) → header ≡ all_of [] → IsReadTo all all header 0
none_read all header is = ([], record { cut = refl; settings = is; stepless = refl; count = refl; faultless = refl })

test_of : (all before left : List (List ℕ)) (line : List ℕ) (header : Settings) (number : ℕ) → AreRead all before left header number
    → is_faulty header false line ≡ is_faulty (settings_of before) (list_any is_step before) line
test_of all before left line header number are =
    ap (λ h. is_faulty h false line) are.settings ∙ ap (λ b. is_faulty (settings_of before) b line) (sym are.stepless)

pub one_more : (all left rest : List (List ℕ)) (line : List ℕ) (header next : Settings) (number : ℕ) → IsReadTo all left header number → left ≡ line ∷ rest
    → is_step line ≡ false → is_faulty header false line ≡ false → next ≡ with_line header line → IsReadTo all rest next (number + 1)
one_more all left rest line header next number (before, are) cut other good taken = (
  before ++ line ∷ [],
  record {
    cut = are.cut ∙ ap (λ l. before ++ l) cut ∙ sym (append_assoc before (line ∷ []) rest);
    settings = taken ∙ ap (λ h. with_line h line) are.settings ∙ sym (settings_more before line);
    stepless = list_any-append is_step before (line ∷ []) ∙ ap (λ b. list_any is_step before || (b || false)) other ∙ ap (λ b. b || false) are.stepless;
    count = ap (λ n. n + 1) are.count ∙ sym (length-append before (line ∷ []));
    faultless = are.faultless ∙ ap (fault_behind before) cut
        ∙ ap (λ b. if b then Some (length before + 1) else fault_behind (before ++ line ∷ []) rest) (sym (test_of all before left line header number are)
        ∙ good);
  },
)

pub faulty_next : (all left rest : List (List ℕ)) (line : List ℕ) (header : Settings) (number : ℕ) → IsReadTo all left header number → left ≡ line ∷ rest
    → is_faulty header false line ≡ true → fault_behind [] all ≡ Some (number + 1)
faulty_next all left rest line header number (before, are) cut bad =
    are.faultless ∙ ap (fault_behind before) cut
    ∙ ap (λ b. if b then Some (length before + 1) else fault_behind (before ++ line ∷ []) rest) (sym (test_of all before left line header number are) ∙ bad)
    ∙ ap (λ n. Some (n + 1)) (sym are.count)

-- what is read, and what is left
pub parted : (all before left : List (List ℕ)) (number : ℕ) → all ≡ before ++ left → number ≡ length before
    → (take number all ≡ before) × (drop number all ≡ left)
parted all before left number cut count = (
  ap (take number) cut ∙ take_at before left number (sym count),
  ap (drop number) cut ∙ drop_at before left number (sym count),
)

pub few_read : (all left : List (List ℕ)) (header : Settings) (number : ℕ) → IsReadTo all left header number → length all ≡ number + length left
few_read all left header number (before, are) = ap length are.cut ∙ length-append before left ∙ ap (λ n. n + length left) (sym are.count)

-- where a step is left next, or nothing, the header ends
pub header_read : (all left : List (List ℕ)) (header : Settings) (number : ℕ) → IsReadTo all left header number
    → ((line : List ℕ) (rest : List (List ℕ)) → left ≡ line ∷ rest → is_step line ≡ true) → IsHeader all number × (header ≡ settings_of (take number all))
header_read all left header number (before, are) begins =
    let parts = parted all before left number are.cut are.count in (
      record {
        within = omega (arith, few_read all left header number (before, are));
        stepless = ap (list_any is_step) parts.0 ∙ are.stepless;
        begins = λ line rest next. begins line rest (sym parts.1 ∙ next);
        faultless = are.faultless ∙ ap (λ l. fault_behind l left) (sym parts.0) ∙ ap (fault_behind (take number all)) (sym parts.1);
      },
      are.settings ∙ ap settings_of (sym parts.0),
    )
