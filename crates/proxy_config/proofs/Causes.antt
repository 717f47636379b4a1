-- Which causes the readers of words can give.
use Rattle.std.proofs.Common.{◌≡◌, ℕ, zero, suc, Bool, true, false, cond, not, List, [], ◌∷◌, length, Option, Some, None, Result, Ok, Err, refl, subst, codes}
use Rattle.std.specs.Option.{ok_or}
use Rattle.std.specs.Str.{bytes_eq}
use Rattle.proxy_config.specs.declared.faults.FaultCause.{FaultCause}
use Rattle.proxy_config.specs.declared.faults.FaultCause.TheVariants as causes
use Rattle.proxy_config.specs.declared.parts.Acl.{Acl}
use Rattle.proxy_config.specs.declared.parts.Server.{Server}
use Rattle.proxy_config.specs.declared.settings.Settings.{Settings}
use Rattle.proxy_config.specs.declared.settings.Setting.{Setting}
use Rattle.proxy_config.specs.declared.settings.Setting.TheVariants.{Weight, Maxconn, Maxqueue, Inter, Rise, Fall}
use Rattle.proxy_config.specs.declared.values.Values.{Values}
use Rattle.proxy_config.specs.declared.values.Shared.{Shared}
use Rattle.proxy_config.specs.declared.values.Shared.TheVariants as shared
use Rattle.proxy_config.specs.Outcomes.{◌>>=◌, unless}
use Rattle.proxy_config.specs.Pieces.{word_at, end_at}
use Rattle.proxy_words.specs.Names.{is_name}
use Rattle.proxy_config.specs.Names.{is_acl_name}
use Rattle.proxy_config.specs.Samples as tests
use Rattle.proxy_config.specs.Conditions as conditions
use Rattle.proxy_config.specs.Rules as rules
use Rattle.proxy_config.proofs.Resolving.{pin_line}
use Rattle.proxy_config.specs.Settings as settings
use Rattle.proxy_config.specs.Values as values

-- a cause that the words of a line can have, whatever the lines before it say
abbrev pub is_of_words : FaultCause → Bool
is_of_words causes.Keyword = true
is_of_words causes.Words = true
is_of_words causes.Number = true
is_of_words causes.Address = true
is_of_words causes.Name = true
is_of_words causes.Unknown = true
is_of_words causes.Condition = true
is_of_words other = false

-- a fault is one of the causes that pass
pub record Within {A : Type 0} (may : FaultCause → Bool) (r : Result A FaultCause) : Type 0 where
  pub fault : (cause : FaultCause) → r ≡ Err cause → may cause ≡ true

pub within_ok : {A : Type 0} {may : FaultCause → Bool} (x : A) → Within may (Ok x)
within_ok x = record { fault = λ cause is. absurd (let none = is in cc) }

pub within_err : {A : Type 0} {may : FaultCause → Bool} (cause : FaultCause) → may cause ≡ true → Within {A = A} may (Err cause)
within_err {A} {may} cause holds = record {
  fault = λ other is. let same : cause ≡ other = same_cause is in
      subst (λ (c : FaultCause). may c ≡ true) same holds;
}
  where
    same_cause : {a b : FaultCause} → (let one : Result A FaultCause = Err a in one ≡ Err b) → a ≡ b
    same_cause is = cc

pub within_bind : {A B : Type 0} {may : FaultCause → Bool} (r : Result A FaultCause) (f : A → Result B FaultCause) → Within may r → ((x : A) → Within may (f x))
    → Within may (r >>= f)
within_bind (Ok x) f first next = next x
within_bind (Err cause) f first next = within_err cause (first.fault cause refl)

pub within_or : {A : Type 0} {may : FaultCause → Bool} (o : Option A) (cause : FaultCause) → may cause ≡ true → Within may (ok_or o cause)
within_or (Some x) cause holds = within_ok x
within_or None cause holds = within_err cause holds

pub within_unless : {may : FaultCause → Bool} (fault : Bool) (cause : FaultCause) → may cause ≡ true → Within may (unless fault cause)
within_unless true cause holds = within_err cause holds
within_unless false cause holds = within_ok tt

pub within_if : {A : Type 0} {may : FaultCause → Bool} (b : Bool) (r s : Result A FaultCause) → Within may r → Within may s → Within may (cond b r s)
within_if true r s one other = one
within_if false r s one other = other

pub within_word : (words : List (List ℕ)) → Within is_of_words (word_at words)
within_word [] = within_err causes.Words refl
within_word (word ∷ words) = within_ok _

pub within_end : (words : List (List ℕ)) → Within is_of_words (end_at words)
within_end [] = within_ok tt
within_end (word ∷ words) = within_err causes.Words refl

fixed_line : (only : List ℕ) (v : Values) (words : List (List ℕ)) → Within is_of_words (values.fixed_line only v words)
unfolding values.fixed_line
fixed_line only v words = within_bind _ _ (within_word words)
    (λ w. within_bind _ _ (within_unless _ causes.Keyword refl) (λ u. within_bind _ _ (within_end w.1) (λ e. within_ok _)))

retries_line : (v : Values) (words : List (List ℕ)) → Within is_of_words (values.retries_line v words)
unfolding values.retries_line
retries_line v words = within_bind _ _ (within_word words)
    (λ w. within_bind _ _ (within_or _ causes.Number refl) (λ n. within_bind _ _ (within_end w.1) (λ e. within_ok _)))

option_line : (v : Values) (words : List (List ℕ)) → Within is_of_words (values.option_line v words)
unfolding values.option_line
option_line v words = within_bind _ _ (within_word words)
    (λ w. within_bind _ _ (within_or _ causes.Keyword refl) (λ s. within_bind _ _ (within_end w.1) (λ e. within_ok _)))

timeout_line : (v : Values) (words : List (List ℕ)) → Within is_of_words (values.timeout_line v words)
unfolding values.timeout_line
timeout_line v words = within_bind _ _ (within_word words) (λ w. within_bind _ _ (within_or _ causes.Keyword refl) (λ kind.
    within_bind _ _ (within_word w.1) (λ second.
    within_bind _ _ (within_or _ causes.Number refl) (λ t. within_bind _ _ (within_end second.1) (λ e. within_ok _)))))

pub within_shared : (kind : Shared) (v : Values) (words : List (List ℕ)) → Within is_of_words (values.shared_line kind v words)
within_shared shared.Mode v words = fixed_line _ v words
within_shared shared.Balance v words = fixed_line _ v words
within_shared shared.Retries v words = retries_line v words
within_shared shared.Option v words = option_line v words
within_shared shared.Timeout v words = timeout_line v words
within_shared shared.Note v words = within_ok v

one_setting : (setting : Setting) (word : List ℕ) (s : Settings) → Within is_of_words (settings.set setting word s)
one_setting Weight word s = within_bind _ _ (within_or _ causes.Number refl) (λ n. within_ok _)
one_setting Maxconn word s = within_bind _ _ (within_or _ causes.Number refl) (λ n. within_ok _)
one_setting Maxqueue word s = within_bind _ _ (within_or _ causes.Number refl) (λ n. within_ok _)
one_setting Inter word s = within_bind _ _ (within_or _ causes.Number refl) (λ n. within_ok _)
one_setting Rise word s = within_bind _ _ (within_or _ causes.Number refl) (λ n. within_ok _)
one_setting Fall word s = within_bind _ _ (within_or _ causes.Number refl) (λ n. within_ok _)

pub within_settings : (s : Settings) (words : List (List ℕ)) → Within is_of_words (settings.settings s words)
within_settings s [] = within_ok s
within_settings s (word ∷ []) = within_if _ _ _ (within_ok _)
    (within_bind _ _ (within_or (settings.setting_of word) causes.Keyword refl) (λ setting. within_err causes.Words refl))
within_settings s (word ∷ value ∷ words) = within_if _ _ _ (within_settings (record s { check = true }) (value ∷ words))
    (within_bind _ _ (within_or (settings.setting_of word) causes.Keyword refl)
    (λ setting. within_bind _ _ (one_setting setting value s) (λ next. within_settings next words)))

head_at : (words : List (List ℕ)) → Within is_of_words (tests.head_at words)
unfolding tests.head_at
head_at words = within_bind _ _ (within_word words) (λ first. within_bind _ _ (within_or _ causes.Condition refl) (λ subject.
    within_bind _ _ (within_word first.1) (λ second. within_if _ _ _ (within_bind _ _ (within_word second.1) (λ third. within_ok _)) (within_ok _))))

value_of : (word : List ℕ) → Within is_of_words (tests.value_of word)
value_of word = within_if _ _ _ (within_err causes.Condition refl) (within_ok word)

values_to_end : (words : List (List ℕ)) → Within is_of_words (tests.values_to_end words)
values_to_end [] = within_ok _
values_to_end (word ∷ words) = within_bind _ _ (value_of word) (λ v. within_bind _ _ (values_to_end words) (λ more. within_ok _))

values_to_brace : (words : List (List ℕ)) → Within is_of_words (tests.values_to_brace words)
values_to_brace [] = within_err causes.Words refl
values_to_brace (word ∷ words) = within_if _ _ _ (within_ok _)
    (within_bind _ _ (value_of word) (λ v. within_bind _ _ (values_to_brace words) (λ more. within_ok _)))

test_to_end : (words : List (List ℕ)) → Within is_of_words (tests.test_to_end words)
unfolding tests.test_to_end
test_to_end words = within_bind _ _ (head_at words)
    (λ head. within_bind _ _ (value_of head.2) (λ first. within_bind _ _ (values_to_end head.3) (λ more. within_ok _)))

test_in_braces : (words : List (List ℕ)) → Within is_of_words (tests.test_in_braces words)
unfolding tests.test_in_braces
test_in_braces words = within_bind _ _ (head_at words) (λ head. within_bind _ _ (within_unless _ causes.Condition refl) (λ open_.
    within_bind _ _ (value_of head.2) (λ first. within_bind _ _ (values_to_brace head.3) (λ more. within_ok _))))

operand_at : (acls : List Acl) (negated : Bool) (word : List ℕ) (words : List (List ℕ)) → Within is_of_words (conditions.operand_at acls negated word words)
unfolding conditions.operand_at
operand_at acls negated word words = within_if (bytes_eq word (codes "{")) _ _ (within_bind _ _ (test_in_braces words) (λ t. within_ok _))
    (within_bind _ _ (within_unless (not (is_acl_name word)) causes.Condition refl)
    (λ named. within_bind _ _ (within_or (conditions.acl_index word acls) causes.Unknown refl) (λ i. within_ok _)))

term_at : (acls : List Acl) (word : List ℕ) (words : List (List ℕ)) → Within is_of_words (conditions.term_at acls word words)
unfolding conditions.term_at
term_at acls [] words = operand_at acls false [] words
term_at acls (byte ∷ []) words = within_if _ _ _ (within_bind _ _ (within_word words) (λ next. operand_at acls true next.0 next.1))
    (operand_at acls false (byte ∷ []) words)
term_at acls (byte ∷ second ∷ rest) words = within_if _ _ _ (operand_at acls true (second ∷ rest) words) (operand_at acls false (byte ∷ second ∷ rest) words)

alternatives : (n : ℕ) (acls : List Acl) (begins : Bool) (words : List (List ℕ)) → Within is_of_words (conditions.alternatives n acls begins words)
unfolding conditions.alternatives
alternatives zero acls begins [] = within_if _ _ _ (within_err causes.Words refl) (within_ok _)
alternatives (suc n) acls begins [] = within_if _ _ _ (within_err causes.Words refl) (within_ok _)
alternatives zero acls begins (word ∷ words) = within_err causes.Words refl
alternatives (suc n) acls begins (word ∷ words) = within_if _ _ _
    (within_if _ _ _ (within_err causes.Condition refl) (within_bind _ _ (alternatives n acls true words) (λ more. within_ok _)))
    (within_bind _ _ (term_at acls word words) (λ term. within_bind _ _ (alternatives n acls false term.1) (λ more. within_ok _)))

condition : (acls : List Acl) (words : List (List ℕ)) → Within is_of_words (conditions.condition acls words)
condition acls words = within_bind _ _ (alternatives (length words) acls true words) (λ all. within_ok _)

guard_at : (acls : List Acl) (word : List ℕ) (words : List (List ℕ)) → Within is_of_words (conditions.guard_at acls word words)
unfolding conditions.guard_at
guard_at acls word words = within_if (bytes_eq word (codes "if")) _ _ (within_bind _ _ (condition acls words) (λ c. within_ok _))
    (within_if (bytes_eq word (codes "unless")) _ _ (within_bind _ _ (condition acls words) (λ c. within_ok _)) (within_err causes.Condition refl))

optional_guard : (acls : List Acl) (words : List (List ℕ)) → Within is_of_words (conditions.optional_guard acls words)
unfolding conditions.optional_guard
optional_guard acls [] = within_ok None
optional_guard acls (word ∷ words) = within_bind _ _ (guard_at acls word words) (λ guard. within_ok _)

pub within_acl : (acls : List Acl) (words : List (List ℕ)) → Within is_of_words (rules.acl_line acls words)
unfolding rules.acl_line
within_acl acls words = within_bind _ _ (within_word words)
    (λ name. within_bind _ _ (within_unless _ causes.Name refl) (λ named. within_bind _ _ (test_to_end name.1) (λ test. within_ok _)))

pub within_rule : (acls : List Acl) (words : List (List ℕ)) → Within is_of_words (rules.rule_line acls words)
unfolding rules.rule_line
within_rule acls words = within_bind _ _ (within_word words) (λ first. within_bind _ _ (within_or _ causes.Keyword refl) (λ action.
    within_bind _ _ (within_word first.1) (λ second.
    within_bind _ _ (within_or _ causes.Condition refl) (λ value. within_bind _ _ (optional_guard acls second.1) (λ guard. within_ok _)))))

pub within_pin : (servers : List Server) (acls : List Acl) (words : List (List ℕ)) → Within is_of_words (pin_line servers acls words)
unfolding pin_line
within_pin servers acls words = within_bind _ _ (within_word words) (λ name. within_bind _ _ (within_unless (not (is_name name.0)) causes.Name refl) (λ named.
    within_bind _ _ (within_or (rules.server_index name.0 servers) causes.Unknown refl)
    (λ server. within_bind _ _ (within_word name.1) (λ first. within_bind _ _ (guard_at acls first.0 first.1) (λ guard. within_ok _)))))
