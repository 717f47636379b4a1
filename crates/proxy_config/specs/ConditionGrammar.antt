-- The grammar of conditions over words: by concatenation alone, without an order of reading.
use Rattle.std.specs.Prelude.{◌≡◌, ◌⊎◌, ◌<◌, ℕ, Bool, true, false, List, [], ◌∷◌, ◌++◌, length, Some, codes, IsTrue}
use Rattle.std.specs.List.{list_any}
use Rattle.proxy_config.specs.declared.parts.Acl.{Acl}
use Rattle.proxy_config.specs.declared.parts.Condition.{Condition}
use Rattle.proxy_config.specs.declared.parts.Operand.{Operand}
use Rattle.proxy_config.specs.declared.parts.Operand.TheVariants as operands
use Rattle.proxy_config.specs.declared.parts.Term.{Term}
use Rattle.proxy_config.specs.declared.parts.Test.{Test}
use Rattle.proxy_config.specs.Names.{is_acl_name}
use Rattle.proxy_config.specs.Samples.{subject_of, is_dashed, is_brace}
use Rattle.proxy_config.specs.Conditions.{acl_index, is_or}

-- `-i`, or nothing
abbrev pub flag : Bool → List (List ℕ)
flag true = codes "-i" ∷ []
flag false = []

-- a test: its subject, `-i` or not, and one or more values, none of which begins with `-`
pub record IsTest (words : List (List ℕ)) (test : Test) : Type 0 where
  pub subject : List ℕ
  pub known : subject_of subject ≡ Some test.subject
  pub is : words ≡ (subject ∷ flag test.ignore_case) ++ test.values
  pub some : 0 < length test.values
  pub plain : list_any is_dashed test.values ≡ false

-- the name of an ACL, or a test in braces without a closing brace among its values
abbrev pub IsOperand : List Acl → List (List ℕ) → Operand → Type 0
IsOperand acls words (operands.Acl index) = (name : List ℕ) × (words ≡ name ∷ []) × IsTrue (is_acl_name name) × (acl_index name acls ≡ Some index)
IsOperand acls words (operands.Test test) = (inside : List (List ℕ)) × (words ≡ (codes "{" ∷ inside) ++ codes "}" ∷ [])
    × IsTest inside test × (list_any is_brace test.values ≡ false)

-- a `!` joined to the first of the words
abbrev pub with_sign : List (List ℕ) → List (List ℕ)
with_sign [] = codes "!" ∷ []
with_sign (word ∷ words) = (33 ∷ word) ∷ words

-- an operand, where it is negated with one `!` before it, joined to it or as a word of its own
abbrev pub IsSigned : Bool → List Acl → List (List ℕ) → Operand → Type 0
IsSigned false acls words operand = IsOperand acls words operand
IsSigned true acls words operand = (unsigned : List (List ℕ)) × IsOperand acls unsigned operand
    × ((words ≡ codes "!" ∷ unsigned) ⊎ (words ≡ with_sign unsigned))

abbrev pub IsTerm : List Acl → List (List ℕ) → Term → Type 0
IsTerm acls words term = IsSigned term.negated acls words term.operand

-- a row of terms
abbrev pub AreTerms : List Acl → List (List ℕ) → List Term → Type 0
AreTerms acls words [] = words ≡ []
AreTerms acls words (term ∷ terms) = (front : List (List ℕ)) × (rest : List (List ℕ)) × (words ≡ front ++ rest) × IsTerm acls front term
    × AreTerms acls rest terms

-- rows of terms, with an `or` or `||` between each two
abbrev pub AreSeparated : List Acl → List (List ℕ) → List (List Term) → Type 0
AreSeparated acls words [] = ⊥
AreSeparated acls words (terms ∷ []) = AreTerms acls words terms
AreSeparated acls words (terms ∷ next ∷ more) = (front : List (List ℕ)) × (separator : List ℕ) × (rest : List (List ℕ)) × (words ≡ front ++ separator ∷ rest)
    × AreTerms acls front terms × IsTrue (is_or separator) × AreSeparated acls rest (next ∷ more)

-- no row is empty
abbrev pub NoneEmpty : List (List Term) → Type 0
NoneEmpty [] = Unit {0}
NoneEmpty (terms ∷ more) = (0 < length terms) × NoneEmpty more

-- The words are a condition: rows of terms with separators between them, none of them empty.
abbrev pub IsCondition : List Acl → List (List ℕ) → Condition → Type 0
IsCondition acls words condition = AreSeparated acls words condition.alternatives × NoneEmpty condition.alternatives
