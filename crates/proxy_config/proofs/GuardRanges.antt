-- Each index of an ACL in a guard that was read is one of the ACLs so far, and stays one.
use Rattle.std.proofs.Common.{◌≡◌, inl, inr, ◌<◌, ◌≤◌, ◌++◌, ℕ, suc, Bool, true, false, cond}
use Rattle.std.proofs.Common.{List, [], ◌∷◌, length, Option, Some, None, Ok, subst, arith, codes, not}
use Rattle.std.specs.Option.{IfSome, ok_or}
use Rattle.std.specs.List.{All, AllByRecursion}
use Rattle.std.specs.Str.{bytes_eq}
use Rattle.std.proofs.lemmas.List.Elements.{All-from_recursion, All-weaker}
use Rattle.base_lists.proofs.Found.{position_below}
use Rattle.proxy_config.specs.declared.faults.FaultCause.TheVariants as causes
use Rattle.proxy_config.specs.declared.parts.Acl.{Acl}
use Rattle.proxy_config.specs.declared.parts.Condition.{Condition}
use Rattle.proxy_config.specs.declared.parts.Guard.{Guard}
use Rattle.proxy_config.specs.declared.parts.Guard.TheVariants as guards
use Rattle.proxy_config.specs.declared.parts.Operand.{Operand}
use Rattle.proxy_config.specs.declared.parts.Operand.TheVariants as operands
use Rattle.proxy_config.specs.declared.parts.Pin.{Pin}
use Rattle.proxy_config.specs.declared.parts.Rule.{Rule}
use Rattle.proxy_config.specs.declared.parts.Server.{Server}
use Rattle.proxy_config.specs.declared.parts.Term.{Term}
use Rattle.proxy_config.specs.declared.parts.Test.{Test}
use Rattle.proxy_config.specs.Outcomes.{unless}
use Rattle.proxy_config.specs.Pieces.{word_at}
use Rattle.proxy_words.specs.Names.{is_name}
use Rattle.proxy_config.specs.Names.{is_acl_name}
use Rattle.proxy_config.specs.Samples.{test_to_end, expression_of}
use Rattle.proxy_config.specs.Conditions.{condition, guard_at, optional_guard}
use Rattle.proxy_config.specs.ConditionGrammar.{IsOperand, IsSigned, AreTerms, AreSeparated}
use Rattle.proxy_config.specs.Rules.{acl_line, action_of, rule_line, server_index, with_test}
use Rattle.proxy_config.proofs.Resolving.{pin_line}
use Rattle.proxy_config.specs.Sound.{IsSoundOperand, IsSoundCondition, IsSoundGuard}
use Rattle.proxy_config.proofs.Outcomes.{bind_ok, chosen, from_ok, ok_or_ok}
use Rattle.proxy_config.proofs.ConditionWords.{condition-found}

operand_sound : (acls : List Acl) (words : List (List ℕ)) (operand : Operand) → IsOperand acls words operand → IsSoundOperand (length acls) operand
operand_sound acls words (operands.Acl index) is = position_below (λ acl. bytes_eq acl.name is.0) acls index is.3
operand_sound acls words (operands.Test test) is = tt

signed_sound : (acls : List Acl) (negated : Bool) (words : List (List ℕ)) (operand : Operand) → IsSigned negated acls words operand
    → IsSoundOperand (length acls) operand
signed_sound acls false words operand is = operand_sound acls words operand is
signed_sound acls true words operand is = operand_sound acls is.0 operand is.1

terms_sound : (acls : List Acl) (words : List (List ℕ)) (terms : List Term) → AreTerms acls words terms
    → AllByRecursion (λ term. IsSoundOperand (length acls) term.operand) terms
terms_sound acls words [] are = tt
terms_sound acls words (term ∷ terms) are = (signed_sound acls term.negated are.0 term.operand are.3, terms_sound acls are.1 terms are.4)

row_sound : (acls : List Acl) (words : List (List ℕ)) (terms : List Term) → AreTerms acls words terms
    → All (λ term. IsSoundOperand (length acls) term.operand) terms
row_sound acls words terms are = All-from_recursion (λ term. IsSoundOperand (length acls) term.operand) terms (terms_sound acls words terms are)

rows_sound : (acls : List Acl) (words : List (List ℕ)) (rows : List (List Term)) → AreSeparated acls words rows
    → AllByRecursion (λ terms. All (λ term. IsSoundOperand (length acls) term.operand) terms) rows
rows_sound acls words [] are = tt
rows_sound acls words (terms ∷ []) are = (row_sound acls words terms are, tt)
rows_sound acls words (terms ∷ next ∷ more) are = (row_sound acls are.0 terms are.4, rows_sound acls are.2 (next ∷ more) are.6)

condition_sound : (acls : List Acl) (words : List (List ℕ)) (c : Condition) → condition acls words ≡ Ok c → IsSoundCondition (length acls) c
condition_sound acls words c is =
    All-from_recursion (λ terms. All (λ term. IsSoundOperand (length acls) term.operand) terms) c.alternatives
    (rows_sound acls words c.alternatives (condition-found acls words c is).0)

guard_sound : (acls : List Acl) (word : List ℕ) (words : List (List ℕ)) (guard : Guard) → guard_at acls word words ≡ Ok guard → IsSoundGuard (length acls) guard
unfolding guard_at
guard_sound acls word words guard is = elim (chosen (bytes_eq word (codes "if")) _ _ _ is) [
  | inl plain ↦ let c = bind_ok (condition acls words) _ guard plain.1 in
      subst (IsSoundGuard (length acls)) (from_ok _ guard c.2) (condition_sound acls words c.0 c.1)
  | inr other ↦ elim (chosen (bytes_eq word (codes "unless")) _ _ _ other.1) [
    | inl reversed ↦ let c = bind_ok (condition acls words) _ guard reversed.1 in
        subst (IsSoundGuard (length acls)) (from_ok _ guard c.2) (condition_sound acls words c.0 c.1)
    | inr none ↦ absurd (let fault = none.1 in cc)
  ]
]

optional_sound : (acls : List Acl) (words : List (List ℕ)) (guard : Option Guard) → optional_guard acls words ≡ Ok guard
    → IfSome guard (IsSoundGuard (length acls))
unfolding optional_guard
optional_sound acls [] guard is = subst (λ (o : Option Guard). IfSome o (IsSoundGuard (length acls))) (from_ok None guard is) tt
optional_sound acls (word ∷ words) guard is =
    let one = bind_ok (guard_at acls word words) _ guard is in
    subst (λ (o : Option Guard). IfSome o (IsSoundGuard (length acls))) (from_ok (Some one.0) guard one.2) (guard_sound acls word words one.0 one.1)

pub rule_sound : (acls : List Acl) (words : List (List ℕ)) (rule : Rule) → rule_line acls words ≡ Ok rule → IfSome rule.guard (IsSoundGuard (length acls))
unfolding rule_line
rule_sound acls words rule is =
    let first = bind_ok (word_at words) _ rule is in
    let action = bind_ok (ok_or (action_of first.0.0) causes.Keyword) _ rule first.2 in
    let second = bind_ok (word_at first.0.1) _ rule action.2 in
    let value = bind_ok (ok_or (expression_of second.0.0) causes.Condition) _ rule second.2 in
    let guard = bind_ok (optional_guard acls second.0.1) _ rule value.2 in
    subst (λ (r : Rule). IfSome r.guard (IsSoundGuard (length acls))) (from_ok _ rule guard.2) (optional_sound acls second.0.1 guard.0 guard.1)

-- a pin is of one of the known servers, and its guard of the ACLs
pub pin_sound : (known : List Server) (acls : List Acl) (words : List (List ℕ)) (pin : Pin) → pin_line known acls words ≡ Ok pin
    → (pin.server < length known) × IsSoundGuard (length acls) pin.guard
unfolding pin_line
pin_sound known acls words pin is =
    let name = bind_ok (word_at words) _ pin is in
    let named = bind_ok (unless (not (is_name name.0.0)) causes.Name) _ pin name.2 in
    let index = bind_ok (ok_or (server_index name.0.0 known) causes.Unknown) _ pin named.2 in
    let first = bind_ok (word_at name.0.1) _ pin index.2 in
    let guard = bind_ok (guard_at acls first.0.0 first.0.1) _ pin first.2 in
    let below : index.0 < length known = position_below (λ one. bytes_eq one.name name.0.0) known index.0 (ok_or_ok _ causes.Unknown index.0 index.1) in
    subst (λ (one : Pin). (one.server < length known) × IsSoundGuard (length acls) one.guard) (from_ok _ pin guard.2) (
      below,
      guard_sound acls first.0.0 first.0.1 guard.0 guard.1,
    )

-- more ACLs take nothing away
more_operand : (n m : ℕ) → n ≤ m → (operand : Operand) → IsSoundOperand n operand → IsSoundOperand m operand
more_operand n m more (operands.Acl index) sound = omega (arith, sound)
more_operand n m more (operands.Test test) sound = tt

more_condition : (n m : ℕ) → n ≤ m → (c : Condition) → IsSoundCondition n c → IsSoundCondition m c
more_condition n m more c sound =
    All-weaker (λ terms. All (λ term. IsSoundOperand n term.operand) terms) (λ terms. All (λ term. IsSoundOperand m term.operand) terms)
    (λ terms row. All-weaker (λ term. IsSoundOperand n term.operand) (λ term. IsSoundOperand m term.operand)
    (λ term. more_operand n m more term.operand) terms row) c.alternatives sound

more_guard : (n m : ℕ) → n ≤ m → (guard : Guard) → IsSoundGuard n guard → IsSoundGuard m guard
more_guard n m more (guards.If c) sound = more_condition n m more c sound
more_guard n m more (guards.Unless c) sound = more_condition n m more c sound

pub more_rules : (n m : ℕ) → n ≤ m → (rules : List Rule) → AllByRecursion (λ rule. IfSome rule.guard (IsSoundGuard n)) rules
    → AllByRecursion (λ rule. IfSome rule.guard (IsSoundGuard m)) rules
more_rules n m more [] all = tt
more_rules n m more (rule ∷ rules) all = (by_guard rule.guard all.0, more_rules n m more rules all.1)
  where
    by_guard : (guard : Option Guard) → IfSome guard (IsSoundGuard n) → IfSome guard (IsSoundGuard m)
    by_guard None sound = tt
    by_guard (Some guard) sound = more_guard n m more guard sound

pub more_pins : (n m : ℕ) → n ≤ m → (pins : List Pin) → AllByRecursion (λ pin. IsSoundGuard n pin.guard) pins
    → AllByRecursion (λ pin. IsSoundGuard m pin.guard) pins
more_pins n m more [] all = tt
more_pins n m more (pin ∷ pins) all = (more_guard n m more pin.guard all.0, more_pins n m more pins all.1)

with_test-longer : (name : List ℕ) (test : Test) (acls : List Acl) → length acls ≤ length (with_test name test acls)
with_test-longer name test [] = omega arith
with_test-longer name test (acl ∷ acls) = by_name (bytes_eq acl.name name) (with_test-longer name test acls)
  where
    by_name : (b : Bool) → length acls ≤ length (with_test name test acls)
        → suc (length acls) ≤ length (cond b (record acl { tests = acl.tests ++ test ∷ [] } ∷ acls) (acl ∷ with_test name test acls))
    by_name true longer = omega arith
    by_name false longer = omega arith

pub acls_longer : (acls more : List Acl) (words : List (List ℕ)) → acl_line acls words ≡ Ok more → length acls ≤ length more
unfolding acl_line
acls_longer acls more words is =
    let name = bind_ok (word_at words) _ more is in
    let named = bind_ok (unless (not (is_acl_name name.0.0)) causes.Name) _ more name.2 in
    let test = bind_ok (test_to_end name.0.1) _ more named.2 in
    subst (λ (all : List Acl). length acls ≤ length all) (from_ok _ more test.2) (with_test-longer name.0.0 test.0 acls)
