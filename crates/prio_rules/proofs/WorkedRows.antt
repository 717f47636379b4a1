-- The definitions at worked examples: what must hold, and what must not.
use Rattle.std.proofs.Common.{◌≡◌, ℕ, pos, negsuc, true, false, Some, None, Ok, List, [], ◌∷◌, codes, refl}
use Rattle.proxy_words.specs.Text.{words}
use Rattle.proxy_config.specs.declared.parts.Acl.{Acl}
use Rattle.proxy_config.specs.declared.parts.Action.TheVariants.{SetPriorityClass, SetPriorityOffset}
use Rattle.proxy_config.specs.declared.parts.Condition.{Condition}
use Rattle.proxy_config.specs.declared.parts.Config.{Config}
use Rattle.proxy_config.specs.declared.parts.Expression.TheVariants.{Int, HeaderValue}
use Rattle.proxy_config.specs.declared.parts.Guard.TheVariants.{If, Unless}
use Rattle.proxy_config.specs.declared.parts.Host.TheVariants.{Ip}
use Rattle.proxy_config.specs.declared.parts.Operand.TheVariants as operands
use Rattle.proxy_config.specs.declared.parts.Pin.{Pin}
use Rattle.proxy_config.specs.declared.parts.Rule.{Rule}
use Rattle.proxy_config.specs.declared.parts.Server.{Server}
use Rattle.proxy_config.specs.declared.parts.Subject.{Subject}
use Rattle.proxy_config.specs.declared.parts.Subject.TheVariants.{Path, PathBegin, PathEnd, Method, Header}
use Rattle.proxy_config.specs.declared.parts.Term.{Term}
use Rattle.proxy_config.specs.declared.parts.Test.{Test}
use Rattle.proxy_config.specs.Conditions.{alternatives, condition, operand_at, term_at}
use Rattle.proxy_config.specs.Samples.{head_at, test_in_braces}
use Rattle.req_view.specs.Request.{Request}
use Rattle.req_view.specs.declared.version.Version.TheVariants.{Http11}
use Rattle.prio_rules.specs.FieldValues.{field_values}
use Rattle.prio_rules.specs.Truth.{test_holds, operand_holds, condition_holds, guard_holds}
use Rattle.prio_rules.specs.Wishes.{asked_number, standing, pinned, wish}

abbrev looks : Subject → List (List ℕ) → Test
looks subject values = record { subject = subject; ignore_case = false; values = values }

abbrev looks_in_either_case : Subject → List (List ℕ) → Test
looks_in_either_case subject values = record { subject = subject; ignore_case = true; values = values }

abbrev holds : Test → Term
holds test = record { negated = false; operand = operands.Test test }

abbrev fails : Test → Term
fails test = record { negated = true; operand = operands.Test test }

abbrev named : ℕ → Term
named index = record { negated = false; operand = operands.Acl index }

abbrev all_of : List Term → Condition
all_of terms = record { alternatives = terms ∷ [] }

abbrev server : List ℕ → Server
server name = record { name = name; address = record { host = Ip (127 ∷ 0 ∷ 0 ∷ 1 ∷ []); port = 80 }; maxconn = 0; maxqueue = 0; weight = 1; check = None }

-- servers a and b
abbrev rules_are : List Acl → List Rule → List Pin → Config
rules_are acls rules pins = record {
  bind = record { ip = None; port = 80 };
  servers = server (codes "a") ∷ server (codes "b") ∷ [];
  retries = 3;
  redispatch = false;
  abortonclose = false;
  queue_timeout = None;
  connect_timeout = None;
  client_timeout = None;
  server_timeout = None;
  acls = acls;
  rules = rules;
  pins = pins;
}

abbrev asks : List ℕ → List ℕ → List (List ℕ × List ℕ) → Request
asks method target fields = record { method = method; target = target; version = Http11; fields = fields }

-- acl slow hdr(x-t) slow
abbrev slow : List Acl
slow = record { name = codes "slow"; tests = looks (Header (codes "x-t")) (codes "slow" ∷ []) ∷ [] } ∷ []

abbrev below_a : Condition
below_a = all_of (holds (looks PathBegin (codes "/a" ∷ [])) ∷ [])

abbrev slow_or_post : Condition
slow_or_post = record { alternatives = (named 0 ∷ []) ∷ (holds (looks Method (codes "POST" ∷ [])) ∷ []) ∷ [] }

-- http-request set-priority-class int(-9999)
-- http-request set-priority-offset req.hdr_val(x-due) if { path_beg /a }
-- use-server b if slow or { method POST }
abbrev sample : Config
sample = rules_are slow
    (record { action = SetPriorityClass; value = Int (negsuc 9998); guard = None }
    ∷ record { action = SetPriorityOffset; value = HeaderValue (codes "x-due"); guard = Some (If below_a) } ∷ [])
    (record { server = 1; guard = If slow_or_post } ∷ [])

-- the conditions are those of the lines
below_a_is_read : condition slow (words (codes "{ path_beg /a }")) ≡ Ok below_a
unfolding alternatives term_at operand_at test_in_braces head_at
below_a_is_read = refl

slow_or_post_is_read : condition slow (words (codes "slow or { method POST }")) ≡ Ok slow_or_post
unfolding alternatives term_at operand_at test_in_braces head_at
slow_or_post_is_read = refl

abbrev due : List ℕ → Request
due value = asks (codes "GET") (codes "/a?b") ((codes "Host", codes "h") ∷ (codes "X-Due", value) ∷ (codes "X-T", codes "fast , slow") ∷ [])

sample_row : wish sample (due (codes "5, 70")) ≡ record { class = negsuc 2046; offset = pos 70; pin = Some 1 }
sample_row = refl

-- without a number the action isn't done
no_number : wish sample (due (codes "5, abc")) ≡ record { class = negsuc 2046; offset = pos 0; pin = Some 1 }
no_number = refl

not_the_first_value : standing SetPriorityOffset sample (due (codes "5, 70")) ≡ pos 5 → ⊥
not_the_first_value same = cc

no_rules : wish (rules_are [] [] []) (due (codes "5")) ≡ record { class = pos 0; offset = pos 0; pin = None }
no_rules = refl

abbrev gets : List ℕ → Request
gets target = asks (codes "GET") target []

path_without_query : test_holds (gets (codes "/a?b")) (looks Path (codes "/a" ∷ [])) ≡ true
path_without_query = refl

query_is_no_end : test_holds (gets (codes "/a?b")) (looks PathEnd (codes "b" ∷ [])) ≡ true → ⊥
query_is_no_end same = cc

path_after_host : test_holds (gets (codes "http://h/a?b")) (looks Path (codes "/a" ∷ [])) ≡ true
path_after_host = refl

empty_path : test_holds (gets (codes "http://h?b")) (looks PathBegin (codes "/" ∷ [])) ≡ false
empty_path = refl

longer_than_the_path : test_holds (gets (codes "/a")) (looks PathBegin (codes "/ab" ∷ [])) ≡ false
longer_than_the_path = refl

longer_end : test_holds (gets (codes "/a")) (looks PathEnd (codes "b/a" ∷ [])) ≡ false
longer_end = refl

-- `*` has no path, and no test of a path holds
no_path : test_holds (gets (codes "*")) (looks Path (codes "*" ∷ [])) ≡ false
no_path = refl

no_path_begins : test_holds (gets (codes "*")) (looks PathBegin (codes "*" ∷ [])) ≡ true → ⊥
no_path_begins same = cc

no_path_ends : test_holds (gets (codes "*")) (looks PathEnd (codes "*" ∷ [])) ≡ false
no_path_ends = refl

no_path_reversed : condition_holds [] (gets (codes "*")) (all_of (fails (looks PathBegin (codes "/" ∷ [])) ∷ [])) ≡ true
no_path_reversed = refl

-- each field of the name counts, whatever the case of its letters
abbrev two_fields : Request
two_fields = asks (codes "GET") (codes "/") ((codes "x-due", codes "5, 6") ∷ (codes "Host", codes "h") ∷ (codes "X-DUE", codes "7,-8 b, 9") ∷ [])

values_of_two_fields : field_values (codes "X-Due") two_fields ≡ codes "5" ∷ codes "6" ∷ codes "7" ∷ codes "-8 b" ∷ codes "9" ∷ []
values_of_two_fields = refl

second_field : test_holds two_fields (looks (Header (codes "x-due")) (codes "1" ∷ codes "7" ∷ [])) ≡ true
second_field = refl

part_of_a_value : test_holds two_fields (looks (Header (codes "x-due")) (codes "-8" ∷ [])) ≡ true → ⊥
part_of_a_value same = cc

last_of_two_fields : asked_number two_fields (HeaderValue (codes "x-due")) ≡ Some (pos 9)
last_of_two_fields = refl

-- an empty last value is no number
empty_last_value : asked_number (due (codes "5,")) (HeaderValue (codes "x-due")) ≡ None
empty_last_value = refl

no_field : asked_number two_fields (HeaderValue (codes "x-du")) ≡ None
no_field = refl

-- case
method_in_its_case : test_holds (gets (codes "/")) (looks Method (codes "get" ∷ [])) ≡ false
method_in_its_case = refl

method_in_either_case : test_holds (gets (codes "/")) (looks_in_either_case Method (codes "get" ∷ [])) ≡ true
method_in_either_case = refl

path_in_either_case : test_holds (gets (codes "/Shop/x")) (looks_in_either_case PathBegin (codes "/sHOP/" ∷ [])) ≡ true
path_in_either_case = refl

-- `unless` reverses the whole: one of two terms in a row fails, so they don't both hold
abbrev both : Condition
both = all_of (holds (looks PathBegin (codes "/a" ∷ [])) ∷ holds (looks PathEnd (codes "b" ∷ [])) ∷ [])

unless_both : guard_holds [] (gets (codes "/a/c")) (Unless both) ≡ true
unless_both = refl

not_unless_each : guard_holds [] (gets (codes "/a/c")) (Unless both) ≡ false → ⊥
not_unless_each same = cc

if_both : guard_holds [] (gets (codes "/a/b")) (If both) ≡ true
if_both = refl

unknown_acl : operand_holds [] (gets (codes "/")) (operands.Acl 0) ≡ false
unknown_acl = refl

-- of three classes the second is the last that is done: the third is no number
abbrev three_classes : Config
three_classes = rules_are [] (record { action = SetPriorityClass; value = Int (pos 3); guard = None }
    ∷ record { action = SetPriorityClass; value = Int (pos 4); guard = Some (If (all_of (holds (looks Method (codes "GET" ∷ [])) ∷ []))) }
    ∷ record { action = SetPriorityClass; value = HeaderValue (codes "x-t"); guard = None } ∷ []) []

last_class_stands : standing SetPriorityClass three_classes (due (codes "5")) ≡ pos 4
last_class_stands = refl

not_the_first_class : standing SetPriorityClass three_classes (due (codes "5")) ≡ pos 3 → ⊥
not_the_first_class same = cc

-- both apply, and the first gives the pin
abbrev two_pins : Config
two_pins = rules_are [] [] (record { server = 1; guard = If below_a } ∷ record { server = 0; guard = If below_a } ∷ [])

first_pin : pinned two_pins (gets (codes "/a")) ≡ Some 1
first_pin = refl

not_the_second_pin : pinned two_pins (gets (codes "/a")) ≡ Some 0 → ⊥
not_the_second_pin same = cc

pin_of_none : pinned two_pins (gets (codes "/b")) ≡ None
pin_of_none = refl
