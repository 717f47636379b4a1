-- The tests of a configuration, applied to a request.
use Rattle.std.specs.Prelude.{ℕ, Bool, true, false, ◌==◌, not, if◌then◌else◌, List, [], ◌∷◌, Option, Some, None}
use Rattle.std.specs.List.{slice_get, list_any, list_all, cons_option, ends_with}
use Rattle.std.specs.Str.{bytes_eq, str_to_ascii_lowercase}
use Rattle.proxy_config.specs.declared.parts.Acl.{Acl}
use Rattle.proxy_config.specs.declared.parts.Condition.{Condition}
use Rattle.proxy_config.specs.declared.parts.Guard.{Guard}
use Rattle.proxy_config.specs.declared.parts.Guard.TheVariants.{If, Unless}
use Rattle.proxy_config.specs.declared.parts.Operand.{Operand}
use Rattle.proxy_config.specs.declared.parts.Operand.TheVariants as operands
use Rattle.proxy_config.specs.declared.parts.Subject.{Subject}
use Rattle.proxy_config.specs.declared.parts.Subject.TheVariants.{Path, PathBegin, PathEnd, Method, Header}
use Rattle.proxy_config.specs.declared.parts.Term.{Term}
use Rattle.proxy_config.specs.declared.parts.Test.{Test}
use Rattle.req_view.specs.Request.{Request}
use Rattle.req_view.specs.Target.{begins, path_of}
use Rattle.prio_rules.specs.FieldValues.{field_values}

-- the texts that a test looks at: the path, where there is one; the method; or the values of a field
abbrev pub texts : Subject → Request → List (List ℕ)
texts Path request = cons_option (path_of request.target) []
texts PathBegin request = cons_option (path_of request.target) []
texts PathEnd request = cons_option (path_of request.target) []
texts Method request = request.method ∷ []
texts (Header name) request = field_values name request

-- the text begins with the value, ends with it, or equals it
abbrev pub fits : Subject → List ℕ → List ℕ → Bool
fits PathBegin text value = begins value text
fits PathEnd text value = ends_with (λ a b. a == b) text value
fits Path text value = bytes_eq text value
fits Method text value = bytes_eq text value
fits (Header name) text value = bytes_eq text value

-- ASCII letters in lower case, where case is ignored
abbrev pub folded : Bool → List ℕ → List ℕ
folded ignore_case text = if ignore_case then str_to_ascii_lowercase text else text

-- one of a test's values fits the text
abbrev pub one_fits : Test → List ℕ → Bool
one_fits test text = list_any (λ value. fits test.subject (folded test.ignore_case text) (folded test.ignore_case value)) test.values

-- a value fits one of the texts: where there is no text, nothing holds
abbrev pub test_holds : Request → Test → Bool
test_holds request test = list_any (one_fits test) (texts test.subject request)

-- each test is an alternative
abbrev pub acl_holds : Request → Acl → Bool
acl_holds request acl = list_any (test_holds request) acl.tests

-- the ACL at an index holds; one that doesn't exist doesn't
abbrev pub named_holds : Request → Option Acl → Bool
named_holds request None = false
named_holds request (Some acl) = acl_holds request acl

abbrev pub operand_holds : List Acl → Request → Operand → Bool
operand_holds acls request (operands.Acl index) = named_holds request (slice_get acls index)
operand_holds acls request (operands.Test test) = test_holds request test

-- a `!` reverses a term
abbrev pub term_holds : List Acl → Request → Term → Bool
term_holds acls request term = if term.negated then not (operand_holds acls request term.operand) else operand_holds acls request term.operand

-- each term of one of the alternatives holds
abbrev pub condition_holds : List Acl → Request → Condition → Bool
condition_holds acls request condition = list_any (list_all (term_holds acls request)) condition.alternatives

-- `unless` reverses the whole condition
abbrev pub guard_holds : List Acl → Request → Guard → Bool
guard_holds acls request (If condition) = condition_holds acls request condition
guard_holds acls request (Unless condition) = not (condition_holds acls request condition)

-- a rule without a guard always applies
abbrev pub applies : List Acl → Request → Option Guard → Bool
applies acls request None = true
applies acls request (Some guard) = guard_holds acls request guard
