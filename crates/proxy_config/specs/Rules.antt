-- The lines of ACLs and rules.
use Rattle.std.specs.Prelude.{ℕ, if◌then◌else◌, List, [], ◌∷◌, ◌++◌, not, position, Option, Some, None, Result, Ok, codes}
use Rattle.std.specs.Option.{ok_or}
use Rattle.std.specs.Str.{bytes_eq}
use Rattle.proxy_config.specs.declared.faults.FaultCause.{FaultCause}
use Rattle.proxy_config.specs.declared.faults.FaultCause.TheVariants as causes
use Rattle.proxy_config.specs.declared.parts.Acl.{Acl}
use Rattle.proxy_config.specs.declared.parts.Action.{Action}
use Rattle.proxy_config.specs.declared.parts.Action.TheVariants.{SetPriorityClass, SetPriorityOffset}
use Rattle.proxy_config.specs.declared.parts.Rule.{Rule}
use Rattle.proxy_config.specs.declared.parts.Server.{Server}
use Rattle.proxy_config.specs.declared.parts.Test.{Test}
use Rattle.proxy_config.specs.Outcomes.{◌>>=◌, unless}
use Rattle.proxy_config.specs.Names.{is_acl_name}
use Rattle.proxy_config.specs.Pieces.{word_at}
use Rattle.proxy_config.specs.Samples.{test_to_end, expression_of}
use Rattle.proxy_config.specs.Conditions.{optional_guard}

-- the ACLs with one more alternative for this name
abbrev pub with_test : List ℕ → Test → List Acl → List Acl
with_test name test [] = record { name = name; tests = test ∷ [] } ∷ []
with_test name test (acl ∷ acls) = if bytes_eq acl.name name then record acl { tests = acl.tests ++ test ∷ [] } ∷ acls
    else acl ∷ with_test name test acls

-- `acl NAME TEST`
unfoldable pub acl_line : List Acl → List (List ℕ) → Result (List Acl) FaultCause
acl_line acls words = do
  name ← word_at words
  named ← unless (not (is_acl_name name.0)) causes.Name
  test ← test_to_end name.1
  Ok (with_test name.0 test acls)

abbrev pub action_of : List ℕ → Option Action
action_of word =
    if bytes_eq word (codes "set-priority-class") then Some SetPriorityClass
    else if bytes_eq word (codes "set-priority-offset") then Some SetPriorityOffset
    else None

-- `http-request ACTION EXPRESSION`, and a guard or nothing
unfoldable pub rule_line : List Acl → List (List ℕ) → Result Rule FaultCause
rule_line acls words = do
  first ← word_at words
  action ← ok_or (action_of first.0) causes.Keyword
  second ← word_at first.1
  value ← ok_or (expression_of second.0) causes.Condition
  guard ← optional_guard acls second.1
  Ok (record { action = action; value = value; guard = guard })

-- the index of the server with this name
abbrev pub server_index : List ℕ → List Server → Option ℕ
server_index name servers = position (λ server. bytes_eq server.name name) servers
