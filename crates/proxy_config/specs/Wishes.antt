-- The pin that a `use-server` line asks for before all servers are known: it names its server.
use Rattle.std.specs.Prelude.{ℕ, not, List, Result, Ok}
use Rattle.std.specs.Option.{ok_or}
use Rattle.proxy_config.specs.declared.faults.FaultCause.{FaultCause}
use Rattle.proxy_config.specs.declared.faults.FaultCause.TheVariants as causes
use Rattle.proxy_config.specs.declared.parts.Acl.{Acl}
use Rattle.proxy_config.specs.declared.parts.Guard.{Guard}
use Rattle.proxy_config.specs.declared.parts.Pin.{Pin}
use Rattle.proxy_config.specs.declared.parts.Server.{Server}
use Rattle.proxy_config.specs.declared.wishes.UnresolvedUseServer.{UnresolvedUseServer}
use Rattle.proxy_config.specs.Outcomes.{◌>>=◌, unless}
use Rattle.proxy_words.specs.Names.{is_name}
use Rattle.proxy_config.specs.Pieces.{word_at}
use Rattle.proxy_config.specs.Conditions.{guard_at}
use Rattle.proxy_config.specs.Rules.{server_index}

-- a guard that is required
abbrev pub guard_of : List Acl → List (List ℕ) → Result Guard FaultCause
guard_of acls words = word_at words >>= λ first. guard_at acls first.0 first.1

-- `use-server NAME` and a guard, faulty or not, in the line of this number
unfoldable pub wish_line : ℕ → List Acl → List (List ℕ) → Result UnresolvedUseServer FaultCause
wish_line n acls words = do
  name ← word_at words
  named ← unless (not (is_name name.0)) causes.Name
  Ok (record { line = n; server = name.0; guard = guard_of acls name.1 })

-- the pin that is asked for: an undeclared server is a fault before that of the guard
abbrev pub asked_pin : List Server → UnresolvedUseServer → Result Pin FaultCause
asked_pin servers wish = do
  server ← ok_or (server_index wish.server servers) causes.Unknown
  guard ← wish.guard
  Ok (record { server = server; guard = guard })
