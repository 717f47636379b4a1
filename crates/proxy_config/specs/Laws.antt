-- The meaning of reading for whole files: no law here follows a word or a state.
use Rattle.std.specs.Prelude.{◌≡◌, ◌⊎◌, ℕ, ◌+◌, List, [], ◌∷◌, ◌++◌, length, Option, Ok, Err}
use Rattle.std.specs.Str.Lines.{lines}
use Rattle.proxy_config.specs.declared.faults.FaultCause.TheVariants as causes
use Rattle.proxy_config.specs.declared.faults.ConfigFault.{ConfigFault}
use Rattle.proxy_config.specs.declared.faults.ReadError.{ReadError}
use Rattle.proxy_config.specs.declared.faults.ReadError.TheVariants as errors
use Rattle.proxy_config.specs.declared.parts.Config.{Config}
use Rattle.proxy_config.specs.declared.parts.Server.{Server}
use Rattle.proxy_config.specs.Resolved.{Resolved, start, resolved_line}
use Rattle.proxy_config.specs.File.{declared_servers, is_line, long_line, whole}

-- The lines, the first of which has this number, are all accepted: they lead from the result of
-- those before them to this one.
abbrev pub TakenIn : List Server → Option ℕ → Resolved → ℕ → List (List ℕ) → Resolved → Type 0
TakenIn servers long r n [] e = e ≡ r
TakenIn servers long r n (line ∷ lines) e =
    (next : Resolved) × (resolved_line servers (is_line long n) r n line ≡ Ok next) × TakenIn servers long next (n + 1) lines e

-- A line is faulty, and all before it are accepted. Nothing is said of the lines after it.
pub record FirstFault (servers : List Server) (long : Option ℕ) (lines : List (List ℕ)) (fault : ConfigFault) : Type 0 where
  pub before : List (List ℕ)
  pub line : List ℕ
  pub after : List (List ℕ)
  pub so_far : Resolved
  pub is : lines ≡ before ++ line ∷ after
  pub taken_in : TakenIn servers long start 1 before so_far
  pub number : fault.line ≡ length before + 1
  pub cause : resolved_line servers (is_line long fault.line) so_far fault.line line ≡ Err fault.cause

-- All lines are accepted, and make this configuration.
pub record Says (bytes : List ℕ) (config : Config) : Type 0 where
  pub read : Resolved
  pub taken_in : TakenIn (declared_servers bytes) (long_line bytes) start 1 (lines bytes) read
  pub whole : whole read.draft.listen read.draft.bind read ≡ Ok config

-- All lines are accepted, and no `listen` stands there, or one without a `bind` or a server: its line is named.
pub record Lacks (bytes : List ℕ) (fault : ConfigFault) : Type 0 where
  pub read : Resolved
  pub taken_in : TakenIn (declared_servers bytes) (long_line bytes) start 1 (lines bytes) read
  pub whole : whole read.draft.listen read.draft.bind read ≡ Err fault
  pub cause : fault.cause ≡ causes.Missing

-- The fault is that of the first faulty line; where there is none, something is missing.
abbrev pub Blames : List ℕ → ReadError → Type 0
Blames bytes errors.NoMemory = Unit {0}
Blames bytes (errors.Fault fault) = FirstFault (declared_servers bytes) (long_line bytes) (lines bytes) fault ⊎ Lacks bytes fault
