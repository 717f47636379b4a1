-- The knowledge after some lines, and its result together with the servers of the whole file.
use Rattle.std.specs.Prelude.{ℕ, Bool, List, [], ◌∷◌, ◌++◌, length, Option, Some, None, Result, Ok, Err}
use Rattle.proxy_config.specs.declared.faults.FaultCause.{FaultCause}
use Rattle.proxy_config.specs.declared.faults.ConfigFault.{ConfigFault}
use Rattle.proxy_config.specs.declared.draft.Draft.{Draft}
use Rattle.proxy_config.specs.declared.keywords.Keyword.{Keyword}
use Rattle.proxy_config.specs.declared.parts.Pin.{Pin}
use Rattle.proxy_config.specs.declared.parts.Server.{Server}
use Rattle.proxy_config.specs.declared.progress.Progress.{Progress}
use Rattle.proxy_config.specs.declared.wishes.UnresolvedUseServer.{UnresolvedUseServer}
use Rattle.proxy_config.specs.Draft as draft
use Rattle.proxy_config.specs.File.{keyword_in, after_fault, then_lines}
use Rattle.proxy_config.specs.Resolved.{Resolved}
use Rattle.proxy_config.specs.Wishes.{asked_pin}

-- the knowledge before the first line
abbrev pub start : Progress
start = record { draft = draft.start; wishes = []; fault = None }

-- a line's outcome, with its number and its keyword: after a fault no pin counts, and no other fault
abbrev pub took : Option ConfigFault → Progress → ℕ → Option Keyword → Result (Draft × Option UnresolvedUseServer) FaultCause → Progress
took None p n keyword (Ok (d, None)) = record p { draft = d }
took None p n keyword (Ok (d, Some wish)) = record p { draft = d; wishes = p.wishes ++ wish ∷ [] }
took None p n keyword (Err cause) = record p { draft = after_fault p.draft keyword; fault = Some (record { line = n; cause = cause }) }
took (Some fault) p n keyword (Ok (d, wish)) = record p { draft = d }
took (Some fault) p n keyword (Err cause) = record p { draft = after_fault p.draft keyword }

abbrev pub take_line : Bool → Progress → ℕ → List ℕ → Progress
take_line too_long p n line = took p.fault p n (keyword_in line) (draft.step (length p.wishes) too_long p.draft n line)

-- the fault that is known, or else what follows
abbrev pub unless_known : {A : Type 0} → Option ConfigFault → Result A ConfigFault → Result A ConfigFault
unless_known None more = more
unless_known (Some fault) more = Err fault

-- all pins that are asked for, or the first line whose pin is faulty, and what comes after them
abbrev pub with_pins : {A : Type 0} → List Server → List UnresolvedUseServer → (List Pin → Result A ConfigFault) → Result A ConfigFault
with_pins servers [] more = more []
with_pins servers (wish ∷ wishes) more = then_lines wish.line (asked_pin servers wish) (λ pin. with_pins servers wishes (λ pins. more (pin ∷ pins)))

-- the result of the knowledge, by the servers of the whole file
abbrev pub settled : List Server → Progress → Result Resolved ConfigFault
settled servers p = with_pins servers p.wishes (λ pins. unless_known p.fault (Ok (record { draft = p.draft; pins = pins })))

-- the fault that no later server changes: there is no pin before it
abbrev pub decided : List UnresolvedUseServer → Option ConfigFault → Option ConfigFault
decided [] fault = fault
decided (wish ∷ wishes) fault = None
