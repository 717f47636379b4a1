-- The meaning of lines where all servers of the file are known.
use Rattle.std.specs.Prelude.{ℕ, Bool, List, [], ◌∷◌, ◌++◌, length, Option, Some, None, Result, Ok}
use Rattle.proxy_config.specs.declared.faults.FaultCause.{FaultCause}
use Rattle.proxy_config.specs.declared.draft.Draft.{Draft}
use Rattle.proxy_config.specs.declared.parts.Pin.{Pin}
use Rattle.proxy_config.specs.declared.parts.Server.{Server}
use Rattle.proxy_config.specs.declared.wishes.UnresolvedUseServer.{UnresolvedUseServer}
use Rattle.proxy_config.specs.Outcomes.{◌>>=◌}
use Rattle.proxy_config.specs.Draft as draft
use Rattle.proxy_config.specs.Wishes.{asked_pin}

-- the result of lines: a draft, and the pins that they ask for
pub record Resolved : Type 0 where
  pub draft : Draft
  pub pins : List Pin

-- the result before the first line
abbrev pub start : Resolved
start = record { draft = draft.start; pins = [] }

-- a line's outcome after these pins: the pin that it asks for is resolved by the servers of the file
abbrev pub resolve : List Server → List Pin → Draft × Option UnresolvedUseServer → Result Resolved FaultCause
resolve servers pins (d, None) = Ok (record { draft = d; pins = pins })
resolve servers pins (d, Some wish) = asked_pin servers wish >>= λ pin. Ok (record { draft = d; pins = pins ++ pin ∷ [] })

-- the words of a line, and a line, after the result of the lines before it
abbrev pub resolved_words : List Server → Resolved → ℕ → List (List ℕ) → Result Resolved FaultCause
resolved_words servers r n words = draft.words_line (length r.pins) r.draft n words >>= resolve servers r.pins

abbrev pub resolved_line : List Server → Bool → Resolved → ℕ → List ℕ → Result Resolved FaultCause
resolved_line servers too_long r n line = draft.step (length r.pins) too_long r.draft n line >>= resolve servers r.pins
