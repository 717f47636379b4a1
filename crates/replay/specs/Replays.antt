-- The effect of a replay on the bytes that a writer holds, where they are known.
use Rattle.std.specs.Prelude.{◌≡◌, ◌⊎◌, ℕ, ◌≤◌, List, length, Option, None}
use Rattle.std.specs.Io.KnownBytes.{Appends}
use Rattle.log_texts.specs.Faults.{fault_of}
use Rattle.replay.specs.Transfers.{WritesFront}
use Rattle.replay.specs.TraceTexts.{IsTraceOf}

-- the script is faultless, and its trace is written
pub record WritesTrace (script : List ℕ) (old new : Option (List ℕ)) : Type 0 where
  pub faultless : fault_of script ≡ None
  pub trace : List ℕ
  pub is_trace : IsTraceOf script trace
  pub written : Appends old new trace

-- the script is faultless, and a front of its trace is written
pub record WritesFrontOfTrace (script : List ℕ) (old new : Option (List ℕ)) : Type 0 where
  pub faultless : fault_of script ≡ None
  pub trace : List ℕ
  pub is_trace : IsTraceOf script trace
  pub written : WritesFront old new trace

-- the number of writes is at most the number of bytes of the script's trace; where it has no trace, none was made
abbrev pub AreFewWrites : List ℕ → ℕ → Type 0
AreFewWrites script writes = (writes ≡ 0) ⊎ ((trace : List ℕ) × IsTraceOf script trace × (writes ≤ length trace))
