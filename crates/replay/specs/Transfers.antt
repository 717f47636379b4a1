-- What a replay reads and writes.
use Rattle.std.specs.Prelude.{◌≡◌, ◌<◌, ℕ, List, ◌++◌, length, Option, Result, Ok, Err}
use Rattle.std.specs.Io.KnownBytes.{Appends}
use Rattle.replay.specs.declared.fault.Fault.{Fault}
use Rattle.replay.specs.declared.fault.Fault.TheVariants as faults

-- a writer's known bytes grow by a front of the text
abbrev pub WritesFront : Option (List ℕ) → Option (List ℕ) → List ℕ → Type 0
WritesFront old new text = (front : List ℕ) × (rest : List ℕ) × Appends old new front × (text ≡ front ++ rest) × (0 < length rest)

-- the number of reads that failed in a call with this answer: one where the fault is a read's, and otherwise none
abbrev pub read_failures : {A : Type 0} → Result A Fault → ℕ
read_failures (Ok x) = 0
read_failures (Err faults.Read) = 1
read_failures (Err other) = 0

-- the same for writes
abbrev pub write_failures : {A : Type 0} → Result A Fault → ℕ
write_failures (Ok x) = 0
write_failures (Err faults.Write) = 1
write_failures (Err other) = 0
