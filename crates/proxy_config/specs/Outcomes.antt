-- The outcome of reading: a value, or the cause of the first fault.
use Rattle.std.specs.Prelude.{◌≡◌, Bool, if◌then◌else◌, Result, Ok, Err}
use Rattle.proxy_config.specs.declared.faults.FaultCause.{FaultCause}
use Rattle.proxy_config.specs.declared.faults.LineError.{LineError}
use Rattle.proxy_config.specs.declared.faults.LineError.TheVariants as errors

-- one part is read, and then the next: the first fault is the fault of the whole
infixl 10 ◌>>=◌
abbrev pub ◌>>=◌ : {A B : Type 0} → Result A FaultCause → (A → Result B FaultCause) → Result B FaultCause
(Ok x) >>= f = f x
(Err cause) >>= f = Err cause

-- a test with the cause of its failure
abbrev pub unless : Bool → FaultCause → Result (Unit {0}) FaultCause
unless fault cause = if fault then Err cause else Ok tt

-- what a function returned, mapped by view, is the definition's result
abbrev pub Sees : {X Y : Type 0} → (X → Y) → Result X FaultCause → Result Y FaultCause → Type 0
Sees view (Ok x) read = read ≡ Ok (view x)
Sees view (Err cause) read = read ≡ Err cause

-- the fault is the one of the definition; want of memory says nothing
abbrev pub Fails : {Y : Type 0} → LineError → Result Y FaultCause → Type 0
Fails errors.NoMemory read = Unit {0}
Fails (errors.Fault cause) read = read ≡ Err cause

-- what a function returned, mapped by view, is the definition's result, except for want of memory
abbrev pub Gives : {X Y : Type 0} → (X → Y) → Result X LineError → Result Y FaultCause → Type 0
Gives view (Ok x) read = read ≡ Ok (view x)
Gives view (Err e) read = Fails e read

-- the same for a value that was changed in place; an error doesn't change it
abbrev pub Becomes : {X : Type 0} → Result (Unit {0}) LineError → X → X → Result X FaultCause → Type 0
Becomes (Ok _) old new read = read ≡ Ok new
Becomes (Err e) old new read = (new ≡ old) × Fails e read

-- the same for a value that was changed in place and one that was returned
abbrev pub Leaves : {X Y : Type 0} → Result Y LineError → X → X → Result (X × Y) FaultCause → Type 0
Leaves (Ok y) old new read = read ≡ Ok (new, y)
Leaves (Err e) old new read = (new ≡ old) × Fails e read
