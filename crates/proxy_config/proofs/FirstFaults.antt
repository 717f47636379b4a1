-- What `run` answers, line by line.
use Rattle.std.proofs.Common.{◌≡◌, ◌∙◌, ◌⊎◌, inl, inr, ◌+◌, ℕ, ◌==◌, Bool, true, false, cond, List, []}
use Rattle.std.proofs.Common.{◌∷◌, ◌++◌, length, Option, Some, None, Result, Ok, Err, refl, sym, ap, subst, arith}
use Rattle.std.specs.Result.{IfOk, IfErr}
use Rattle.std.specs.Str.Lines.{lines}
use Rattle.proxy_config.specs.declared.faults.FaultCause.{FaultCause}
use Rattle.proxy_config.specs.declared.faults.FaultCause.TheVariants as causes
use Rattle.proxy_config.specs.declared.faults.ConfigFault.{ConfigFault}
use Rattle.proxy_config.specs.declared.faults.ReadError.{ReadError}
use Rattle.proxy_config.specs.declared.faults.ReadError.TheVariants as errors
use Rattle.proxy_config.specs.declared.parts.Bind.{Bind}
use Rattle.proxy_config.specs.declared.parts.Config.{Config}
use Rattle.proxy_config.specs.declared.parts.Server.{Server}
use Rattle.proxy_config.specs.Resolved.{Resolved, start, resolved_line}
use Rattle.proxy_config.specs.File.{FileAnswers, declared_servers, finished, is_line, long_line, missing, reading, run, then_lines, whole}
use Rattle.proxy_config.specs.Laws.{TakenIn, FirstFault, Says, Lacks, Blames}

same_err : {A : Type 0} (f g : ConfigFault) → (let one : Result A ConfigFault = Err f in one ≡ Err g) → f ≡ g
same_err f g same = cc

-- what a line and those after it come to is its fault, or what they come to from the draft that it leaves
after_ok : (n : ℕ) (taken : Result Resolved FaultCause) (more : Resolved → Result Resolved ConfigFault) (e : Resolved) → then_lines n taken more ≡ Ok e
    → (next : Resolved) × (taken ≡ Ok next) × (more next ≡ Ok e)
after_ok n (Ok next) more e is = (next, refl, is)
after_ok n (Err cause) more e is = cc

run-ok : (servers : List Server) (long : Option ℕ) (d : Resolved) (n : ℕ) (lines : List (List ℕ)) (e : Resolved) → run servers long d n lines ≡ Ok e
    → TakenIn servers long d n lines e
run-ok servers long d n [] e is = cc
run-ok servers long d n (line ∷ lines) e is =
    let next = after_ok n (resolved_line servers (is_line long n) d n line) (λ next. run servers long next (n + 1) lines) e is in
    (next.0, next.1, run-ok servers long next.0 (n + 1) lines e next.2)

-- `FirstFault` from a draft and a number
record Fault (servers : List Server) (long : Option ℕ) (d : Resolved) (n : ℕ) (lines : List (List ℕ)) (fault : ConfigFault) : Type 0 where
  before : List (List ℕ)
  line : List ℕ
  after : List (List ℕ)
  so_far : Resolved
  is : lines ≡ before ++ line ∷ after
  taken_in : TakenIn servers long d n before so_far
  number : fault.line ≡ length before + n
  cause : resolved_line servers (is_line long fault.line) so_far fault.line line ≡ Err fault.cause

later : (servers : List Server) (long : Option ℕ) (d next : Resolved) (n : ℕ) (line : List ℕ) (lines : List (List ℕ)) (fault : ConfigFault)
    → resolved_line servers (is_line long n) d n line ≡ Ok next
    → Fault servers long next (n + 1) lines fault → Fault servers long d n (line ∷ lines) fault
later servers long d next n line lines fault taken f = record {
  before = line ∷ f.before;
  line = f.line;
  after = f.after;
  so_far = f.so_far;
  is = ap (λ more. line ∷ more) f.is;
  taken_in = (next, taken, f.taken_in);
  number = omega (arith, f.number);
  cause = f.cause;
}

here : (servers : List Server) (long : Option ℕ) (d : Resolved) (n : ℕ) (line : List ℕ) (lines : List (List ℕ)) (cause : FaultCause)
    → resolved_line servers (is_line long n) d n line ≡ Err cause
    → Fault servers long d n (line ∷ lines) (record { line = n; cause = cause })
here servers long d n line lines cause faulty = record {
  before = [];
  line = line;
  after = lines;
  so_far = d;
  is = refl;
  taken_in = refl;
  number = omega arith;
  cause = faulty;
}

after_fault : (servers : List Server) (long : Option ℕ) (d : Resolved) (n : ℕ) (line : List ℕ) (lines : List (List ℕ)) (fault : ConfigFault)
    (taken : Result Resolved FaultCause)
    → resolved_line servers (is_line long n) d n line ≡ taken
    → ((next : Resolved) → run servers long next (n + 1) lines ≡ Err fault → Fault servers long next (n + 1) lines fault)
    → then_lines n taken (λ next. run servers long next (n + 1) lines) ≡ Err fault → Fault servers long d n (line ∷ lines) fault
after_fault servers long d n line lines fault (Ok next) taken more is = later servers long d next n line lines fault taken (more next is)
after_fault servers long d n line lines fault (Err cause) taken more is =
    subst (λ (f : ConfigFault). Fault servers long d n (line ∷ lines) f) (same_err _ _ is) (here servers long d n line lines cause taken)

run-fault : (servers : List Server) (long : Option ℕ) (d : Resolved) (n : ℕ) (lines : List (List ℕ)) (fault : ConfigFault)
    → run servers long d n lines ≡ Err fault
    → Fault servers long d n lines fault
run-fault servers long d n [] fault is = absurd (let no = is in cc)
run-fault servers long d n (line ∷ lines) fault is =
    after_fault servers long d n line lines fault (resolved_line servers (is_line long n) d n line) refl
    (λ next more. run-fault servers long next (n + 1) lines fault more) is

-- what `finished` answers
finished_ok : (read : Result Resolved ConfigFault) (config : Config) → finished read ≡ Ok config
    → (d : Resolved) × (read ≡ Ok d) × (whole d.draft.listen d.draft.bind d ≡ Ok config)
finished_ok (Ok d) config is = (d, refl, is)
finished_ok (Err fault) config is = cc

finished_fault : (read : Result Resolved ConfigFault) (fault : ConfigFault) → finished read ≡ Err fault
    → (read ≡ Err fault) ⊎ ((d : Resolved) × (read ≡ Ok d) × (whole d.draft.listen d.draft.bind d ≡ Err fault))
finished_fault (Ok d) fault is = inr (d, refl, is)
finished_fault (Err first) fault is = inl (ap Err (same_err _ _ is))

pub reading-ok : (bytes : List ℕ) (config : Config) → reading bytes ≡ Ok config → Says bytes config
reading-ok bytes config is =
    let end = finished_ok (run (declared_servers bytes) (long_line bytes) start 1 (lines bytes)) config is in
    record { read = end.0; taken_in = run-ok _ _ _ _ _ end.0 end.1; whole = end.2 }

chosen_whole : (none : Bool) (line : ℕ) (config : Config) (fault : ConfigFault)
    → (let one : Result Config ConfigFault = cond none (missing line) (Ok config) in one ≡ Err fault) → fault.cause ≡ causes.Missing
chosen_whole true line config fault is = ap (λ (f : ConfigFault). f.cause) (sym (same_err _ _ is))
chosen_whole false line config fault is = cc

missing_cause : (listen : Option ℕ) (bind : Option Bind) (d : Resolved) (fault : ConfigFault) → whole listen bind d ≡ Err fault → fault.cause ≡ causes.Missing
missing_cause None bind d fault is = ap (λ (f : ConfigFault). f.cause) (sym (same_err _ _ is))
missing_cause (Some line) None d fault is = ap (λ (f : ConfigFault). f.cause) (sym (same_err _ _ is))
missing_cause (Some line) (Some bind) d fault is = chosen_whole (length d.draft.servers == 0) line _ fault is

pub reading-fault : (bytes : List ℕ) (fault : ConfigFault) → reading bytes ≡ Err fault
    → FirstFault (declared_servers bytes) (long_line bytes) (lines bytes) fault ⊎ Lacks bytes fault
reading-fault bytes fault is =
    elim (finished_fault (run (declared_servers bytes) (long_line bytes) start 1 (lines bytes)) fault is) [
      | inl faulty ↦ let f = run-fault (declared_servers bytes) (long_line bytes) start 1 (lines bytes) fault faulty in
          inl (record {
            before = f.before;
            line = f.line;
            after = f.after;
            so_far = f.so_far;
            is = f.is;
            taken_in = f.taken_in;
            number = f.number;
            cause = f.cause;
          })
      | inr end ↦ inr (record {
        read = end.0;
        taken_in = run-ok (declared_servers bytes) (long_line bytes) start 1 (lines bytes) end.0 end.1;
        whole = end.2;
        cause = missing_cause end.0.draft.listen end.0.draft.bind end.0 fault end.2;
      })
    ]

-- the same of what a function returned
pub answers-ok : (result : Result Config ReadError) (bytes : List ℕ) → FileAnswers result (reading bytes) → IfOk result (Says bytes)
answers-ok (Ok config) bytes is = reading-ok bytes config is
answers-ok (Err e) bytes is = tt

pub answers-fault : (result : Result Config ReadError) (bytes : List ℕ) → FileAnswers result (reading bytes) → IfErr result (Blames bytes)
answers-fault (Ok config) bytes is = tt
answers-fault (Err errors.NoMemory) bytes is = tt
answers-fault (Err (errors.Fault fault)) bytes is = reading-fault bytes fault is

-- A faulty line names itself, whatever follows it.
pub run-names : (servers : List Server) (long : Option ℕ) (lines : List (List ℕ)) (fault : ConfigFault) → FirstFault servers long lines fault
    → run servers long start 1 lines ≡ Err fault
run-names servers long lines fault first =
    ap (run servers long start 1) first.is ∙ names servers long start first.so_far 1 first.before first.line first.after fault first.taken_in
    (omega (arith, first.number)) first.cause
  where
    names : (servers : List Server) (long : Option ℕ) (d e : Resolved) (n : ℕ) (before : List (List ℕ)) (line : List ℕ) (after : List (List ℕ))
        (fault : ConfigFault)
        → TakenIn servers long d n before e → fault.line ≡ length before + n
        → resolved_line servers (is_line long fault.line) e fault.line line ≡ Err fault.cause
        → run servers long d n (before ++ line ∷ after) ≡ Err fault
    names servers long d e n [] line after fault taken number cause =
        let here : fault.line ≡ n = omega (arith, number) in
        let faulty : resolved_line servers (is_line long n) d n line ≡ Err fault.cause =
        subst (λ (m : ℕ). resolved_line servers (is_line long m) d m line ≡ Err fault.cause) here
        (subst (λ (x : Resolved). resolved_line servers (is_line long fault.line) x fault.line line ≡ Err fault.cause) taken cause) in
        rw faulty (ap (λ (m : ℕ). Err (record { line = m; cause = fault.cause })) (sym here))
    names servers long d e n (first ∷ before) line after fault taken number cause =
        rw taken.1 (names servers long taken.0 e (n + 1) before line after fault taken.2 (omega (arith, number)) cause)
