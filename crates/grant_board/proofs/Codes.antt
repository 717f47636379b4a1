-- Words that have one number are one word.
use Rattle.std.proofs.Common.{◌≡◌, ◌<◌, Option, Some, None, IfNone, ap, refl, arith}
use Rattle.base_verdict.specs.declared.cause.Cause.TheVariants.{Aborted, Timeout, Retries, NoServer}
use Rattle.base_verdict.specs.declared.Verdict.{Verdict}
use Rattle.base_verdict.specs.declared.Verdict.TheVariants.{Serve, Told}
use Rattle.base_verdict.specs.declared.Ending.TheVariants.{Done, Failed}
use Rattle.grant_board.specs.declared.laws.Word.{Word}
use Rattle.grant_board.specs.declared.laws.Word.TheVariants.{Empty, Offered, Taken, Posted}
use Rattle.grant_board.specs.BoardWords.{code_of, encode_of, IsWord, IsVerdict}

one_verdict : (a b : Verdict) → IsVerdict a → IsVerdict b → code_of a ≡ code_of b → a ≡ b
one_verdict (Serve s) (Serve t) p q e = ap Serve e
one_verdict (Serve s) (Told Aborted) p q e = absurd (omega arith)
one_verdict (Serve s) (Told Timeout) p q e = absurd (omega arith)
one_verdict (Serve s) (Told Retries) p q e = absurd (omega arith)
one_verdict (Serve s) (Told NoServer) p q e = absurd (omega arith)
one_verdict (Told Aborted) (Serve t) p q e = absurd (omega arith)
one_verdict (Told Timeout) (Serve t) p q e = absurd (omega arith)
one_verdict (Told Retries) (Serve t) p q e = absurd (omega arith)
one_verdict (Told NoServer) (Serve t) p q e = absurd (omega arith)
one_verdict (Told Aborted) (Told Aborted) p q e = refl
one_verdict (Told Timeout) (Told Timeout) p q e = refl
one_verdict (Told Retries) (Told Retries) p q e = refl
one_verdict (Told NoServer) (Told NoServer) p q e = refl
one_verdict (Told a) (Told b) p q e = absurd (omega arith)

code_small : (a : Verdict) → IsVerdict a → code_of a < 68
code_small (Serve s) p = omega arith
code_small (Told Aborted) p = omega arith
code_small (Told Timeout) p = omega arith
code_small (Told Retries) p = omega arith
code_small (Told NoServer) p = omega arith

pub same_word : (a b : Word) → IsWord a → IsWord b → encode_of a ≡ encode_of b → a ≡ b
same_word Empty Empty p q e = refl
same_word Empty (Offered t d) p q e = absurd (omega arith)
same_word Empty (Taken t d) p q e = absurd (omega arith)
same_word Empty (Posted t d Done) p q e = absurd (omega arith)
same_word Empty (Posted t d Failed) p q e = absurd (omega arith)
same_word (Offered t d) Empty p q e = absurd (omega arith)
same_word (Taken t d) Empty p q e = absurd (omega arith)
same_word (Posted t d Done) Empty p q e = absurd (omega arith)
same_word (Posted t d Failed) Empty p q e = absurd (omega arith)
same_word (Offered t d) (Offered u b) p q e = let x = code_small d p.1 in let y = code_small b q.1 in let v : d ≡ b = one_verdict d b p.1 q.1 (omega arith) in
    let m : t ≡ u = omega arith in λ i. Offered (m i) (v i)
same_word (Offered t d) (Taken u b) p q e = let x = code_small d p.1 in let y = code_small b q.1 in absurd (omega arith)
same_word (Offered t d) (Posted u b Done) p q e = let x = code_small d p.1 in let y = code_small b q.1 in absurd (omega arith)
same_word (Offered t d) (Posted u b Failed) p q e = let x = code_small d p.1 in let y = code_small b q.1 in absurd (omega arith)
same_word (Taken t d) (Offered u b) p q e = let x = code_small d p.1 in let y = code_small b q.1 in absurd (omega arith)
same_word (Taken t d) (Taken u b) p q e = let x = code_small d p.1 in let y = code_small b q.1 in let v : d ≡ b = one_verdict d b p.1 q.1 (omega arith) in
    let m : t ≡ u = omega arith in λ i. Taken (m i) (v i)
same_word (Taken t d) (Posted u b Done) p q e = let x = code_small d p.1 in let y = code_small b q.1 in absurd (omega arith)
same_word (Taken t d) (Posted u b Failed) p q e = let x = code_small d p.1 in let y = code_small b q.1 in absurd (omega arith)
same_word (Posted t d Done) (Offered u b) p q e = let x = code_small d p.1 in let y = code_small b q.1 in absurd (omega arith)
same_word (Posted t d Done) (Taken u b) p q e = let x = code_small d p.1 in let y = code_small b q.1 in absurd (omega arith)
same_word (Posted t d Done) (Posted u b Done) p q e = let x = code_small d p.1 in let y = code_small b q.1 in
    let v : d ≡ b = one_verdict d b p.1 q.1 (omega arith) in let m : t ≡ u = omega arith in λ i. Posted (m i) (v i) Done
same_word (Posted t d Done) (Posted u b Failed) p q e = let x = code_small d p.1 in let y = code_small b q.1 in absurd (omega arith)
same_word (Posted t d Failed) (Offered u b) p q e = let x = code_small d p.1 in let y = code_small b q.1 in absurd (omega arith)
same_word (Posted t d Failed) (Taken u b) p q e = let x = code_small d p.1 in let y = code_small b q.1 in absurd (omega arith)
same_word (Posted t d Failed) (Posted u b Done) p q e = let x = code_small d p.1 in let y = code_small b q.1 in absurd (omega arith)
same_word (Posted t d Failed) (Posted u b Failed) p q e = let x = code_small d p.1 in let y = code_small b q.1 in
    let v : d ≡ b = one_verdict d b p.1 q.1 (omega arith) in let m : t ≡ u = omega arith in λ i. Posted (m i) (v i) Failed

-- what holds, holds where there is no value
pub if_none : {A : Type 0} (o : Option A) (P : Type 0) → P → IfNone o P
if_none None P p = p
if_none (Some x) P p = tt
