-- Readers that take words from the left.
use Rattle.std.proofs.Common.{◌≡◌, ◌∙◌, ◌≤◌, ◌++◌, ℕ, suc, Bool, true, false, cond, List, []}
use Rattle.std.proofs.Common.{◌∷◌, length, Option, Some, None, Result, Ok, Err, refl, sym, ap, arith}
use Rattle.std.specs.Option.{ok_or}
use Rattle.proxy_config.specs.declared.faults.FaultCause.{FaultCause}
use Rattle.proxy_config.specs.declared.faults.FaultCause.TheVariants as causes
use Rattle.proxy_config.specs.Outcomes.{◌>>=◌, unless}
use Rattle.proxy_config.specs.Pieces.{word_at, end_at}
use Rattle.proxy_config.specs.Samples.{is_dashed, value_of}
use Rattle.proxy_config.specs.LeftToRight.{CannotStand}

-- what is at fault: too few words or too many, a word that can't stand, or what was read before, whatever follows
pub data Blame {A : Type 0} (read : List (List ℕ) → Result A FaultCause) (words : List (List ℕ)) (cause : FaultCause) : Type 0 where
  count : cause ≡ causes.Words → Blame read words cause
  stands : CannotStand read words cause → Blame read words cause
  always : ((others : List (List ℕ)) → read others ≡ Err cause) → Blame read words cause

-- a reader of at most this many words
pub record LeftReader {A : Type 0} (n : ℕ) (read : List (List ℕ) → Result A FaultCause) : Type 0 where
  pub blame : (words : List (List ℕ)) (cause : FaultCause) → length words ≤ n → read words ≡ Err cause → Blame read words cause

pub from_err : {A : Type 0} (one other : FaultCause) → (let fault : Result A FaultCause = Err one in fault ≡ Err other) → one ≡ other
from_err one other same = cc

-- one word more at the front
pub cons : {A : Type 0} (read behind : List (List ℕ) → Result A FaultCause) (word : List ℕ) (words : List (List ℕ)) (cause : FaultCause)
    → ((others : List (List ℕ)) → read (word ∷ others) ≡ behind others) → ((other : FaultCause) → read [] ≡ Err other → other ≡ causes.Words)
    → Blame behind words cause → Blame read (word ∷ words) cause
cons read behind word words cause goes_on none (count few) = count few
cons read behind word words cause goes_on none (stands s) = stands (record {
  before = word ∷ s.before;
  word = s.word;
  after = s.after;
  is = ap (λ (ws : List (List ℕ)). word ∷ ws) s.is;
  whatever = λ others. goes_on (s.before ++ s.word ∷ others) ∙ s.whatever others;
  so_far = λ other is. s.so_far other (sym (goes_on s.before) ∙ is);
})
cons read behind word words cause goes_on none (always whatever) = stands (record {
  before = [];
  word = word;
  after = words;
  is = refl;
  whatever = λ others. goes_on others ∙ whatever others;
  so_far = none;
})

-- a reader that does the same
pub same : {A : Type 0} {n : ℕ} (read other : List (List ℕ) → Result A FaultCause) → ((words : List (List ℕ)) → read words ≡ other words) → LeftReader n other
    → LeftReader n read
same read other is left = record { blame = λ words cause few fault. moved words cause (left.blame words cause few (sym (is words) ∙ fault)) }
  where
    moved : (words : List (List ℕ)) (cause : FaultCause) → Blame other words cause → Blame read words cause
    moved words cause (count few) = count few
    moved words cause (stands s) = stands (record {
      before = s.before;
      word = s.word;
      after = s.after;
      is = s.is;
      whatever = λ others. is (s.before ++ s.word ∷ others) ∙ s.whatever others;
      so_far = λ c fault. s.so_far c (sym (is s.before) ∙ fault);
    })
    moved words cause (always whatever) = always (λ others. is others ∙ whatever others)

pub left_ok : {A : Type 0} {n : ℕ} (value : List (List ℕ) → A) → LeftReader n (λ words. Ok (value words))
left_ok value = record { blame = λ words cause few fault. absurd (let none = fault in cc) }

pub left_err : {A : Type 0} {n : ℕ} (cause : FaultCause) → LeftReader {A = A} n (λ words. Err cause)
left_err cause = record { blame = λ words other few fault. always (λ others. fault) }

pub left_unless : {A : Type 0} {n : ℕ} (fault : Bool) (cause : FaultCause) (next : List (List ℕ) → Unit {0} → Result A FaultCause)
    → LeftReader n (λ words. next words tt) → LeftReader n (λ words. unless fault cause >>= next words)
left_unless true cause next left = left_err cause
left_unless false cause next left = left

pub left_or : {A B : Type 0} {n : ℕ} (o : Option A) (cause : FaultCause) (next : List (List ℕ) → A → Result B FaultCause)
    → ((x : A) → LeftReader n (λ words. next words x)) → LeftReader n (λ words. ok_or o cause >>= next words)
left_or (Some x) cause next left = left x
left_or None cause next left = left_err cause

pub left_if : {A : Type 0} {n : ℕ} (b : Bool) (one other : List (List ℕ) → Result A FaultCause) → LeftReader n one → LeftReader n other
    → LeftReader n (λ words. cond b (one words) (other words))
left_if true one other first second = first
left_if false one other first second = second

pub left_value : {A : Type 0} {n : ℕ} (word : List ℕ) (next : List (List ℕ) → List ℕ → Result A FaultCause)
    → LeftReader n (λ words. next words word) → LeftReader n (λ words. value_of word >>= next words)
left_value {A} {n} word next left = by_dash (is_dashed word) refl
  where
    by_dash : (b : Bool) → is_dashed word ≡ b → LeftReader n (λ words. value_of word >>= next words)
    by_dash true dashed = same _ (λ words. Err causes.Condition) (λ words. rw dashed refl) (left_err causes.Condition)
    by_dash false plain = same _ (λ words. next words word) (λ words. rw plain refl) left

pub left_word : {A : Type 0} {n : ℕ} (next : List ℕ × List (List ℕ) → Result A FaultCause) → ((word : List ℕ) → LeftReader n (λ words. next (word, words)))
    → LeftReader n (λ words. word_at words >>= next)
left_word {A} {n} next left = record { blame = of }
  where
    of : (words : List (List ℕ)) (cause : FaultCause) → length words ≤ n → (word_at words >>= next) ≡ Err cause
        → Blame (λ words. word_at words >>= next) words cause
    of [] cause few fault = count (sym (from_err causes.Words cause fault))
    of (word ∷ words) cause few fault =
        cons (λ words. word_at words >>= next) (λ words. next (word, words)) word words cause (λ others. refl)
        (λ other is. sym (from_err causes.Words other is))
        ((left word).blame words cause (omega arith) fault)

pub left_end : {A : Type 0} {n : ℕ} (value : A) → LeftReader n (λ words. end_at words >>= λ end. Ok value)
left_end {A} {n} value = record { blame = of }
  where
    of : (words : List (List ℕ)) (cause : FaultCause) → length words ≤ n → (end_at words >>= λ end. Ok value) ≡ Err cause
        → Blame (λ words. end_at words >>= λ end. Ok value) words cause
    of [] cause few fault = absurd (let none = fault in cc)
    of (word ∷ words) cause few fault = count (sym (from_err causes.Words cause fault))

-- a reader to the end of the words, and what is made of its value
pub left_made : {A B : Type 0} {n : ℕ} (read : List (List ℕ) → Result A FaultCause) (make : A → B) → LeftReader n read
    → LeftReader n (λ words. read words >>= λ x. Ok (make x))
left_made {A} {B} {n} read make left = record {
  blame = λ words cause few fault.
      moved words cause (left.blame words cause few (only (read words) cause fault));
}
  where
    only : (r : Result A FaultCause) (cause : FaultCause) → (r >>= λ x. Ok (make x)) ≡ Err cause → r ≡ Err cause
    only (Ok x) cause fault = absurd (let none = fault in cc)
    only (Err first) cause fault = ap Err (from_err first cause fault)

    moved : (words : List (List ℕ)) (cause : FaultCause) → Blame read words cause → Blame (λ words. read words >>= λ x. Ok (make x)) words cause
    moved words cause (count few) = count few
    moved words cause (stands s) = stands (record {
      before = s.before;
      word = s.word;
      after = s.after;
      is = s.is;
      whatever = λ others. rw (s.whatever others) refl;
      so_far = λ c fault. s.so_far c (only (read s.before) c fault);
    })
    moved words cause (always whatever) = always (λ others. rw (whatever others) refl)

pub assoc : {A B C : Type 0} (r : Result A FaultCause) (f : A → Result B FaultCause) (g : B → Result C FaultCause) → ((r >>= f) >>= g) ≡ (r >>= λ x. f x >>= g)
assoc (Ok x) f g = refl
assoc (Err cause) f g = refl

pub cond_bind : {A B : Type 0} (b : Bool) (r s : Result A FaultCause) (g : A → Result B FaultCause) → (cond b r s >>= g) ≡ cond b (r >>= g) (s >>= g)
cond_bind true r s g = refl
cond_bind false r s g = refl

-- of fewer words
pub fewer : {A : Type 0} {n : ℕ} {read : List (List ℕ) → Result A FaultCause} → LeftReader (suc n) read → LeftReader n read
fewer left = record { blame = λ words cause few fault. left.blame words cause (omega arith) fault }

-- a reader that takes a word, and then reads on
pub left_cons : {A : Type 0} {n : ℕ} (read : List (List ℕ) → Result A FaultCause) (behind : List ℕ → List (List ℕ) → Result A FaultCause)
    → ((word : List ℕ) (others : List (List ℕ)) → read (word ∷ others) ≡ behind word others)
    → ((other : FaultCause) → read [] ≡ Err other → other ≡ causes.Words)
    → ((word : List ℕ) → LeftReader n (behind word)) → LeftReader (suc n) read
left_cons {A} {n} read behind goes_on none left = record { blame = of }
  where
    of : (words : List (List ℕ)) (cause : FaultCause) → length words ≤ suc n → read words ≡ Err cause → Blame read words cause
    of [] cause few fault = count (none cause fault)
    of (word ∷ words) cause few fault = cons read (behind word) word words cause (goes_on word) none
        ((left word).blame words cause (omega arith) (sym (goes_on word words) ∙ fault))

-- a reader of no words
pub left_none : {A : Type 0} (read : List (List ℕ) → Result A FaultCause) → ((other : FaultCause) → read [] ≡ Err other → other ≡ causes.Words)
    → LeftReader 0 read
left_none {A} read none = record { blame = of }
  where
    of : (words : List (List ℕ)) (cause : FaultCause) → length words ≤ 0 → read words ≡ Err cause → Blame read words cause
    of [] cause few fault = count (none cause fault)
    of (word ∷ words) cause few fault = absurd (omega arith)
