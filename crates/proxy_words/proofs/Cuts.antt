-- How a text is cut into its first line or word and the rest.
use Rattle.std.proofs.Common.{◌≡◌, ℕ, zero, suc, ◌+◌, ◌<◌, ◌≤◌, ◌∙◌, Bool, true, false, cond, Some, None, List}
use Rattle.std.proofs.Common.{[], ◌∷◌, length, take, drop, get_or, filter, position, ◌==◌, not, refl, ap, subst, arith}
use Rattle.std.specs.List.{slice_split, onto_first, position_or_len}
use Rattle.std.specs.Str.Lines.{lines, lines_of_parts, strip_carriage_return}
use Rattle.std.proofs.lemmas.List.Splits.{slice_split_first, slice_split_none, slice_split-cons_yes, slice_split-cons_no, length-slice_split}
use Rattle.std.proofs.lemmas.List.Sums.{fails_before_first}
use Rattle.std.proofs.lemmas.List.Quantifiers.{position-Some}
use Rattle.std.proofs.lemmas.Option.{cond_some}
use Rattle.std.proofs.lemmas.Bool.Decides.{nat_tests}
use Rattle.std.proofs.lemmas.List.{length-take}
use borrow.Author.Tests.{ltb-true, ltb-false}
use Rattle.base_lists.proofs.Options.{cond_none}
use Rattle.proxy_words.specs.Text.{is_line_feed, is_blank, is_filled, words}

-- up to the first element that passes there is one part
pub slice_split-first : (p : ℕ → Bool) (xs : List ℕ) (n : ℕ) → position p xs ≡ Some n → slice_split p xs ≡ take n xs ∷ slice_split p (drop (n + 1) xs)
slice_split-first p xs n at =
    let found = cond_some _ _ _ at in
    subst (λ (m : ℕ). slice_split p xs ≡ take m xs ∷ slice_split p (drop (m + 1) xs)) found.1
    (slice_split_first p xs 0 (ltb-true _ _ found.0))

-- where none passes there is one part
pub slice_split-whole : (p : ℕ → Bool) (xs : List ℕ) → position p xs ≡ None → slice_split p xs ≡ xs ∷ []
slice_split-whole p xs at =
    let past : length xs ≤ position_or_len p xs = ltb-false _ _ (cond_none _ _ at) in
    slice_split_none p xs (λ k d below. fails_before_first p xs k d (omega arith))

-- a part that others follow is a line
lines_of_parts-cons : (part : List ℕ) (parts : List (List ℕ)) → 0 < length parts
    → lines_of_parts (part ∷ parts) ≡ strip_carriage_return part ∷ lines_of_parts parts
lines_of_parts-cons part [] some = absurd (omega arith)
lines_of_parts-cons part (next ∷ parts) some = refl

pub lines-first : (text : List ℕ) (n : ℕ) → position is_line_feed text ≡ Some n → lines text ≡ strip_carriage_return (take n text) ∷ lines (drop (n + 1) text)
lines-first text n at =
    let some : 0 < length (slice_split is_line_feed (drop (n + 1) text)) = omega (arith, length-slice_split is_line_feed (drop (n + 1) text)) in
    ap lines_of_parts (slice_split-first is_line_feed text n at) ∙ lines_of_parts-cons _ _ some

some_length : (n : ℕ) → 0 < n → (n == 0) ≡ false
some_length n some = grind (arith, nat_tests)

pub lines-last : (text : List ℕ) → (length text == 0) ≡ false → position is_line_feed text ≡ None → lines text ≡ text ∷ []
lines-last text some at =
    ap lines_of_parts (slice_split-whole is_line_feed text at) ∙ ap (λ b. cond b [] (text ∷ [])) some

one_part : (b : Bool) (part : List ℕ) → length (cond b [] (part ∷ [])) ≤ 1
one_part true part = omega arith
one_part false part = omega arith

-- a byte before the first part makes one line more at most
length-lines-onto : (byte : ℕ) (parts : List (List ℕ)) → length (lines_of_parts (onto_first byte parts)) ≤ length (lines_of_parts parts) + 1
length-lines-onto byte [] = one_part (length (byte ∷ []) == 0) (byte ∷ [])
length-lines-onto byte (part ∷ []) = omega (arith, one_part (length (byte ∷ part) == 0) (byte ∷ part))
length-lines-onto byte (part ∷ next ∷ parts) = omega arith

length-lines-cons : (byte : ℕ) (text : List ℕ) (b : Bool) → is_line_feed byte ≡ b → length (lines (byte ∷ text)) ≤ length (lines text) + 1
length-lines-cons byte text true feed =
    let some : 0 < length (slice_split is_line_feed text) = omega (arith, length-slice_split is_line_feed text) in
    omega (arith, ap (λ parts. length (lines_of_parts parts)) (slice_split-cons_yes is_line_feed byte text feed), ap length (lines_of_parts-cons [] _ some))
length-lines-cons byte text false feed =
    omega (
      arith,
      ap (λ parts. length (lines_of_parts parts)) (slice_split-cons_no is_line_feed byte text feed),
      length-lines-onto byte (slice_split is_line_feed text),
    )

-- each line has a byte of its own, if only its line feed
pub length-lines : (text : List ℕ) → length (lines text) ≤ length text
length-lines [] = omega arith
length-lines (byte ∷ text) = omega (arith, length-lines text, length-lines-cons byte text (is_line_feed byte) refl)

is_filled_of : (word : List ℕ) → 0 < length word → is_filled word ≡ true
is_filled_of word some = ap not (some_length (length word) some)

past_first : (p : ℕ → Bool) (line : List ℕ) (n : ℕ) → p (get_or line n 0) ≡ true → p (get_or line 0 0) ≡ false → 0 < n
past_first p line zero here first = cc
past_first p line (suc n) here first = omega arith

-- a line that begins with a byte of a word begins with that word
pub words-first : (line : List ℕ) (n : ℕ) → (0 < length line → is_blank (get_or line 0 0) ≡ false) → position is_blank line ≡ Some n
    → words line ≡ take n line ∷ words (drop (n + 1) line)
words-first line n starts at =
    let found = position-Some is_blank line n 0 at in
    let later : 0 < n = past_first is_blank line n found.1 (starts (omega arith)) in
    ap (filter is_filled) (slice_split-first is_blank line n at)
    ∙ ap (λ b. cond b (take n line ∷ words (drop (n + 1) line)) (words (drop (n + 1) line))) (is_filled_of (take n line) (omega (arith, length-take n line)))

pub words-last : (line : List ℕ) → (length line == 0) ≡ false → position is_blank line ≡ None → words line ≡ line ∷ []
words-last line some at =
    ap (filter is_filled) (slice_split-whole is_blank line at) ∙ ap (λ b. cond (not b) (line ∷ []) []) some

-- a blank at the front changes no word
pub words-blank : (byte : ℕ) (line : List ℕ) → is_blank byte ≡ true → words (byte ∷ line) ≡ words line
words-blank byte line blank = ap (filter is_filled) (slice_split-cons_yes is_blank byte line blank)
