-- Derivatives one after the other, of single bytes and of data.
use Rattle.std.proofs.Common.{◌≡◌, ◌∙◌, ℕ, ◌+◌, ◌-◌, ◌<◌, ◌≤◌, ◌==◌, Bool, false, List, [], ◌∷◌, ◌++◌, length, take, drop, refl, sym, ap, arith, append_assoc, append-nil, length-append, subst}
use Rattle.std.proofs.Math.Seq.{take-append-add, drop-append-add}
use Rattle.std.proofs.Math.Seq.{take-add}
use Rattle.std.proofs.lemmas.Bool.Decides.{nat_tests}
use Rattle.http_bodies.specs.Parts.{next, told, is_over}
use Rattle.http_bodies.specs.Readings.{reading, behind, read, read_parts, Feeds, Hands}
use Rattle.http_bodies.specs.declared.coding.Coding.{Coding}
use Rattle.http_bodies.specs.declared.coding.Coding.TheVariants.{Length, Chunked}
use Rattle.http_bodies.specs.declared.coding.Part.{Part}
use Rattle.http_bodies.specs.declared.coding.Part.TheVariants.{Digits, Blank, Extension, Return, Data, DataReturn, Trailers, Done, Bad}

pub feeds_nil : (c : Coding) → Feeds c c [] []
feeds_nil c = record { goes_on = λ more. refl }

pub feeds_trans : {a b c : Coding} {x y g h : List ℕ} → Feeds a b x g → Feeds b c y h → Feeds a c (x ++ y) (g ++ h)
feeds_trans {a} {b} {c} {x} {y} {g} {h} p q = record {
  goes_on = λ more.
      ap (read a) (append_assoc x y more) ∙ p.goes_on (y ++ more) ∙ ap (behind g) (q.goes_on more)
      ∙ (λ i. reading (sym (append_assoc g h (read c more).text) i) (read c more).rest (read c more).coding);
}

pub feeds_as : {a b : Coding} {x y g h : List ℕ} → x ≡ y → g ≡ h → Feeds a b x g → Feeds a b y h
feeds_as {a} {b} {x} {y} {g} {h} e f p = record {
  goes_on = λ more. ap (λ l. read a (l ++ more)) (sym e) ∙ p.goes_on more ∙ ap (λ l. behind l (read b more)) f;
}

-- a body of this many bytes
pub feeds_length : (left : ℕ) (x : List ℕ) → length x ≤ left → Feeds (Length left) (Length (left - length x)) x x
feeds_length left x few = record {
  goes_on = λ more.
      let sum : left ≡ length x + (left - length x) = omega arith in
      let first = ap (λ n. take n (x ++ more)) sum ∙ take-append-add x more (left - length x) in
      let later = ap (λ n. drop n (x ++ more)) sum ∙ drop-append-add x more (left - length x) in
      let fewer : left - length (x ++ more) ≡ (left - length x) - length more = omega (arith, length-append x more) in
      λ i. reading (first i) (later i) (Length (fewer i));
}

-- one byte of a body in chunks
pub feeds_byte : (framed : Bool) (part : Part) (b : ℕ) → is_over part ≡ false
    → Feeds (Chunked framed part) (Chunked framed (next part b)) (b ∷ []) (told framed part b)
feeds_byte framed (Digits count size) b going = record { goes_on = λ more. refl }
feeds_byte framed (Blank count size) b going = record { goes_on = λ more. refl }
feeds_byte framed (Extension count size) b going = record { goes_on = λ more. refl }
feeds_byte framed (Return size) b going = record { goes_on = λ more. refl }
feeds_byte framed (Data left) b going = record { goes_on = λ more. refl }
feeds_byte framed DataReturn b going = record { goes_on = λ more. refl }
feeds_byte framed (Trailers left line) b going = record { goes_on = λ more. refl }
feeds_byte framed Done b going = absurd cc
feeds_byte framed Bad b going = absurd cc

is_some : (n : ℕ) → 0 < n → (n == 0) ≡ false
is_some n some = grind (arith, nat_tests)

data_byte : (framed : Bool) (left b : ℕ) → 0 < left → Feeds (Chunked framed (Data left)) (Chunked framed (Data (left - 1))) (b ∷ []) (b ∷ [])
data_byte framed left b some =
    let e = is_some left some in
    record { goes_on = λ more. rw e refl }

-- data of a chunk
pub feeds_data : (framed : Bool) (left : ℕ) (x : List ℕ) → length x ≤ left → Feeds (Chunked framed (Data left)) (Chunked framed (Data (left - length x))) x x
feeds_data framed left [] few =
    let same : left ≡ left - 0 = omega arith in
    subst (λ (n : ℕ). Feeds (Chunked framed (Data left)) (Chunked framed (Data n)) [] []) same (feeds_nil (Chunked framed (Data left)))
feeds_data framed left (b ∷ x) few =
    let fewer : (left - 1) - length x ≡ left - length (b ∷ x) = omega arith in
    subst (λ (n : ℕ). Feeds (Chunked framed (Data left)) (Chunked framed (Data n)) (b ∷ x) (b ∷ x)) fewer
    (feeds_trans (data_byte framed left b (omega (arith, few))) (feeds_data framed (left - 1) x (omega (arith, few))))

-- the first items of the rest
pub feeds_on : {a b c : Coding} {g h : List ℕ} (input : List ℕ) (n m : ℕ) → Feeds a b (take n input) g → Feeds b c (take m (drop n input)) h
    → Feeds a c (take (n + m) input) (g ++ h)
feeds_on {a} {c = c} {g} {h} input n m p q = feeds_as (sym (take-add n m input)) refl (feeds_trans p q)

pub hands_nil : (c : Coding) (waiting : List ℕ) → Hands c c [] waiting waiting
hands_nil c waiting = record { given = []; waits = sym (append-nil waiting); feeds = feeds_nil c }

pub hands_on : {a b c : Coding} {p q r : List ℕ} (input : List ℕ) (n m : ℕ) → Hands a b (take n input) p q → Hands b c (take m (drop n input)) q r
    → Hands a c (take (n + m) input) p r
hands_on {a} {b} {c} {p} {q} {r} input n m x y = record {
  given = x.given ++ y.given;
  waits = y.waits ∙ ap (λ l. l ++ y.given) x.waits ∙ append_assoc p x.given y.given;
  feeds = feeds_on input n m x.feeds y.feeds;
}

-- a byte by what the state makes of it
pub feeds_next : (framed : Bool) (part : Part) (b : ℕ) {q : Part} {g : List ℕ} → is_over part ≡ false → next part b ≡ q → told framed part b ≡ g
    → Feeds (Chunked framed part) (Chunked framed q) (b ∷ []) g
feeds_next framed part b {q} {g} going e f =
    subst (λ (t : List ℕ). Feeds (Chunked framed part) (Chunked framed q) (b ∷ []) t) f
    (subst (λ (p : Part). Feeds (Chunked framed part) (Chunked framed p) (b ∷ []) (told framed part b)) e (feeds_byte framed part b going))

-- the state behind one byte more; where it is over it stays
pub next_reads : (framed : Bool) (part : Part) (b : ℕ) (input : List ℕ)
    → (read_parts framed (next part b) input).coding ≡ (read_parts framed part (b ∷ input)).coding
next_reads framed (Digits count size) b input = refl
next_reads framed (Blank count size) b input = refl
next_reads framed (Extension count size) b input = refl
next_reads framed (Return size) b input = refl
next_reads framed (Data left) b input = refl
next_reads framed DataReturn b input = refl
next_reads framed (Trailers left line) b input = refl
next_reads framed Done b [] = refl
next_reads framed Done b (c ∷ input) = refl
next_reads framed Bad b [] = refl
next_reads framed Bad b (c ∷ input) = refl
