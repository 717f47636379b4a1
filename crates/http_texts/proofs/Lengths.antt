-- The parts of Content-Length are looked at one after the other.
use Rattle.std.proofs.Common.{◌≡◌, ◌∙◌, ℕ, ◌==◌, Bool, true, false, cond, List, [], ◌∷◌, ◌++◌, length, Option, Some, None, refl, sym, ap, arith}
use Rattle.std.specs.Prelude.{◌&&◌, option_map}
use Rattle.std.specs.List.{flat_map, list_all, slice_split}
use Rattle.std.proofs.lemmas.Bool.Decides.{nat_tests}
use Rattle.std.proofs.lemmas.List.{length-map}
use Rattle.std.proofs.lemmas.List.Folds.{list_all-append}
use Rattle.std.proofs.lemmas.List.Splits.{length-slice_split}
use Rattle.std.proofs.lemmas.Option.{cond_some}
use Rattle.base_lists.proofs.Options.{cond_none}
use Rattle.base_lists.proofs.Filtered.{list_all_flat_map}
use Rattle.proxy_words.specs.Numerals.{is_numeral, value_of, numeral}
use Rattle.proxy_words.specs.Parts.{parts, trimmed, is_comma}
use Rattle.http_bodies.specs.declared.framing.Framing.{Framing}
use Rattle.http_bodies.specs.declared.framing.Framing.TheVariants as Framed
use Rattle.http_texts.specs.Framings.{is_number, common, is_chunked, by_fields}
use Rattle.http_texts.specs.Summaries.{stated_coding, count_or_fault, stated_of, framing_of}
use Rattle.http_texts.specs.declared.framings.StatedCoding.TheVariants as Coded
use Rattle.http_texts.specs.declared.framings.Stated.{Stated}
use Rattle.http_texts.specs.declared.framings.Stated.TheVariants.{Absent, Count, Faulty}
use Rattle.req_view.specs.declared.version.Version.{Version}
use Rattle.req_view.specs.declared.version.Version.TheVariants.{Http10, Http11}

pub parts_some : (text : List ℕ) → parts text ≡ [] → ⊥
parts_some text none =
    omega (arith, ap length none, length-map (slice_split is_comma text) trimmed, length-slice_split is_comma text)

same_number : (n : ℕ) → (n == n) ≡ true
same_number n = grind (arith, nat_tests)

-- what a first part that isn't a number makes of all
pub first_faulty : (first : List ℕ) (rest : List (List ℕ)) (part : List ℕ) (more : List (List ℕ)) → parts first ≡ part ∷ more → numeral 18 part ≡ None
    → Faulty ≡ stated_of (flat_map parts (first ∷ rest))
first_faulty first rest part more e none =
    let no = cond_none (is_numeral 18 part) (value_of part) none in
    let tail = more ++ flat_map parts rest in
    let is : common (part ∷ tail) ≡ None = ap (λ b. cond (b && list_all (is_number (value_of part)) tail) (Some (value_of part)) None) no in
    sym (ap (λ l. stated_of (l ++ flat_map parts rest)) e ∙ ap count_or_fault is)

-- what all parts make, once the first is a number
all_parts : (first : List ℕ) (rest : List (List ℕ)) (part : List ℕ) (more : List (List ℕ)) (count : ℕ) → parts first ≡ part ∷ more
    → numeral 18 part ≡ Some count
    → stated_of (flat_map parts (first ∷ rest))
    ≡ count_or_fault (cond (list_all (is_number count) (parts first) && list_all (λ value. list_all (is_number count) (parts value)) rest) (Some count) None)
all_parts first rest part more count e number =
    let yes = cond_some (is_numeral 18 part) (value_of part) count number in
    let p = is_number count in
    let tail = more ++ flat_map parts rest in
    let own : p part ≡ true = (λ i. yes.0 i && (yes.1 i == count)) ∙ same_number count in
    let is : common (part ∷ tail) ≡ cond (list_all p tail) (Some count) None =
    λ i. cond (yes.0 i && list_all (is_number (yes.1 i)) tail) (Some (yes.1 i)) None in
    let rests : list_all p tail ≡ (list_all p more && list_all (λ value. list_all p (parts value)) rest) =
    list_all-append p more (flat_map parts rest) ∙ ap (λ b. list_all p more && b) (list_all_flat_map p parts rest) in
    let firsts : list_all p (parts first) ≡ list_all p more = ap (list_all p) e ∙ ap (λ b. b && list_all p more) own in
    ap (λ l. stated_of (l ++ flat_map parts rest)) e
    ∙ ap count_or_fault is
    ∙ ap (λ b. count_or_fault (cond b (Some count) None)) (rests ∙ ap (λ b. b && list_all (λ value. list_all p (parts value)) rest) (sym firsts))

pub not_all : (first : List ℕ) (rest : List (List ℕ)) (part : List ℕ) (more : List (List ℕ)) (count : ℕ) → parts first ≡ part ∷ more
    → numeral 18 part ≡ Some count
    → list_all (is_number count) (parts first) ≡ false → Faulty ≡ stated_of (flat_map parts (first ∷ rest))
not_all first rest part more count e number differs =
    sym (all_parts first rest part more count e number
    ∙ ap (λ b. count_or_fault (cond (b && list_all (λ value. list_all (is_number count) (parts value)) rest) (Some count) None)) differs)

pub by_rest : (first : List ℕ) (rest : List (List ℕ)) (part : List ℕ) (more : List (List ℕ)) (count : ℕ) (b : Bool) → parts first ≡ part ∷ more
    → numeral 18 part ≡ Some count
    → list_all (is_number count) (parts first) ≡ true → list_all (λ value. list_all (is_number count) (parts value)) rest ≡ b
    → count_or_fault (cond b (Some count) None) ≡ stated_of (flat_map parts (first ∷ rest))
by_rest first rest part more count b e number same others =
    sym (all_parts first rest part more count e number ∙ (λ i. count_or_fault (cond (same i && others i) (Some count) None)))

-- the short form of both says the same
coded : (unstated : Framing) (b : Bool) → framing_of Http11 unstated (cond b Coded.Chunked Coded.Other) Absent ≡ cond b (Some Framed.Chunked) None
coded unstated true = refl
coded unstated false = refl

coded_old : (unstated : Framing) (b : Bool) → framing_of Http10 unstated (cond b Coded.Chunked Coded.Other) Absent ≡ None
coded_old unstated true = refl
coded_old unstated false = refl

coded_too : (version : Version) (unstated : Framing) (b : Bool) (o : Option ℕ)
    → framing_of version unstated (cond b Coded.Chunked Coded.Other) (count_or_fault o) ≡ None
coded_too Http10 unstated true None = refl
coded_too Http10 unstated true (Some n) = refl
coded_too Http10 unstated false None = refl
coded_too Http10 unstated false (Some n) = refl
coded_too Http11 unstated true None = refl
coded_too Http11 unstated true (Some n) = refl
coded_too Http11 unstated false None = refl
coded_too Http11 unstated false (Some n) = refl

counted : (version : Version) (unstated : Framing) (o : Option ℕ) → framing_of version unstated Coded.Absent (count_or_fault o) ≡ option_map Framed.Length o
counted Http10 unstated None = refl
counted Http10 unstated (Some n) = refl
counted Http11 unstated None = refl
counted Http11 unstated (Some n) = refl

others : (version : Version) (unstated : Framing) (stated : Stated) → framing_of version unstated Coded.Other stated ≡ None
others Http10 unstated Absent = refl
others Http10 unstated (Count n) = refl
others Http10 unstated Faulty = refl
others Http11 unstated Absent = refl
others Http11 unstated (Count n) = refl
others Http11 unstated Faulty = refl

pub framing_same : (version : Version) (unstated : Framing) (transfer_codings lengths : List (List ℕ))
    → framing_of version unstated (stated_coding transfer_codings) (stated_of lengths) ≡ by_fields version unstated transfer_codings lengths
framing_same Http10 unstated [] [] = refl
framing_same Http11 unstated [] [] = refl
framing_same Http10 unstated [] (part ∷ more) = counted Http10 unstated (common (part ∷ more))
framing_same Http11 unstated [] (part ∷ more) = counted Http11 unstated (common (part ∷ more))
framing_same Http11 unstated (coding ∷ []) [] = coded unstated (is_chunked coding)
framing_same Http10 unstated (coding ∷ []) [] = coded_old unstated (is_chunked coding)
framing_same Http11 unstated (coding ∷ []) (part ∷ more) = coded_too Http11 unstated (is_chunked coding) (common (part ∷ more))
framing_same Http10 unstated (coding ∷ []) (part ∷ more) = coded_too Http10 unstated (is_chunked coding) (common (part ∷ more))
framing_same Http11 unstated (coding ∷ other ∷ transfer_codings) [] = others Http11 unstated (stated_of [])
framing_same Http10 unstated (coding ∷ other ∷ transfer_codings) [] = others Http10 unstated (stated_of [])
framing_same Http11 unstated (coding ∷ other ∷ transfer_codings) (part ∷ more) = others Http11 unstated (stated_of (part ∷ more))
framing_same Http10 unstated (coding ∷ other ∷ transfer_codings) (part ∷ more) = others Http10 unstated (stated_of (part ∷ more))
