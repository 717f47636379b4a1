-- A map that has each field's span under its name says which values a name has.
use Rattle.std.proofs.Common.{◌≡◌, ℕ, ◌+◌, ◌<◌, ◌≤◌, ◌∙◌, Bool, true, false, cond, List, [], ◌∷◌}
use Rattle.std.proofs.Common.{◌++◌, filter, length, take, map, get_or, refl, sym, ap, arith, append_assoc, length-append}
use Rattle.std.specs.List.{All, fold}
use Rattle.std.specs.Str.{bytes_eq}
use Rattle.std.proofs.Math.ListN.{get_or-map}
use Rattle.std.proofs.lemmas.List.{append-nil, take-map, length-map}
use Rattle.std.proofs.lemmas.List.Elements.{All-map, All-filter}
use Rattle.std.proofs.lemmas.List.Sums.{sum_by-cons, fold_more}
use Rattle.std.proofs.lemmas.Slice.Eq.{bytes_eq-Decides}
use Rattle.http_header.specs.HeaderMap.{Entries, get_all, append, append_all, value_count}
use Rattle.http_header.specs.Token.{lowercase}
use Rattle.http_header.proofs.HeaderMapLemmas.{get_all-append_same, get_all-append_other}
use Rattle.httparse.specs.declared.spans.Span.{Span}
use Rattle.httparse.specs.declared.spans.HeaderSpan.{HeaderSpan}
use Rattle.httparse.specs.Spans.{span_bytes, header_bytes, IsWithin, IsHeaderWithin}
use Rattle.req_view.specs.Request.{NamedValue, is_named, values_of}
use Rattle.req_view.specs.Spans.{named_span, index_of}

abbrev pub under : {X : Type 0} → List ℕ → List (List ℕ × X) → List X
under name items = map (λ p. p.1) (filter (λ p. bytes_eq p.0 name) items)

under-cons : {X : Type 0} (name : List ℕ) (item : List ℕ × X) (items : List (List ℕ × X)) (b : Bool) → bytes_eq item.0 name ≡ b
    → under name (item ∷ items) ≡ cond b (item.1 ∷ under name items) (under name items)
under-cons name item items true here =
    ap (λ t. map (λ p. p.1) (cond t (item ∷ filter (λ p. bytes_eq p.0 name) items) (filter (λ p. bytes_eq p.0 name) items))) here
under-cons name item items false here =
    ap (λ t. map (λ p. p.1) (cond t (item ∷ filter (λ p. bytes_eq p.0 name) items) (filter (λ p. bytes_eq p.0 name) items))) here

get_all-append : {X : Type 0} (m : Entries X) (name : List ℕ) (item : List ℕ × X) (items : List (List ℕ × X)) (b : Bool) → bytes_eq item.0 name ≡ b
    → get_all (append m item.0 item.1) name ++ under name items ≡ get_all m name ++ under name (item ∷ items)
get_all-append m name item items true here =
    let same : item.0 ≡ name = (bytes_eq-Decides item.0 name).0 here in
    ap (λ (n : List ℕ). get_all (append m n item.1) name ++ under name items) same
    ∙ ap (λ xs. xs ++ under name items) (get_all-append_same m name item.1)
    ∙ append_assoc (get_all m name) (item.1 ∷ []) (under name items)
    ∙ ap (λ xs. get_all m name ++ xs) (sym (under-cons name item items true here))
get_all-append m name item items false here =
    let other : (item.0 ≡ name → ⊥) = λ same. let passes = (bytes_eq-Decides item.0 name).1 same in cc in
    ap (λ xs. xs ++ under name items) (get_all-append_other m item.0 name item.1 other)
    ∙ ap (λ xs. get_all m name ++ xs) (sym (under-cons name item items false here))

pub get_all-append_all : {X : Type 0} (items : List (List ℕ × X)) (m : Entries X) (name : List ℕ)
    → get_all (append_all m items) name ≡ get_all m name ++ under name items
get_all-append_all [] m name = sym (append-nil (get_all m name))
get_all-append_all (item ∷ items) m name =
    get_all-append_all items (append m item.0 item.1) name ∙ get_all-append m name item items (bytes_eq item.0 name) refl

-- the spans under a name cover the values of the fields of that name
pub spans-values : (text : List ℕ) (name : List ℕ) (fields : List HeaderSpan)
    → map (span_bytes text) (under (lowercase name) (map (named_span text) fields)) ≡ values_of name (map (header_bytes text) fields)
spans-values text name [] = refl
spans-values text name (field ∷ fields) =
    one_more (is_named name (header_bytes text field)) (spans-values text name fields)
  where
    one_more : (b : Bool)
        → map (span_bytes text) (under (lowercase name) (map (named_span text) fields)) ≡ values_of name (map (header_bytes text) fields)
        → map (span_bytes text) (map (λ (p : List ℕ × Span). p.1)
        (cond b (named_span text field ∷ filter (λ p. bytes_eq p.0 (lowercase name)) (map (named_span text) fields))
        (filter (λ p. bytes_eq p.0 (lowercase name)) (map (named_span text) fields))))
        ≡ map (λ (f : NamedValue). f.1) (cond b (header_bytes text field ∷ filter (is_named name) (map (header_bytes text) fields))
        (filter (is_named name) (map (header_bytes text) fields)))
    one_more true rest = ap (λ values. span_bytes text field.value ∷ values) rest
    one_more false rest = rest

pub spans-within : (n : ℕ) (text : List ℕ) (name : List ℕ) (fields : List HeaderSpan) → All (IsHeaderWithin n) fields
    → All (IsWithin n) (under (lowercase name) (map (named_span text) fields))
spans-within n text name fields within =
    All-map (IsWithin n) (λ (p : List ℕ × Span). p.1) (filter (λ p. bytes_eq p.0 (lowercase name)) (map (named_span text) fields))
    (All-filter (λ p. bytes_eq p.0 (lowercase name)) (λ (p : List ℕ × Span). IsWithin n p.1) (map (named_span text) fields)
    (All-map (λ (p : List ℕ × Span). IsWithin n p.1) (named_span text) fields (λ k d below. (within k d below).1)))

names_more : {X : Type 0} (e : List ℕ × List X) (m : Entries X) (name : List ℕ) (value : X) (b : Bool) → length (append m name value) ≤ length m + 1
    → length (cond b ((e.0, e.1 ++ value ∷ []) ∷ m) (e ∷ append m name value)) ≤ length (e ∷ m) + 1
names_more e m name value true rest = omega arith
names_more e m name value false rest = omega arith

-- a value adds one name at most
pub names-append : {X : Type 0} (m : Entries X) (name : List ℕ) (value : X) → length (append m name value) ≤ length m + 1
names-append [] name value = omega arith
names-append (e ∷ m) name value = names_more e m name value (bytes_eq e.0 name) (names-append m name value)

count_more : {X : Type 0} (e : List ℕ × List X) (m : Entries X) (name : List ℕ) (value : X) (b : Bool) → value_count (append m name value) ≡ value_count m + 1
    → value_count (cond b ((e.0, e.1 ++ value ∷ []) ∷ m) (e ∷ append m name value)) ≡ value_count (e ∷ m) + 1
count_more {X} e m name value true rest =
    let f : List ℕ × List X → ℕ = λ entry. length entry.1 in
    omega (arith, sum_by-cons f (e.0, e.1 ++ value ∷ []) m, sum_by-cons f e m, length-append e.1 (value ∷ []))
count_more {X} e m name value false rest =
    let f : List ℕ × List X → ℕ = λ entry. length entry.1 in
    omega (arith, sum_by-cons f e (append m name value), sum_by-cons f e m)

-- and one value
pub count-append : {X : Type 0} (m : Entries X) (name : List ℕ) (value : X) → value_count (append m name value) ≡ value_count m + 1
count-append [] name value = refl
count-append (e ∷ m) name value = count_more e m name value (bytes_eq e.0 name) (count-append m name value)

-- one field more
pub index_of-more : (text : List ℕ) (fields : List HeaderSpan) (i : ℕ) (d : HeaderSpan) → i < length fields
    → index_of text (take (i + 1) fields) ≡ append (index_of text (take i fields)) (named_span text (get_or fields i d)).0 (get_or fields i d).value
index_of-more text fields i d below =
    let items = map (named_span text) fields in
    let add : Entries Span → List ℕ × Span → Entries Span = λ m item. append m item.0 item.1 in
    ap (fold add []) (sym (take-map (named_span text) (i + 1) fields))
    ∙ fold_more add [] items i (named_span text d) (omega (arith, length-map fields (named_span text)))
    ∙ (λ k. add (fold add [] (take-map (named_span text) i fields k)) (get_or-map (named_span text) fields i d k))
