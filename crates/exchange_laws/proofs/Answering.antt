-- The head of an answer that is handed on is one head by the grammar, and frames its body as the server's did, where its end shows.
use Rattle.std.proofs.Common.{◌+◌, ◌/◌, ◌%◌}
use Rattle.std.proofs.Common.{◌≡◌, ◌∙◌, ℕ, ◌^◌, ◌<◌, ◌==◌, ◌||◌, Bool, true, false, true≢false, cond, IsTrue, Option, Some, None, List, [], ◌∷◌, ◌++◌, length, map, codes, decimal, refl, sym, ap, arith, append_assoc, append-nil, subst}
use Rattle.std.specs.Prelude.{option_map}
use Rattle.std.specs.List.{flat_map, AllByRecursion}
use Rattle.std.specs.Str.{str_eq_ignore_ascii_case}
use Rattle.std.proofs.lemmas.Bool.Decides.{nat_tests}
use Rattle.std.proofs.lemmas.Fmt.{digits_decimal}
use Rattle.std.proofs.lemmas.Grind.{flat_map-append}
use Rattle.std.proofs.lemmas.List.{map-append}
use Rattle.std.proofs.lemmas.List.Elements.{All-from_recursion, recursion_from_All}
use Rattle.base_lists.proofs.Members.{all_append}
use Rattle.httparse.specs.Ascii.{crlf_bytes}
use Rattle.httparse.specs.Grammar.LineEnd.{crlf}
use Rattle.httparse.specs.Spans.{name_and_value}
use Rattle.proxy_words.specs.Parts.{parts}
use Rattle.http_bodies.specs.declared.framing.Framing.{Framing}
use Rattle.http_bodies.specs.declared.framing.Framing.TheVariants.{Empty, Length, Chunked, ToEnd}
use Rattle.http_texts.specs.Fields.{kept, is_kept, is_among, parts_of}
use Rattle.http_texts.specs.declared.persistence.Persistence.{Persistence}
use Rattle.req_view.specs.Request.{NamedValue, values_of}
use Rattle.req_view.specs.declared.version.Version.{Version}
use Rattle.req_view.specs.declared.version.Version.TheVariants.{Http10, Http11}
use Rattle.std.specs.Char.{is_ascii_digit, digit_value}
use Rattle.std.specs.Str.Parse.{AllDigits, digits_value}
use Rattle.httparse.specs.Grammar.{Field, IsField, ResponseHead, IsResponseHead, print_field, print_section, print_response, status_code, trim_ows}
use Rattle.http_texts.specs.Fields.{of_connection}
use Rattle.http_texts.specs.Framings.{by_fields, by_status, common, is_chunked, is_refused, bare, stating}
use Rattle.http_texts.specs.Messages.{IsFinal}
use Rattle.http_texts.specs.Persistences.{is_delimited}
use Rattle.http_texts.specs.Texts.{answer_lines, status_line, status_text, fields_text, end_text, stated}
use Rattle.http_texts.specs.declared.plans.Plan.{Plan}
use Rattle.req_view.specs.Answer.{Answer, answer_of}
use Rattle.std.specs.Str.{bytes_eq}
use Rattle.std.proofs.lemmas.Int.Digits.{digits_value-lt}
use Rattle.exchange_laws.specs.Alike.{AnswersAlike}
use Rattle.exchange_laws.proofs.Rereading.{sent_field, framing_fields, connection_fields, kept_text, framing_is, connection_is, stated_small, one_length, trims, one_part, own, none_kept, values_more, kept_good, framing_good, connection_good, last_codes, last_counts, any_at}

abbrev all_fields : Persistence → Answer → Framing → List Field
all_fields says a g = map sent_field (kept of_connection a.fields) ++ (framing_fields g ++ connection_fields says)

abbrev sent_answer : Persistence → Answer → Framing → ResponseHead
sent_answer says a g = record { blank = []; minor = 1; digits = status_text a.status; reason = Some a.reason; line_end = crlf; fields = all_fields says a g; last = crlf }

section_is : (says : Persistence) (a : Answer) (g : Framing)
    → print_section (all_fields says a g) crlf ≡ fields_text (kept of_connection a.fields) ++ end_text says g
section_is says a g =
    let k = kept of_connection a.fields in
    let f = framing_fields g in
    let c = connection_fields says in
    ap (λ l. l ++ crlf_bytes)
    (flat_map-append print_field (map sent_field k) (f ++ c) ∙ ap (λ l. flat_map print_field (map sent_field k) ++ l) (flat_map-append print_field f c))
    ∙ append_assoc (flat_map print_field (map sent_field k)) (flat_map print_field f ++ flat_map print_field c) crlf_bytes
    ∙ ap (λ l. flat_map print_field (map sent_field k) ++ l) (append_assoc (flat_map print_field f) (flat_map print_field c) crlf_bytes)
    ∙ (λ i. kept_text k i ++ (framing_is g i ++ connection_is says i))

text_same : (says : Persistence) (a : Answer) (g : Framing) → answer_lines a ++ end_text says g ≡ print_response (sent_answer says a g)
unfolding print_response
text_same says a g =
    let fields = fields_text (kept of_connection a.fields) in
    append_assoc (status_line a) fields (end_text says g) ∙ ap (λ l. status_line a ++ l) (sym (section_is says a g))

-- three digits
digit_is : (d : ℕ) → d < 10 → digit_value (48 + d) ≡ d
digit_is d small = grind (arith, nat_tests)

pub status_is : (s : ℕ) → s < 1000 → digits_value 10 (status_text s) ≡ s
status_is s small =
    let a = digit_is (s / 100) (omega arith) in
    let b = digit_is ((s / 10) % 10) (omega arith) in
    let c = digit_is (s % 10) (omega arith) in
    rw (a, b, c) (omega arith)

pub ascii : (d : ℕ) → d < 10 → IsTrue (is_ascii_digit (48 + d))
ascii d small = grind (arith, nat_tests)

-- the plan again
abbrev codings_for : Framing → List (List ℕ)
codings_for Empty = []
codings_for (Length count) = []
codings_for Chunked = codes "chunked" ∷ []
codings_for ToEnd = []

abbrev lengths_for : Framing → List (List ℕ)
lengths_for Empty = []
lengths_for (Length count) = decimal count ∷ []
lengths_for Chunked = []
lengths_for ToEnd = []

abbrev both : Framing → Plan
both f = record { body = f; stated = f }

abbrev Again : Bool → ℕ → Bool → Plan → Type 0
Again framed status to_head plan =
    is_delimited framed plan.body ≡ true
    → by_status status to_head Http11 (codings_for (stated framed plan.stated)) (lengths_for (stated framed plan.stated)) ≡ Some plan

some_same : {A : Type 0} (x y : A) → Some x ≡ Some y → x ≡ y
some_same x y e = cc

abbrev StatedGood : Framing → Type 0
StatedGood Empty = Unit {0}
StatedGood (Length count) = count < 10 ^ 18
StatedGood Chunked = Unit {0}
StatedGood ToEnd = Unit {0}

good_stated : (framed : Bool) (f : Framing) → StatedGood f → StatedGood (stated framed f)
good_stated framed Empty good = tt
good_stated framed (Length count) good = good
good_stated true Chunked good = tt
good_stated false Chunked good = tt
good_stated framed ToEnd good = tt

good_small : (f : Framing) → StatedGood f → (count : ℕ) → f ≡ Length count → count < 10 ^ 18
good_small f good count same = subst (λ (g : Framing). StatedGood g) same good

-- of a length that was stated without a body
stating_good : (lengths : List (List ℕ)) (plan : Plan) → stating lengths ≡ Some plan → StatedGood plan.stated
stating_good [] plan is = subst (λ (q : Plan). StatedGood q.stated) (some_same bare plan is) tt
stating_good (p ∷ m) plan is = go (common (p ∷ m)) refl is
  where
    go : (o : Option ℕ) → common (p ∷ m) ≡ o → option_map (λ count. record { body = Empty; stated = Length count }) o ≡ Some plan → StatedGood plan.stated
    go None e d = absurd cc
    go (Some c) e d = subst (λ (q : Plan). StatedGood q.stated) (some_same (record { body = Empty; stated = Length c }) plan d) (stated_small p m c e)

stating_again : (framed : Bool) (lengths : List (List ℕ)) (plan : Plan) → stating lengths ≡ Some plan
    → stating (lengths_for (stated framed plan.stated)) ≡ Some plan
stating_again framed [] plan is = subst (λ (q : Plan). stating (lengths_for (stated framed q.stated)) ≡ Some q) (some_same bare plan is) refl
stating_again framed (p ∷ m) plan is = go (common (p ∷ m)) refl is
  where
    go : (o : Option ℕ) → common (p ∷ m) ≡ o → option_map (λ count. record { body = Empty; stated = Length count }) o ≡ Some plan
        → stating (lengths_for (stated framed plan.stated)) ≡ Some plan
    go None e d = absurd cc
    go (Some c) e d =
        subst (λ (q : Plan). stating (lengths_for (stated framed q.stated)) ≡ Some q) (some_same (record { body = Empty; stated = Length c }) plan d)
        (ap (option_map (λ (count : ℕ). record { body = Empty; stated = Length count })) (one_length c (stated_small p m c e)))

-- of a body
abbrev FieldsGood : Framing → Type 0
FieldsGood Empty = ⊥
FieldsGood (Length count) = count < 10 ^ 18
FieldsGood Chunked = Unit {0}
FieldsGood ToEnd = Unit {0}

length_good : (o : Option ℕ) (f : Framing) → ((n : ℕ) → o ≡ Some n → n < 10 ^ 18) → option_map Length o ≡ Some f → FieldsGood f
length_good None f g is = absurd cc
length_good (Some n) f g is = subst (λ (q : Framing). FieldsGood q) (some_same (Length n) f is) (g n refl)

chunks_good : (b : Bool) (f : Framing) → cond b (Some Chunked) None ≡ Some f → FieldsGood f
chunks_good true f is = subst (λ (q : Framing). FieldsGood q) (some_same Chunked f is) tt
chunks_good false f is = absurd cc

end_good : (f : Framing) → Some ToEnd ≡ Some f → FieldsGood f
end_good f is = subst (λ (q : Framing). FieldsGood q) (some_same ToEnd f is) tt

fields_good : (version : Version) (codings lengths : List (List ℕ)) (f : Framing) → by_fields version ToEnd codings lengths ≡ Some f → FieldsGood f
fields_good Http10 [] [] f is = end_good f is
fields_good Http10 [] (p ∷ m) f is = length_good (common (p ∷ m)) f (λ n e. stated_small p m n e) is
fields_good Http10 (c ∷ cs) [] f is = absurd cc
fields_good Http10 (c ∷ cs) (p ∷ m) f is = absurd cc
fields_good Http11 [] [] f is = end_good f is
fields_good Http11 [] (p ∷ m) f is = length_good (common (p ∷ m)) f (λ n e. stated_small p m n e) is
fields_good Http11 (c ∷ []) [] f is = chunks_good (is_chunked c) f is
fields_good Http11 (c ∷ []) (p ∷ m) f is = absurd cc
fields_good Http11 (c ∷ d ∷ cs) [] f is = absurd cc
fields_good Http11 (c ∷ d ∷ cs) (p ∷ m) f is = absurd cc

good_both : (f : Framing) → FieldsGood f → StatedGood f
good_both Empty good = tt
good_both (Length count) good = good
good_both Chunked good = tt
good_both ToEnd good = tt

again_of : (framed : Bool) (f : Framing) → FieldsGood f → is_delimited framed f ≡ true
    → option_map both (by_fields Http11 ToEnd (codings_for (stated framed f)) (lengths_for (stated framed f))) ≡ Some (both f)
again_of framed Empty good shows = absurd good
again_of framed (Length count) good shows = ap (λ (o : Option ℕ). option_map both (option_map Length o)) (one_length count good)
again_of true Chunked good shows = refl
again_of false Chunked good shows = absurd (true≢false (sym shows))
again_of framed ToEnd good shows = absurd (true≢false (sym shows))

mapped : (o : Option Framing) (plan : Plan) (P : Plan → Type 0) → ((f : Framing) → o ≡ Some f → P (both f)) → option_map both o ≡ Some plan → P plan
mapped None plan P g is = absurd cc
mapped (Some f) plan P g is = subst P (some_same (both f) plan is) (g f refl)

-- by the status
chosen : (framed : Bool) (version : Version) (codings lengths : List (List ℕ)) (plan : Plan) (b t : Bool)
    → cond b (Some bare) (cond t (stating lengths) (option_map both (by_fields version ToEnd codings lengths))) ≡ Some plan
    → StatedGood plan.stated × (is_delimited framed plan.body ≡ true
    → cond b (Some bare) (cond t (stating (lengths_for (stated framed plan.stated)))
    (option_map both (by_fields Http11 ToEnd (codings_for (stated framed plan.stated)) (lengths_for (stated framed plan.stated))))) ≡ Some plan)
chosen framed version codings lengths plan true t is = (subst (λ (q : Plan). StatedGood q.stated) (some_same bare plan is) tt, λ shows. is)
chosen framed version codings lengths plan false true is = (stating_good lengths plan is, λ shows. stating_again framed lengths plan is)
chosen framed version codings lengths plan false false is = (
  mapped (by_fields version ToEnd codings lengths) plan (λ q. StatedGood q.stated) (λ f e. good_both f (fields_good version codings lengths f e)) is,
  λ shows. mapped (by_fields version ToEnd codings lengths) plan
      (λ q. is_delimited framed q.body ≡ true
      → option_map both (by_fields Http11 ToEnd (codings_for (stated framed q.stated)) (lengths_for (stated framed q.stated))) ≡ Some q)
      (λ f e. again_of framed f (fields_good version codings lengths f e)) is shows,
)

not_refused : (status : ℕ) (version : Version) (codings : List (List ℕ)) → is_refused status version codings ≡ false → (status == 101) ≡ false
not_refused status Http10 [] is = is
not_refused status Http10 (c ∷ cs) is = absurd (true≢false is)
not_refused status Http11 [] is = is
not_refused status Http11 (c ∷ cs) is = is

-- an answer's plan is by its status, unless it is refused
unrefused : (r : Bool) (o : Option Plan) (plan : Plan) → cond r None o ≡ Some plan → (r ≡ false) × (o ≡ Some plan)
unrefused true o plan is = absurd cc
unrefused false o plan is = (refl, is)

framing_codes : (g : Framing) → values_of (codes "Transfer-Encoding") (map name_and_value (framing_fields g)) ≡ codings_for g
unfolding trim_ows
framing_codes Empty = refl
framing_codes (Length count) = refl
framing_codes Chunked = refl
framing_codes ToEnd = refl

framing_counts : (g : Framing) → StatedGood g → flat_map parts (values_of (codes "Content-Length") (map name_and_value (framing_fields g))) ≡ lengths_for g
framing_counts Empty good = refl
framing_counts (Length count) good =
    let digits = digits_decimal own count (omega (arith, good)) in
    ap (λ l. parts l ++ []) (trims (decimal count) digits) ∙ ap (λ l. l ++ []) (one_part (decimal count) digits)
framing_counts Chunked good = refl
framing_counts ToEnd good = refl

coding_dropped : (n : List ℕ) → str_eq_ignore_ascii_case n (codes "Transfer-Encoding") ≡ true → is_among of_connection n ≡ true
coding_dropped n e =
    any_at (λ other. str_eq_ignore_ascii_case n other)
    (codes "Connection" ∷ codes "Keep-Alive" ∷ codes "Proxy-Connection" ∷ codes "Upgrade" ∷ codes "Trailer" ∷ [])
    (codes "Transfer-Encoding") (codes "Content-Length" ∷ []) e

length_dropped : (n : List ℕ) → str_eq_ignore_ascii_case n (codes "Content-Length") ≡ true → is_among of_connection n ≡ true
length_dropped n e =
    any_at (λ other. str_eq_ignore_ascii_case n other)
    (codes "Connection" ∷ codes "Keep-Alive" ∷ codes "Proxy-Connection" ∷ codes "Upgrade" ∷ codes "Trailer" ∷ codes "Transfer-Encoding" ∷ [])
    (codes "Content-Length") [] e

values_all : (name : List ℕ) (says : Persistence) (a : Answer) (g : Framing)
    → ((n : List ℕ) → str_eq_ignore_ascii_case n name ≡ true → is_among of_connection n ≡ true)
    → values_of name (map name_and_value (connection_fields says)) ≡ []
    → values_of name (map name_and_value (all_fields says a g)) ≡ values_of name (map name_and_value (framing_fields g))
values_all name says a g among last =
    let k = kept of_connection a.fields in
    let f = framing_fields g in
    let c = connection_fields says in
    ap (values_of name) (map-append name_and_value (map sent_field k) (f ++ c))
    ∙ values_more name (map name_and_value (map sent_field k)) (map name_and_value (f ++ c))
    ∙ ap (λ l. map (λ (v : NamedValue). v.1) l ++ values_of name (map name_and_value (f ++ c))) (none_kept of_connection a.fields name among a.fields)
    ∙ ap (values_of name) (map-append name_and_value f c)
    ∙ values_more name (map name_and_value f) (map name_and_value c)
    ∙ ap (λ l. values_of name (map name_and_value f) ++ l) last
    ∙ append-nil (values_of name (map name_and_value f))

number : (c : ℕ) → IsTrue (is_ascii_digit c) → digit_value c < 10
number c is = grind (arith, nat_tests)

numbers : (ds : List ℕ) → AllByRecursion (λ b. IsTrue (is_ascii_digit b)) ds → AllDigits 10 ds
numbers [] all = tt
numbers (c ∷ ds) all = (number c all.0, numbers ds all.1)

pub status_small : (h : ResponseHead) → IsResponseHead h → status_code h < 1000
status_small h is =
    let all = numbers h.digits (recursion_from_All (λ b. IsTrue (is_ascii_digit b)) h.digits is.digits.1) in
    let below : status_code h < 10 ^ length h.digits = digits_value-lt 10 h.digits all in
    let top : 10 ^ length h.digits ≡ 1000 = ap (λ n. 10 ^ n) is.digits.0 in
    omega (arith, below, top)

pub answers_alike : (says : Persistence) (framed : Bool) (method : List ℕ) (h : ResponseHead) (plan : Plan) → IsFinal method h plan
    → is_delimited framed plan.body ≡ true → AnswersAlike says framed method (answer_of h) plan
answers_alike says framed method h plan final shows =
    let a = answer_of h in
    let g = stated framed plan.stated in
    let is = final.head.reads.0 in
    let codings = values_of (codes "Transfer-Encoding") a.fields in
    let lengths = parts_of (codes "Content-Length") a.fields in
    let to_head = bytes_eq method (codes "HEAD") in
    let small = status_small h is in
    let same = status_is a.status small in
    let open_ = unrefused (is_refused a.status a.version codings) (by_status a.status to_head a.version codings lengths) plan final.planned in
    let interim = final.final in
    let kind = chosen framed a.version codings lengths plan (a.status == 204) (to_head || (a.status == 304)) (rw interim at open_.1) in
    let good = good_stated framed plan.stated kind.0 in
    let codes_are = values_all (codes "Transfer-Encoding") says a g coding_dropped (last_codes says) ∙ framing_codes g in
    let counts_are = ap (flat_map parts) (values_all (codes "Content-Length") says a g length_dropped (last_counts says)) ∙ framing_counts g good in
    let refused : (a.status == 101) ≡ false = not_refused a.status a.version codings open_.0 in
    let fields = all_append IsField (map sent_field (kept of_connection a.fields)) (framing_fields g ++ connection_fields says)
    (kept_good (λ v. is_kept of_connection a.fields v.0) h.fields (recursion_from_All IsField h.fields is.fields))
    (all_append IsField (framing_fields g) (connection_fields says) (framing_good g (good_small g good)) (connection_good says)) in
    record {
      head = sent_answer says a g;
      is = record {
        minor = omega arith;
        digits = (
          refl,
          All-from_recursion (λ b. IsTrue (is_ascii_digit b)) (status_text a.status)
              (ascii (a.status / 100) (omega (arith, small)), (ascii ((a.status / 10) % 10) (omega arith), (ascii (a.status % 10) (omega arith), tt))),
        );
        reason = is.reason;
        fields = All-from_recursion IsField (all_fields says a g) fields;
      };
      text_is = text_same says a g;
      status = same;
      planned =
          (λ i. cond (is_refused (same i) Http11 (codes_are i)) None (by_status (same i) to_head Http11 (codes_are i) (counts_are i)))
          ∙ rw (refused, interim) (kind.1 shows);
    }
