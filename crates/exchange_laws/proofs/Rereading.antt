-- The head of a request that is handed on is one head by the grammar, and frames its body as the client's did.
use Rattle.std.proofs.Common.{◌≡◌, ◌≢◌, ◌∙◌, ℕ, ◌^◌, ◌<◌, ◌≤◌, ◌==◌, ◌&&◌, ◌||◌, not, Bool, true, false, true≢false, cond, IsTrue, Option, Some, None, List, [], ◌∷◌, ◌++◌, length, map, filter, reverse, codes, decimal, refl, sym, ap, arith, append_assoc, append-nil, subst}
use Rattle.std.specs.Prelude.{option_map, nat_le}
use Rattle.std.specs.List.{flat_map, list_all, list_any, AllByRecursion}
use Rattle.std.specs.Net.Text.{ip_text}
use Rattle.std.specs.Str.{str_eq_ignore_ascii_case}
use Rattle.std.specs.declared.net.ip_addr.IpAddr.{IpAddr}
use Rattle.std.proofs.lemmas.Bool.Decides.{nat_tests}
use Rattle.std.proofs.lemmas.Fmt.{digits_decimal, digits_value-decimal, decimal_nonempty, length-decimal-le}
use Rattle.std.proofs.lemmas.Grind.{flat_map-append}
use Rattle.std.proofs.lemmas.List.{map-append, reverse-append, reverse-reverse}
use Rattle.std.proofs.lemmas.List.Elements.{All-cons, All-nil, All-from_recursion, recursion_from_All, filter-append}
use Rattle.std.proofs.lemmas.Str.Parse.{IsNumeralModel, IsDigitsTest, WeighsDigits, numerals_by_weight}
use Rattle.base_lists.proofs.Members.{all_append, all_weaker}
use Rattle.std.proofs.lemmas.Bool.{ne_eqb, le-leb}
use Rattle.std.proofs.lemmas.List.Splits.{slice_split_none}
use Rattle.httparse.specs.Ascii.{crlf_bytes, space}
use Rattle.httparse.specs.Grammar.{AllPass, Field, IsField, RequestHead, is_ows, is_token_byte, is_value_byte, skip_ows, trim_ows, print_field, print_section, print_request}
use Rattle.httparse.specs.Grammar.LineEnd.{crlf}
use Rattle.httparse.specs.Spans.{name_and_value}
use Rattle.httparse.proofs.TrimLemmas.{AllPass-trim_ows, trim_ows_space}
use Rattle.proxy_words.specs.Numerals.{is_digit, value_of, is_numeral}
use Rattle.proxy_words.specs.Parts.{is_comma, after_blanks, trimmed, parts}
use Rattle.proxy_words.specs.Text.{is_blank}
use Rattle.proxy_words.proofs.Limits.{numeral_small}
use Rattle.http_bodies.specs.declared.framing.Framing.{Framing}
use Rattle.http_bodies.specs.declared.framing.Framing.TheVariants.{Empty, Length, Chunked, ToEnd}
use Rattle.http_texts.specs.Fields.{kept, is_kept, is_among, of_request, parts_of}
use Rattle.http_texts.specs.Framings.{request_framing, by_fields, common, is_number, is_chunked}
use Rattle.http_texts.specs.Heads.{IsRequest}
use Rattle.http_texts.specs.Texts.{request_text, field_text, fields_text, framing_text, host_text, client_text, connection_text, end_text}
use Rattle.http_texts.specs.declared.additions.Additions.{Additions}
use Rattle.http_texts.specs.declared.persistence.Persistence.{Persistence}
use Rattle.http_texts.specs.declared.persistence.Persistence.TheVariants.{Close, Persist, KeepAlive}
use Rattle.req_view.specs.Request.{NamedValue, Request, request_of, values_of, is_named}
use Rattle.req_view.specs.declared.version.Version.{Version}
use Rattle.req_view.specs.declared.version.Version.TheVariants.{Http10, Http11}
use Rattle.exchange_laws.specs.Alike.{IsNamed, ReadsAlike, names_of}
use Rattle.exchange_laws.proofs.Naming.{IsPlain, plain_address, plain_trims, trims_once}
use Rattle.exchange_laws.proofs.MessageReading.{framed_by_itself}

abbrev pub sent_field : NamedValue → Field
sent_field v = record { name = v.0; raw = space ∷ v.1; end = crlf }

abbrev host_fields : Bool → List Field
host_fields true = []
host_fields false = record { name = codes "Host"; raw = []; end = crlf } ∷ []

abbrev pub framing_fields : Framing → List Field
framing_fields Empty = []
framing_fields (Length count) = sent_field (codes "Content-Length", decimal count) ∷ []
framing_fields Chunked = sent_field (codes "Transfer-Encoding", codes "chunked") ∷ []
framing_fields ToEnd = []

abbrev pub connection_fields : Persistence → List Field
connection_fields Close = sent_field (codes "Connection", codes "close") ∷ []
connection_fields Persist = []
connection_fields KeepAlive = sent_field (codes "Connection", codes "keep-alive") ∷ []

abbrev has_host : List NamedValue → Bool
has_host fields = list_any (is_named (codes "Host")) fields

abbrev client_fields : Option IpAddr → List Field
client_fields None = []
client_fields (Some address) = sent_field (codes "X-Forwarded-For", ip_text address) ∷ []

-- those of the proxy's own
abbrev own_fields : Additions → Request → Framing → List Field
own_fields adds r f = host_fields (has_host (kept of_request r.fields)) ++ (client_fields adds.client ++ (framing_fields f ++ connection_fields adds.asks))

abbrev all_fields : Additions → Request → Framing → List Field
all_fields adds r f = map sent_field (kept of_request r.fields) ++ own_fields adds r f

abbrev sent_head : Additions → Request → Framing → RequestHead
sent_head adds r f = record { blank = []; method = r.method; target = r.target; minor = 1; line_end = crlf; fields = all_fields adds r f; last = crlf }

-- the text
line_is : (v : NamedValue) → print_field (sent_field v) ≡ field_text v
line_is v = append_assoc v.0 (58 ∷ 32 ∷ v.1) crlf_bytes

pub kept_text : (fields : List NamedValue) → flat_map print_field (map sent_field fields) ≡ fields_text fields
kept_text [] = refl
kept_text (v ∷ fields) = λ i. line_is v i ++ kept_text fields i

host_is : (some : Bool) → flat_map print_field (host_fields some) ≡ cond some [] (codes "Host:\r\n")
host_is true = refl
host_is false = refl

pub framing_is : (f : Framing) → flat_map print_field (framing_fields f) ≡ framing_text f
framing_is Empty = refl
framing_is (Length count) = append-nil (print_field (sent_field (codes "Content-Length", decimal count)))
framing_is Chunked = refl
framing_is ToEnd = refl

pub connection_is : (asks : Persistence) → flat_map print_field (connection_fields asks) ++ crlf_bytes ≡ connection_text asks
connection_is Close = refl
connection_is Persist = refl
connection_is KeepAlive = refl

client_is : (client : Option IpAddr) → flat_map print_field (client_fields client) ≡ client_text client
client_is None = refl
client_is (Some address) =
    append-nil (print_field (sent_field (codes "X-Forwarded-For", ip_text address))) ∙ line_is (codes "X-Forwarded-For", ip_text address)

-- some fields, and a section behind them
behind : (xs ys : List Field) (text : List ℕ) → print_section ys crlf ≡ text → print_section (xs ++ ys) crlf ≡ flat_map print_field xs ++ text
behind xs ys text e =
    ap (λ l. l ++ crlf_bytes) (flat_map-append print_field xs ys) ∙ append_assoc (flat_map print_field xs) (flat_map print_field ys) crlf_bytes
    ∙ ap (λ l. flat_map print_field xs ++ l) e

section_is : (adds : Additions) (r : Request) (f : Framing) → print_section (all_fields adds r f) crlf
    ≡ fields_text (kept of_request r.fields) ++ (host_text (kept of_request r.fields) ++ (client_text adds.client ++ end_text adds.asks f))
section_is adds r f =
    let k = kept of_request r.fields in
    let h = host_fields (has_host k) in
    let n = client_fields adds.client in
    let g = framing_fields f in
    let c = connection_fields adds.asks in
    behind (map sent_field k) (h ++ (n ++ (g ++ c))) _ (behind h (n ++ (g ++ c)) _ (behind n (g ++ c) _ (behind g c _ (connection_is adds.asks))))
    ∙ (λ i. kept_text k i ++ (host_is (has_host k) i ++ (client_is adds.client i ++ (framing_is f i ++ connection_text adds.asks))))

pub text_same : (adds : Additions) (r : Request) (f : Framing) → request_text adds r f ≡ print_request (sent_head adds r f)
unfolding print_request
text_same adds r f =
    let rest = fields_text (kept of_request r.fields)
    ++ (host_text (kept of_request r.fields) ++ (client_text adds.client ++ end_text adds.asks f)) in
    let section = print_section (all_fields adds r f) crlf in
    let version = codes " HTTP/1.1" in
    append_assoc r.method (space ∷ (r.target ++ codes " HTTP/1.1\r\n")) rest
    ∙ ap (λ l. r.method ++ (space ∷ l)) (append_assoc r.target (codes " HTTP/1.1\r\n") rest)
    ∙ ap (λ l. r.method ++ (space ∷ (r.target ++ (codes " HTTP/1.1\r\n" ++ l)))) (sym (section_is adds r f))
    ∙ sym (append_assoc ((r.method ++ (space ∷ r.target)) ++ version) crlf_bytes section
    ∙ append_assoc (r.method ++ (space ∷ r.target)) version (crlf_bytes ++ section)
    ∙ append_assoc r.method (space ∷ r.target) (version ++ (crlf_bytes ++ section)))

-- digits
abbrev pub IsDigit : ℕ → Type 0
IsDigit b = is_digit b ≡ true

both_true : (a b : Bool) → (a && b) ≡ true → (a ≡ true) × (b ≡ true)
both_true true true e = (refl, refl)
both_true true false e = absurd (true≢false (sym e))
both_true false b e = absurd (true≢false (sym e))

in_range : (c : ℕ) → is_digit c ≡ true → (48 ≤ c) × (c ≤ 57)
in_range c is = grind (arith, nat_tests)

from_range : (c : ℕ) → (48 ≤ c) × (c ≤ 57) → is_digit c ≡ true
from_range c is = grind (arith, nat_tests)

tells : IsDigitsTest (AllByRecursion IsDigit)
tells = record { empty = tt; parts = λ c cs e. (in_range c e.0, e.1); more = λ c cs k e. (from_range c k, e) }

weighs : WeighsDigits value_of
weighs = record { empty = refl; more = λ c cs k. refl }

pub own : IsNumeralModel (AllByRecursion IsDigit) value_of
own = numerals_by_weight (AllByRecursion IsDigit) tells value_of weighs

no_space : (c : ℕ) → is_digit c ≡ true → is_ows c ≡ false
no_space c is = grind (arith, nat_tests)

no_blank : (c : ℕ) → is_digit c ≡ true → is_blank c ≡ false
no_blank c is = grind (arith, nat_tests)

no_comma : (c : ℕ) → is_digit c ≡ true → is_comma c ≡ false
no_comma c is = grind (arith, nat_tests)

value_byte : (c : ℕ) → is_digit c ≡ true → IsTrue (is_value_byte c)
value_byte c is = grind (arith, nat_tests)

skip_digits : (ds : List ℕ) → AllByRecursion IsDigit ds → skip_ows ds ≡ ds
skip_digits [] all = refl
skip_digits (c ∷ ds) all = let e = no_space c all.0 in rw e refl

after_digits : (ds : List ℕ) → AllByRecursion IsDigit ds → after_blanks ds ≡ ds
after_digits [] all = refl
after_digits (c ∷ ds) all = let e = no_blank c all.0 in rw e refl

reverse_digits : (ds : List ℕ) → AllByRecursion IsDigit ds → AllByRecursion IsDigit (reverse ds)
reverse_digits [] all = all
reverse_digits (c ∷ ds) all =
    subst (AllByRecursion IsDigit) (sym (reverse-append (c ∷ []) ds)) (all_append IsDigit (reverse ds) (c ∷ []) (reverse_digits ds all.1) (all.0, tt))

pub trims : (ds : List ℕ) → AllByRecursion IsDigit ds → trim_ows (32 ∷ ds) ≡ ds
trims ds all = trim_ows_space ds (skip_digits ds all) (skip_digits (reverse ds) (reverse_digits ds all))

trims_part : (ds : List ℕ) → AllByRecursion IsDigit ds → trimmed ds ≡ ds
trims_part ds all = rw (after_digits ds all, after_digits (reverse ds) (reverse_digits ds all)) (reverse-reverse ds)

pub one_part : (ds : List ℕ) → AllByRecursion IsDigit ds → parts ds ≡ ds ∷ []
one_part ds all =
    ap (map trimmed) (slice_split_none is_comma ds (All-from_recursion (λ b. is_comma b ≡ false) ds (all_weaker IsDigit
    (λ b. is_comma b ≡ false) no_comma ds all)))
    ∙ ap (λ l. l ∷ []) (trims_part ds all)

all_digits : (ds : List ℕ) → AllByRecursion IsDigit ds → list_all is_digit ds ≡ true
all_digits [] all = refl
all_digits (c ∷ ds) all = let e = all.0 in rw e (all_digits ds all.1)

pub one_length : (count : ℕ) → count < 10 ^ 18 → common (decimal count ∷ []) ≡ Some count
one_length count small =
    let fits : count < 2 ^ 64 = omega (arith, small) in
    let ds = decimal count in
    let digits = digits_decimal own count fits in
    let some : (length ds == 0) ≡ false = ne_eqb (length ds) 0 (λ z. omega (arith, z, decimal_nonempty count fits)) in
    let short : nat_le (length ds) 18 ≡ true = le-leb (length ds) 18 (length-decimal-le 18 count (omega arith) small fits) in
    let all = all_digits ds digits in
    let value = digits_value-decimal own count fits in
    rw (some, short, all, value) refl

-- and such a length was stated
pub stated_small : (part : List ℕ) (more : List (List ℕ)) (count : ℕ) → common (part ∷ more) ≡ Some count → count < 10 ^ 18
stated_small part more count is = go (is_numeral 18 part) refl (list_all (is_number (value_of part)) more) is
  where
    go : (a : Bool) → is_numeral 18 part ≡ a → (b : Bool) → cond (a && b) (Some (value_of part)) None ≡ Some count → count < 10 ^ 18
    go true e true same = numeral_small 18 part count (rw e same)
    go true e false same = absurd cc
    go false e b same = absurd cc

length_small : (o : Option ℕ) (count : ℕ) → ((n : ℕ) → o ≡ Some n → n < 10 ^ 18) → option_map Length o ≡ Some (Length count) → count < 10 ^ 18
length_small None count f is = absurd cc
length_small (Some n) count f is =
    let same : Length n ≡ Length count = cc in
    let counts : n ≡ count = cc in
    subst (λ (m : ℕ). m < 10 ^ 18) counts (f n refl)

fields_small : (version : Version) (codings lengths : List (List ℕ)) (count : ℕ) → by_fields version Empty codings lengths ≡ Some (Length count)
    → count < 10 ^ 18
fields_small Http10 [] [] count is = absurd cc
fields_small Http10 [] (part ∷ more) count is = length_small (common (part ∷ more)) count (λ n e. stated_small part more n e) is
fields_small Http10 (coding ∷ codings) [] count is = absurd cc
fields_small Http10 (coding ∷ codings) (part ∷ more) count is = absurd cc
fields_small Http11 [] [] count is = absurd cc
fields_small Http11 [] (part ∷ more) count is = length_small (common (part ∷ more)) count (λ n e. stated_small part more n e) is
fields_small Http11 (coding ∷ []) [] count is = no_chunks (is_chunked coding) is
  where
    no_chunks : (b : Bool) → cond b (Some Chunked) None ≡ Some (Length count) → count < 10 ^ 18
    no_chunks true e = absurd cc
    no_chunks false e = absurd cc
fields_small Http11 (coding ∷ []) (part ∷ more) count is = absurd cc
fields_small Http11 (coding ∷ other ∷ codings) [] count is = absurd cc
fields_small Http11 (coding ∷ other ∷ codings) (part ∷ more) count is = absurd cc

-- no field that is handed on has one of the dropped names
pub any_at : {A : Type 0} (p : A → Bool) (xs : List A) (x : A) (ys : List A) → p x ≡ true → list_any p (xs ++ (x ∷ ys)) ≡ true
any_at p [] x ys e = rw e refl
any_at p (z ∷ xs) x ys e = go (p z) (any_at p xs x ys e)
  where
    go : (b : Bool) → list_any p (xs ++ (x ∷ ys)) ≡ true → (b || list_any p (xs ++ (x ∷ ys))) ≡ true
    go true d = refl
    go false d = d

or_true : (a b : Bool) → b ≡ true → (a || b) ≡ true
or_true true b e = refl
or_true false b e = e

pub none_kept : (names : List (List ℕ)) (all : List NamedValue) (name : List ℕ) → ((n : List ℕ) → str_eq_ignore_ascii_case n name ≡ true
    → is_among names n ≡ true)
    → (fs : List NamedValue) → filter (is_named name) (map name_and_value (map sent_field (filter (λ v. is_kept names all v.0) fs))) ≡ []
none_kept names all name f [] = refl
none_kept names all name f (v ∷ fs) = go (none_kept names all name f fs) (is_kept names all v.0) refl (str_eq_ignore_ascii_case v.0 name) refl
  where
    go : filter (is_named name) (map name_and_value (map sent_field (filter (λ x. is_kept names all x.0) fs))) ≡ []
        → (k : Bool) → is_kept names all v.0 ≡ k → (m : Bool) → str_eq_ignore_ascii_case v.0 name ≡ m
        → filter (is_named name) (map name_and_value (map sent_field (filter (λ x. is_kept names all x.0) (v ∷ fs)))) ≡ []
    go later false e m d = rw e later
    go later true e true d =
        absurd (true≢false (sym e ∙ ap not (or_true (is_among (parts_of (codes "Connection") all) v.0) (is_among names v.0) (f v.0 d))))
    go later true e false d = rw (e, d) later

pub values_more : (name : List ℕ) (xs ys : List NamedValue) → values_of name (xs ++ ys) ≡ values_of name xs ++ values_of name ys
values_more name xs ys =
    ap (map (λ (v : NamedValue). v.1)) (filter-append (is_named name) xs ys)
    ∙ map-append (λ (v : NamedValue). v.1) (filter (is_named name) xs) (filter (is_named name) ys)

-- the values of fields one behind the other
values_behind : (name : List ℕ) (xs ys : List Field)
    → values_of name (map name_and_value (xs ++ ys)) ≡ values_of name (map name_and_value xs) ++ values_of name (map name_and_value ys)
values_behind name xs ys =
    ap (values_of name) (map-append name_and_value xs ys) ∙ values_more name (map name_and_value xs) (map name_and_value ys)

skipping : (name : List ℕ) (xs ys : List Field) → values_of name (map name_and_value xs) ≡ []
    → values_of name (map name_and_value (xs ++ ys)) ≡ values_of name (map name_and_value ys)
skipping name xs ys none = values_behind name xs ys ∙ ap (λ l. l ++ values_of name (map name_and_value ys)) none

values_all : (name : List ℕ) (adds : Additions) (r : Request) (f : Framing)
    → ((n : List ℕ) → str_eq_ignore_ascii_case n name ≡ true → is_among of_request n ≡ true)
    → ((some : Bool) → values_of name (map name_and_value (host_fields some)) ≡ [])
    → values_of name (map name_and_value (client_fields adds.client)) ≡ []
    → values_of name (map name_and_value (connection_fields adds.asks)) ≡ []
    → values_of name (map name_and_value (all_fields adds r f)) ≡ values_of name (map name_and_value (framing_fields f))
values_all name adds r f among host client last =
    let k = kept of_request r.fields in
    let h = host_fields (has_host k) in
    let n = client_fields adds.client in
    let g = framing_fields f in
    let c = connection_fields adds.asks in
    skipping name (map sent_field k) (h ++ (n ++ (g ++ c))) (ap (map (λ (v : NamedValue). v.1)) (none_kept of_request r.fields name among r.fields))
    ∙ skipping name h (n ++ (g ++ c)) (host (has_host k))
    ∙ skipping name n (g ++ c) client
    ∙ values_behind name g c
    ∙ ap (λ l. values_of name (map name_and_value g) ++ l) last
    ∙ append-nil (values_of name (map name_and_value g))

coding_dropped : (n : List ℕ) → str_eq_ignore_ascii_case n (codes "Transfer-Encoding") ≡ true → is_among of_request n ≡ true
coding_dropped n e =
    any_at (λ other. str_eq_ignore_ascii_case n other)
    (codes "TE" ∷ codes "Expect" ∷ codes "Connection" ∷ codes "Keep-Alive" ∷ codes "Proxy-Connection" ∷ codes "Upgrade" ∷ codes "Trailer" ∷ [])
    (codes "Transfer-Encoding") (codes "Content-Length" ∷ []) e

length_dropped : (n : List ℕ) → str_eq_ignore_ascii_case n (codes "Content-Length") ≡ true → is_among of_request n ≡ true
length_dropped n e =
    any_at (λ other. str_eq_ignore_ascii_case n other)
    (codes "TE" ∷ codes "Expect" ∷ codes "Connection" ∷ codes "Keep-Alive" ∷ codes "Proxy-Connection" ∷ codes "Upgrade" ∷ codes "Trailer"
    ∷ codes "Transfer-Encoding" ∷ [])
    (codes "Content-Length") [] e

host_codes : (some : Bool) → values_of (codes "Transfer-Encoding") (map name_and_value (host_fields some)) ≡ []
host_codes true = refl
host_codes false = refl

host_counts : (some : Bool) → values_of (codes "Content-Length") (map name_and_value (host_fields some)) ≡ []
host_counts true = refl
host_counts false = refl

pub last_codes : (asks : Persistence) → values_of (codes "Transfer-Encoding") (map name_and_value (connection_fields asks)) ≡ []
last_codes Close = refl
last_codes Persist = refl
last_codes KeepAlive = refl

pub last_counts : (asks : Persistence) → values_of (codes "Content-Length") (map name_and_value (connection_fields asks)) ≡ []
last_counts Close = refl
last_counts Persist = refl
last_counts KeepAlive = refl

framed_by : (f : Framing) → f ≢ ToEnd → ((count : ℕ) → f ≡ Length count → count < 10 ^ 18)
    → by_fields Http11 Empty (values_of (codes "Transfer-Encoding") (map name_and_value (framing_fields f)))
    (flat_map parts (values_of (codes "Content-Length") (map name_and_value (framing_fields f)))) ≡ Some f
unfolding trim_ows
framed_by Empty other small = refl
framed_by (Length count) other small =
    let less = small count refl in
    let digits = digits_decimal own count (omega (arith, less)) in
    ap (λ l. by_fields Http11 Empty [] (parts l ++ [])) (trims (decimal count) digits)
    ∙ ap (λ l. by_fields Http11 Empty [] (l ++ [])) (one_part (decimal count) digits)
    ∙ ap (option_map Length) (one_length count less)
framed_by Chunked other small = refl
framed_by ToEnd other small = absurd (other refl)

client_codes : (client : Option IpAddr) → values_of (codes "Transfer-Encoding") (map name_and_value (client_fields client)) ≡ []
client_codes None = refl
client_codes (Some address) = refl

client_counts : (client : Option IpAddr) → values_of (codes "Content-Length") (map name_and_value (client_fields client)) ≡ []
client_counts None = refl
client_counts (Some address) = refl

framed_same : (adds : Additions) (r : Request) (f : Framing) → f ≢ ToEnd → ((count : ℕ) → f ≡ Length count → count < 10 ^ 18)
    → request_framing (request_of (sent_head adds r f)) ≡ Some f
framed_same adds r f other small =
    (λ i. by_fields Http11 Empty
    (values_all (codes "Transfer-Encoding") adds r f coding_dropped host_codes (client_codes adds.client) (last_codes adds.asks) i)
    (flat_map parts (values_all (codes "Content-Length") adds r f length_dropped host_counts (client_counts adds.client) (last_counts adds.asks) i)))
    ∙ framed_by f other small

-- what is handed on is read as it came
kept_same : (p : NamedValue → Bool) (fs : List Field)
    → map name_and_value (map sent_field (filter p (map name_and_value fs))) ≡ filter p (map name_and_value fs)
kept_same p [] = refl
kept_same p (x ∷ fs) = go (kept_same p fs) (p (name_and_value x)) refl
  where
    go : map name_and_value (map sent_field (filter p (map name_and_value fs))) ≡ filter p (map name_and_value fs)
        → (b : Bool) → p (name_and_value x) ≡ b
        → map name_and_value (map sent_field (filter p (map name_and_value (x ∷ fs)))) ≡ filter p (map name_and_value (x ∷ fs))
    go later true e = rw e (λ i. (x.name, trims_once x.raw i) ∷ later i)
    go later false e = rw e later

-- whose request it is, among the proxy's own fields
host_names : (some : Bool) → values_of (codes "X-Forwarded-For") (map name_and_value (host_fields some)) ≡ []
host_names true = refl
host_names false = refl

framing_names : (f : Framing) → values_of (codes "X-Forwarded-For") (map name_and_value (framing_fields f)) ≡ []
framing_names Empty = refl
framing_names (Length count) = refl
framing_names Chunked = refl
framing_names ToEnd = refl

last_names : (asks : Persistence) → values_of (codes "X-Forwarded-For") (map name_and_value (connection_fields asks)) ≡ []
last_names Close = refl
last_names Persist = refl
last_names KeepAlive = refl

client_names : (client : Option IpAddr) → IsNamed client
    → values_of (codes "X-Forwarded-For") (map name_and_value (client_fields client)) ≡ names_of client
client_names None is = refl
client_names (Some address) is = ap (λ l. l ∷ []) (plain_trims (ip_text address) (plain_address address is))

own_names : (adds : Additions) (r : Request) (f : Framing) → IsNamed adds.client
    → values_of (codes "X-Forwarded-For") (map name_and_value (own_fields adds r f)) ≡ names_of adds.client
own_names adds r f is =
    let name = codes "X-Forwarded-For" in
    let h = host_fields (has_host (kept of_request r.fields)) in
    let n = client_fields adds.client in
    let g = framing_fields f in
    let c = connection_fields adds.asks in
    skipping name h (n ++ (g ++ c)) (host_names (has_host (kept of_request r.fields)))
    ∙ values_behind name n (g ++ c)
    ∙ (λ i. client_names adds.client is i ++ (skipping name g c (framing_names f) ∙ last_names adds.asks) i)
    ∙ append-nil (names_of adds.client)

-- each part is of its class
passes_all : (test : ℕ → Bool) (l : List ℕ) → list_all test l ≡ true → AllByRecursion (λ b. IsTrue (test b)) l
passes_all test [] e = tt
passes_all test (b ∷ l) e = let k = both_true (test b) (list_all test l) e in (k.0, passes_all test l k.1)

pub literal : (test : ℕ → Bool) (l : List ℕ) → list_all test l ≡ true → AllPass test l
literal test l e = All-from_recursion (λ b. IsTrue (test b)) l (passes_all test l e)

pub spaced : (v : List ℕ) → AllPass is_value_byte v → AllPass is_value_byte (space ∷ v)
spaced v all = All-cons (λ b. IsTrue (is_value_byte b)) space v refl all

pub kept_good : (p : NamedValue → Bool) (fs : List Field) → AllByRecursion IsField fs
    → AllByRecursion IsField (map sent_field (filter p (map name_and_value fs)))
kept_good p [] all = tt
kept_good p (x ∷ fs) all = go (kept_good p fs all.1) (p (name_and_value x)) refl
  where
    go : AllByRecursion IsField (map sent_field (filter p (map name_and_value fs))) → (b : Bool) → p (name_and_value x) ≡ b
        → AllByRecursion IsField (map sent_field (filter p (map name_and_value (x ∷ fs))))
    go later true e = rw e (record { name = all.0.name; raw = spaced (trim_ows x.raw) (AllPass-trim_ows is_value_byte x.raw all.0.raw) }, later)
    go later false e = rw e later

host_good : (some : Bool) → AllByRecursion IsField (host_fields some)
unfolding is_token_byte
host_good true = tt
host_good false = (record { name = (omega arith, literal is_token_byte (codes "Host") refl); raw = All-nil (λ b. IsTrue (is_value_byte b)) }, tt)

pub framing_good : (f : Framing) → ((count : ℕ) → f ≡ Length count → count < 10 ^ 18) → AllByRecursion IsField (framing_fields f)
unfolding is_token_byte
framing_good Empty small = tt
framing_good (Length count) small =
    let digits = digits_decimal own count (omega (arith, small count refl)) in (
      record {
        name = (omega arith, literal is_token_byte (codes "Content-Length") refl);
        raw = spaced (decimal count)
            (All-from_recursion (λ b. IsTrue (is_value_byte b)) (decimal count) (all_weaker IsDigit (λ b. IsTrue (is_value_byte b)) value_byte
            (decimal count) digits));
      },
      tt,
    )
framing_good Chunked small = (
  record {
    name = (omega arith, literal is_token_byte (codes "Transfer-Encoding") refl);
    raw = spaced (codes "chunked") (literal is_value_byte (codes "chunked") refl);
  },
  tt,
)
framing_good ToEnd small = tt

pub connection_good : (asks : Persistence) → AllByRecursion IsField (connection_fields asks)
unfolding is_token_byte
connection_good Close = (
  record {
    name = (omega arith, literal is_token_byte (codes "Connection") refl);
    raw = spaced (codes "close") (literal is_value_byte (codes "close") refl);
  },
  tt,
)
connection_good Persist = tt
connection_good KeepAlive = (
  record {
    name = (omega arith, literal is_token_byte (codes "Connection") refl);
    raw = spaced (codes "keep-alive") (literal is_value_byte (codes "keep-alive") refl);
  },
  tt,
)

client_good : (client : Option IpAddr) → IsNamed client → AllByRecursion IsField (client_fields client)
unfolding is_token_byte
client_good None is = tt
client_good (Some address) is =
    let text = ip_text address in (
      record {
        name = (omega arith, literal is_token_byte (codes "X-Forwarded-For") refl);
        raw = spaced text
            (All-from_recursion (λ b. IsTrue (is_value_byte b)) text (all_weaker IsPlain (λ b. IsTrue (is_value_byte b)) (λ b plain. plain.0) text
            (plain_address address is)));
      },
      tt,
    )

pub reads_alike : (adds : Additions) (h : RequestHead) (f : Framing) → IsNamed adds.client → IsRequest h → request_framing (request_of h) ≡ Some f
    → ReadsAlike adds (request_of h) f
reads_alike adds h f named is framed =
    let r = request_of h in
    let small : (count : ℕ) → f ≡ Length count → count < 10 ^ 18 = λ count same.
    fields_small r.version (values_of (codes "Transfer-Encoding") r.fields) (parts_of (codes "Content-Length") r.fields) count (framed ∙ ap Some same) in
    let head = is.0.reads.0 in
    let k = kept of_request r.fields in
    let fields = all_append IsField (map sent_field k) (own_fields adds r f)
    (kept_good (λ v. is_kept of_request r.fields v.0) h.fields (recursion_from_All IsField h.fields head.fields))
    (all_append IsField (host_fields (has_host k)) (client_fields adds.client ++ (framing_fields f ++ connection_fields adds.asks)) (host_good (has_host k))
    (all_append IsField (client_fields adds.client) (framing_fields f ++ connection_fields adds.asks) (client_good adds.client named)
    (all_append IsField (framing_fields f) (connection_fields adds.asks) (framing_good f small) (connection_good adds.asks)))) in
    record {
      head = sent_head adds r f;
      is = record {
        method = head.method;
        target = head.target;
        target_text = head.target_text;
        minor = omega arith;
        fields = All-from_recursion IsField (all_fields adds r f) fields;
      };
      text_is = text_same adds r f;
      asks = record {
        method = refl;
        target = refl;
        more = map name_and_value (own_fields adds r f);
        fields =
            map-append name_and_value (map sent_field k) (own_fields adds r f)
            ∙ ap (λ l. l ++ map name_and_value (own_fields adds r f)) (kept_same (λ v. is_kept of_request r.fields v.0) h.fields);
        names = own_names adds r f named;
      };
      framed = framed_same adds r f (framed_by_itself r f framed) small;
    }
