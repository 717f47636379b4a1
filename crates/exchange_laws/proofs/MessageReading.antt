-- What a client sends is read in one way.
use Rattle.std.proofs.Common.{◌≡◌, ◌≢◌, ◌∙◌, ℕ, Bool, true, false, Option, Some, None, List, [], ◌∷◌, ◌++◌, refl, sym, ap, append_assoc, subst, inl, inr}
use Rattle.std.specs.Prelude.{codes, option_map, if◌then◌else◌}
use Rattle.std.proofs.lemmas.List.{append_cancel_right}
use Rattle.std.specs.List.{flat_map, AllByRecursion}
use Rattle.httparse.specs.Grammar.{RequestHead, print_request}
use Rattle.httparse.proofs.GrammarLemmas.{request_unique}
use Rattle.base_lists.specs.Fronts.{AreComparable}
use Rattle.base_lists.proofs.Fronts.{front_nil, comparable_as, under}
use Rattle.http_bodies.specs.Framings.{IsBody}
use Rattle.http_bodies.specs.declared.framing.Framing.{Framing}
use Rattle.http_bodies.specs.declared.framing.Framing.TheVariants.{Empty, Length, Chunked, ToEnd}
use Rattle.http_texts.specs.Fields.{parts_of}
use Rattle.http_texts.specs.Framings.{request_framing, by_fields, common, is_chunked}
use Rattle.req_view.specs.Request.{Request, request_of, values_of}
use Rattle.req_view.specs.declared.version.Version.{Version}
use Rattle.req_view.specs.declared.version.Version.TheVariants.{Http10, Http11}
use Rattle.http_bodies.specs.Readings.{Reading, read, start_of}
use Rattle.http_bodies.proofs.Meanings.{whole}
use Rattle.exchange_laws.specs.Messages.{Message, IsMessage, print_message}

-- one of them is told apart from the end of the input
abbrev IsBounded : Option Framing → Type 0
IsBounded None = Unit {0}
IsBounded (Some Empty) = Unit {0}
IsBounded (Some (Length count)) = Unit {0}
IsBounded (Some Chunked) = Unit {0}
IsBounded (Some ToEnd) = ⊥

length_bounded : (o : Option ℕ) → IsBounded (option_map Length o)
length_bounded None = tt
length_bounded (Some count) = tt

chosen_bounded : (b : Bool) → IsBounded (if b then Some Chunked else None)
chosen_bounded true = tt
chosen_bounded false = tt

-- the framing of a request never is the end of the input
fields_bounded : (version : Version) (codings lengths : List (List ℕ)) → IsBounded (by_fields version Empty codings lengths)
fields_bounded Http10 [] [] = tt
fields_bounded Http10 [] (part ∷ more) = length_bounded (common (part ∷ more))
fields_bounded Http10 (coding ∷ codings) [] = tt
fields_bounded Http10 (coding ∷ codings) (part ∷ more) = tt
fields_bounded Http11 [] [] = tt
fields_bounded Http11 [] (part ∷ more) = length_bounded (common (part ∷ more))
fields_bounded Http11 (coding ∷ []) [] = chosen_bounded (is_chunked coding)
fields_bounded Http11 (coding ∷ []) (part ∷ more) = tt
fields_bounded Http11 (coding ∷ other ∷ codings) [] = tt
fields_bounded Http11 (coding ∷ other ∷ codings) (part ∷ more) = tt

some_other : (o : Option Framing) (f : Framing) → o ≡ Some f → IsBounded o → f ≢ ToEnd
some_other None f is bounded same = absurd cc
some_other (Some Empty) f is bounded same = absurd cc
some_other (Some (Length count)) f is bounded same = absurd cc
some_other (Some Chunked) f is bounded same = absurd cc
some_other (Some ToEnd) f is bounded same = absurd bounded

pub framed_by_itself : (r : Request) (f : Framing) → request_framing r ≡ Some f → f ≢ ToEnd
framed_by_itself r f is = some_other (request_framing r) f is (fields_bounded r.version (values_of (codes "Transfer-Encoding") r.fields) (parts_of
    (codes "Content-Length") r.fields))

-- a body at the front of an input is the only one, and so is what it becomes
pub same_body : (f : Framing) (framed : Bool) (used text other more x y : List ℕ) → f ≢ ToEnd → IsBody f framed used text → IsBody f framed other more
    → used ++ x ≡ other ++ y → (used ≡ other) × (text ≡ more) × (x ≡ y)
same_body f framed used text other more x y bounded is same e =
    let one = whole f framed used text x bounded is in
    let two = whole f framed other more y bounded same in
    let reads = ap (read (start_of f framed)) e in
    let rest : x ≡ y = sym one.1 ∙ ap (λ (r : Reading). r.rest) reads ∙ two.1 in
    let texts : text ≡ more = sym one.0 ∙ ap (λ (r : Reading). r.text) reads ∙ two.0 in
    (append_cancel_right used other y (ap (λ l. used ++ l) (sym rest) ∙ e), texts, rest)

-- and so is a request
same_message : (m n : Message) (x y : List ℕ) → IsMessage m → IsMessage n → print_message m ++ x ≡ print_message n ++ y → (m ≡ n) × (x ≡ y)
same_message m n x y p q e =
    let both : print_request m.head ++ (m.body ++ x) ≡ print_request n.head ++ (n.body ++ y) =
    sym (append_assoc (print_request m.head) m.body x) ∙ e ∙ append_assoc (print_request n.head) n.body y in
    let heads = request_unique (print_request m.head ++ (m.body ++ x)) m.head n.head (m.body ++ x) (n.body ++ y) (p.head, refl) (q.head, both) in
    let some : Some p.framing ≡ Some q.framing =
    sym p.framed ∙ ap (λ (h : RequestHead). request_framing (request_of h)) heads.0 ∙ q.framed in
    let framings : p.framing ≡ q.framing = cc in
    let bodies = same_body p.framing true m.body p.text n.body q.text x y (framed_by_itself (request_of m.head) p.framing p.framed) p.body
    (subst (λ (f : Framing). IsBody f true n.body q.text) (sym framings) q.body) heads.1 in
    ((λ i. record { head = heads.0 i; body = bodies.0 i }), bodies.2)

pub one_order : (some others : List Message) (rest behind : List ℕ) → AllByRecursion IsMessage some → AllByRecursion IsMessage others
    → flat_map print_message some ++ rest ≡ flat_map print_message others ++ behind → AreComparable some others
one_order [] others rest behind p q e = inl (front_nil others)
one_order (m ∷ some) [] rest behind p q e = inr (front_nil (m ∷ some))
one_order (m ∷ some) (n ∷ others) rest behind p q e =
    let same = same_message m n (flat_map print_message some ++ rest) (flat_map print_message others ++ behind) p.0 q.0
    (sym (append_assoc (print_message m) (flat_map print_message some) rest) ∙ e ∙ append_assoc (print_message n) (flat_map print_message others) behind) in
    comparable_as refl (ap (λ (k : Message). k ∷ others) same.0) (under (m ∷ []) (one_order some others rest behind p.1 q.1 same.1))
