-- Messages that are handed on, part by part.
use Rattle.std.proofs.Common.{◌≡◌, ◌∙◌, ℕ, ◌<◌, ◌≤◌, Bool, List, [], ◌∷◌}
use Rattle.std.proofs.Common.{◌++◌, length, refl, sym, ap, arith, append_assoc, append-nil, length-append, subst}
use Rattle.std.specs.List.{AllByRecursion}
use Rattle.httparse.specs.Grammar.{ResponseHead, print_response}
use Rattle.http_bodies.specs.Bodies.{print_chunked}
use Rattle.http_bodies.specs.Bodies.PartOfChunked.{some_chunks, all_of_it}
use Rattle.http_bodies.specs.Chunks.PartOfChunk.{nothing}
use Rattle.http_bodies.specs.Framings.{IsBody, PartOfBody}
use Rattle.http_bodies.specs.declared.framing.Framing as Framed
use Rattle.http_bodies.specs.declared.framing.Framing.TheVariants.{Empty, Length, Chunked, ToEnd}
use Rattle.base_lists.proofs.Filtered.{flat_last}
use Rattle.base_lists.proofs.Members.{all_append}
use Rattle.http_texts.specs.Heads.{NoAnswer}
use Rattle.http_texts.specs.Messages.{NoBody, IsInterim, IsFinal, AreInterims, print_heads, interims_text, BadlyFramed, LacksAnswer}
use Rattle.http_texts.specs.Messages.EndsEarly.{no_head, no_body}
use Rattle.http_texts.specs.Messages.BadlyFramed.{ninth, bad_body}
use Rattle.http_texts.specs.Texts.{interim_text}
use Rattle.http_texts.specs.declared.fault.Fault.{Fault}
use Rattle.http_texts.specs.declared.fault.Fault.TheVariants.{NoMemory, Head, Framing, Read, Write, Turns, Closed}
use Rattle.http_texts.specs.declared.plans.Plan.{Plan}
use Rattle.req_view.specs.Answer.{Answer, answer_of}

-- of each body nothing is a part
pub part_none : (framing : Framed.Framing) (framed : Bool) → PartOfBody framing framed [] []
part_none Empty framed = (refl, refl)
part_none (Length count) framed = (omega arith, refl)
part_none Chunked framed = some_chunks [] [] [] tt nothing
part_none ToEnd framed = refl

-- and the whole is one
pub body_part : (framing : Framed.Framing) (framed : Bool) (used text : List ℕ) → IsBody framing framed used text → PartOfBody framing framed used text
body_part Empty framed used text is = is
body_part (Length count) framed used text is = (omega (arith, is.0), is.1)
body_part Chunked framed used text is =
    subst (λ (l : List ℕ). PartOfBody Chunked framed l text) (sym is.2) (subst (λ (l : List ℕ). PartOfBody Chunked framed (print_chunked is.0) l) (sym is.3)
    (all_of_it is.0 is.1))
body_part ToEnd framed used text is = is

-- what is wrong behind heads before an answer
pub heads_then : (method : List ℕ) (hs : List ResponseHead) (fault : Fault) (l : List ℕ) → AreInterims method hs → NoAnswer fault l
    → LacksAnswer method fault (print_heads hs ++ l)
heads_then method hs Read l are none = record { interims = hs; are = are; rest = l; input_is = refl; then = no_head l none }
heads_then method hs Head l are none = record { interims = hs; are = are; rest = l; input_is = refl; then = none }
heads_then method hs Framing l are none = absurd none
heads_then method hs NoMemory l are none = tt
heads_then method hs Write l are none = absurd none
heads_then method hs Turns l are none = absurd none
heads_then method hs Closed l are none = absurd none

-- a head behind them is bad
pub bad_here : (method : List ℕ) (hs : List ResponseHead) (h : ResponseHead) (l : List ℕ) → AreInterims method hs
    → BadlyFramed method (length hs) (print_response h ++ l) → LacksAnswer method Framing ((print_heads hs ++ print_response h) ++ l)
bad_here method hs h l are bad =
    record { interims = hs; are = are; rest = print_response h ++ l; input_is = append_assoc (print_heads hs) (print_response h) l; then = bad }

pub ninth_here : (method : List ℕ) (hs : List ResponseHead) (h : ResponseHead) (l : List ℕ) → AreInterims method hs → 8 ≤ length hs → IsInterim method h
    → LacksAnswer method Framing ((print_heads hs ++ print_response h) ++ l)
ninth_here method hs h l are many is =
    let eight : 8 ≡ length hs = omega (arith, many, are.few) in
    bad_here method hs h l are (subst (λ (n : ℕ). BadlyFramed method n (print_response h ++ l)) eight (ninth h l is))

-- or its body
pub body_then : (method : List ℕ) (hs : List ResponseHead) (h : ResponseHead) (plan : Plan) (fault : Fault) (l : List ℕ) → AreInterims method hs
    → IsFinal method h plan → NoBody plan.body fault l → LacksAnswer method fault ((print_heads hs ++ print_response h) ++ l)
body_then method hs h plan Read l are is none = record {
  interims = hs;
  are = are;
  rest = print_response h ++ l;
  input_is = append_assoc (print_heads hs) (print_response h) l;
  then = no_body h plan l is none;
}
body_then method hs h plan Framing l are is none = bad_here method hs h l are (bad_body (length hs) h plan l is none)
body_then method hs h plan Head l are is none = absurd none
body_then method hs h plan NoMemory l are is none = absurd none
body_then method hs h plan Write l are is none = absurd none
body_then method hs h plan Turns l are is none = absurd none
body_then method hs h plan Closed l are is none = absurd none

-- one more head before the answer
pub interims_more : (method : List ℕ) (hs : List ResponseHead) (h : ResponseHead) → AllByRecursion (IsInterim method) hs → length hs < 8 → IsInterim method h
    → AreInterims method (hs ++ h ∷ [])
interims_more method hs h all few is = record {
  each = all_append (IsInterim method) hs (h ∷ []) all (is, tt);
  few = omega (arith, few, length-append hs (h ∷ []));
}

-- the text of one more
pub interims_text_more : (framed told : Bool) (hs : List ResponseHead) (h : ResponseHead) (a : Answer) → told ≡ framed → a ≡ answer_of h
    → (interims_text framed hs ++ []) ++ interim_text told a ≡ interims_text framed (hs ++ h ∷ [])
interims_text_more framed told hs h a e f =
    ap (λ l. l ++ interim_text told a) (append-nil (interims_text framed hs))
    ∙ (λ i. interims_text framed hs ++ interim_text (e i) (f i))
    ∙ flat_last (λ (k : ResponseHead). interim_text framed (answer_of k)) hs h
