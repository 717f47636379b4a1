-- What a client is told is answers that are read in one way.
use Rattle.std.proofs.Common.{◌≡◌, ◌≢◌, ◌∙◌, ℕ, ◌/◌, ◌%◌, ◌==◌, ◌&&◌, not, Bool, true, false, true≢false, cond, IsTrue, Some, List, [], ◌∷◌, ◌++◌, map, codes, refl, sym, ap, arith, append_assoc, append-nil, subst}
use Rattle.std.specs.Char.{is_ascii_digit}
use Rattle.std.specs.List.{flat_map, AllByRecursion}
use Rattle.std.proofs.lemmas.Grind.{flat_map-append}
use Rattle.std.proofs.lemmas.List.Elements.{All-from_recursion, All-nil, recursion_from_All}
use Rattle.base_lists.proofs.Members.{all_append}
use Rattle.httparse.specs.Ascii.{crlf_bytes}
use Rattle.httparse.specs.Grammar.{IsField, ResponseHead, IsResponseHead, is_value_byte, print_response}
use Rattle.httparse.specs.Grammar.LineEnd.{crlf}
use Rattle.httparse.proofs.GrammarLemmas.{response_unique}
use Rattle.http_bodies.specs.Framings.{IsBody}
use Rattle.http_bodies.specs.declared.framing.Framing.{Framing}
use Rattle.http_bodies.specs.declared.framing.Framing.TheVariants.{Empty, Length, Chunked, ToEnd}
use Rattle.http_texts.specs.Fields.{kept, is_kept, of_connection}
use Rattle.http_texts.specs.Framings.{answer_plan, is_interim}
use Rattle.http_texts.specs.Messages.{IsInterim, IsAnswered, print_heads, interims_text}
use Rattle.http_texts.specs.Persistences.{is_delimited}
use Rattle.http_texts.specs.Replies.{leave_text, waits_for_leave}
use Rattle.http_texts.specs.Texts.{answer_lines, answer_text, interim_text, status_line, status_text, fields_text, framed_for}
use Rattle.http_texts.specs.declared.persistence.Persistence.{Persistence}
use Rattle.http_texts.specs.declared.plans.Plan.{Plan}
use Rattle.req_view.specs.Answer.{Answer, answer_of}
use Rattle.req_view.specs.Request.{Request}
use Rattle.exchange_laws.specs.Found.{FindsAnswer}
use Rattle.exchange_laws.specs.Replies.{Reply, IsBefore, IsReply, print_reply, AreReplies}
use Rattle.exchange_laws.proofs.Answering.{answers_alike, status_is, status_small, ascii}
use Rattle.exchange_laws.proofs.Bodies.{sent_body}
use Rattle.exchange_laws.proofs.MessageReading.{same_body}
use Rattle.exchange_laws.proofs.Rereading.{sent_field, kept_text, kept_good, literal}

-- heads up to an answer's own are read in one way
same_heads : (hs ks : List ResponseHead) (h k : ResponseHead) (x y : List ℕ) → AllByRecursion IsBefore hs → AllByRecursion IsBefore ks
    → IsResponseHead h → IsResponseHead k → is_interim (answer_of h).status ≡ false → is_interim (answer_of k).status ≡ false
    → print_heads hs ++ (print_response h ++ x) ≡ print_heads ks ++ (print_response k ++ y) → (hs ≡ ks) × (h ≡ k) × (x ≡ y)
same_heads [] [] h k x y p q is other final last e =
    let same = response_unique (print_response h ++ x) h k x y (is, refl) (other, e) in
    (refl, same.0, same.1)
same_heads [] (j ∷ ks) h k x y p q is other final last e =
    let same = response_unique (print_response h ++ x) h j x (print_heads ks ++ (print_response k ++ y)) (is, refl)
    (q.0.head, e ∙ append_assoc (print_response j) (print_heads ks) (print_response k ++ y)) in
    absurd (true≢false (sym q.0.interim ∙ ap (λ (g : ResponseHead). is_interim (answer_of g).status) (sym same.0) ∙ final))
same_heads (j ∷ hs) [] h k x y p q is other final last e =
    let same = response_unique (print_response k ++ y) k j y (print_heads hs ++ (print_response h ++ x)) (other, refl)
    (p.0.head, sym e ∙ append_assoc (print_response j) (print_heads hs) (print_response h ++ x)) in
    absurd (true≢false (sym p.0.interim ∙ ap (λ (g : ResponseHead). is_interim (answer_of g).status) (sym same.0) ∙ last))
same_heads (i ∷ hs) (j ∷ ks) h k x y p q is other final last e =
    let first = print_heads hs ++ (print_response h ++ x) in
    let second = print_heads ks ++ (print_response k ++ y) in
    let both : print_response i ++ first ≡ print_response j ++ second =
    sym (append_assoc (print_response i) (print_heads hs) (print_response h ++ x)) ∙ e
    ∙ append_assoc (print_response j) (print_heads ks) (print_response k ++ y) in
    let same = response_unique (print_response i ++ first) i j first second (p.0.head, refl) (q.0.head, both) in
    let later = same_heads hs ks h k x y p.1 q.1 is other final last same.1 in
    ((λ t. same.0 t ∷ later.0 t), later.1, later.2)

same_reply : (method : List ℕ) (r s : Reply) (x y : List ℕ) → IsReply method r → IsReply method s → print_reply r ++ x ≡ print_reply s ++ y → (r ≡ s) × (x ≡ y)
same_reply method r s x y p q e =
    let split : (m : Reply) (z : List ℕ) → print_reply m ++ z ≡ print_heads m.interims ++ (print_response m.head ++ (m.body ++ z)) = λ m z.
    append_assoc (print_heads m.interims) (print_response m.head ++ m.body) z
    ∙ ap (λ l. print_heads m.interims ++ l) (append_assoc (print_response m.head) m.body z) in
    let heads = same_heads r.interims s.interims r.head s.head (r.body ++ x) (s.body ++ y) p.before q.before p.head q.head p.final q.final
    (sym (split r x) ∙ e ∙ split s y) in
    let some : Some p.plan ≡ Some q.plan = sym p.planned ∙ ap (λ (h : ResponseHead). answer_plan method (answer_of h)) heads.1 ∙ q.planned in
    let plans : p.plan ≡ q.plan = cc in
    let bodies = same_body p.plan.body true r.body p.text s.body q.text x y p.shows p.body
    (subst (λ (f : Plan). IsBody f.body true s.body q.text) (sym plans) q.body) heads.2 in
    ((λ i. record { interims = heads.0 i; head = heads.1 i; body = bodies.0 i }), bodies.2)

pub one_answering : (methods : List (List ℕ)) (rs ss : List Reply) (x y : List ℕ) → AreReplies methods rs → AreReplies methods ss
    → flat_map print_reply rs ++ x ≡ flat_map print_reply ss ++ y → (rs ≡ ss) × (x ≡ y)
one_answering [] [] [] x y p q e = (refl, e)
one_answering [] [] (s ∷ ss) x y p q e = absurd q
one_answering [] (r ∷ rs) ss x y p q e = absurd p
one_answering (m ∷ ms) [] ss x y p q e = absurd p
one_answering (m ∷ ms) (r ∷ rs) [] x y p q e = absurd q
one_answering (m ∷ ms) (r ∷ rs) (s ∷ ss) x y p q e =
    let same = same_reply m r s (flat_map print_reply rs ++ x) (flat_map print_reply ss ++ y) p.0 q.0
    (sym (append_assoc (print_reply r) (flat_map print_reply rs) x) ∙ e ∙ append_assoc (print_reply s) (flat_map print_reply ss) y) in
    let later = one_answering ms rs ss x y p.1 q.1 same.1 in
    ((λ i. same.0 i ∷ later.0 i), later.1)

-- a head before an answer, as it is handed on
abbrev sent_interim : Answer → ResponseHead
sent_interim a = record {
  blank = [];
  minor = 1;
  digits = status_text a.status;
  reason = Some a.reason;
  line_end = crlf;
  fields = map sent_field (kept of_connection a.fields);
  last = crlf;
}

interim_same : (a : Answer) → answer_lines a ++ crlf_bytes ≡ print_response (sent_interim a)
unfolding print_response
interim_same a =
    let fields = fields_text (kept of_connection a.fields) in
    append_assoc (status_line a) fields crlf_bytes
    ∙ ap (λ l. status_line a ++ (l ++ crlf_bytes)) (sym (kept_text (kept of_connection a.fields)))

interim_good : (method : List ℕ) (h : ResponseHead) → IsInterim method h → IsBefore (sent_interim (answer_of h))
interim_good method h is =
    let good = is.head.reads.0 in
    let a = answer_of h in
    let small = status_small h good in
    record {
      head = record {
        minor = omega arith;
        digits = (
          refl,
          All-from_recursion (λ b. IsTrue (is_ascii_digit b)) (status_text a.status)
              (ascii (a.status / 100) (omega (arith, small)), (ascii ((a.status / 10) % 10) (omega arith), (ascii (a.status % 10) (omega arith), tt))),
        );
        reason = good.reason;
        fields = All-from_recursion IsField (map sent_field (kept of_connection a.fields))
            (kept_good (λ v. is_kept of_connection a.fields v.0) h.fields (recursion_from_All IsField h.fields good.fields));
      };
      interim = ap is_interim (status_is a.status small) ∙ is.interim;
    }

record Sent (text : List ℕ) : Type 0 where
  heads : List ResponseHead
  each : AllByRecursion IsBefore heads
  text_is : text ≡ print_heads heads

nothing_sent : Sent []
nothing_sent = record { heads = []; each = tt; text_is = refl }

one_sent : (h : ResponseHead) (text : List ℕ) → IsBefore h → text ≡ print_response h → Sent text
one_sent h text is e = record { heads = h ∷ []; each = (is, tt); text_is = e ∙ sym (append-nil (print_response h)) }

both_sent : (x y : List ℕ) → Sent x → Sent y → Sent (x ++ y)
both_sent x y p q = record {
  heads = p.heads ++ q.heads;
  each = all_append IsBefore p.heads q.heads p.each q.each;
  text_is = (λ i. p.text_is i ++ q.text_is i) ∙ sym (flat_map-append print_response p.heads q.heads);
}

interim_sent : (method : List ℕ) (framed : Bool) (h : ResponseHead) → IsInterim method h → Sent (interim_text framed (answer_of h))
interim_sent method framed h is = go (framed && not ((answer_of h).status == 100))
  where
    go : (b : Bool) → Sent (cond b (answer_lines (answer_of h) ++ crlf_bytes) [])
    go true = one_sent (sent_interim (answer_of h)) (answer_lines (answer_of h) ++ crlf_bytes) (interim_good method h is) (interim_same (answer_of h))
    go false = nothing_sent

interims_sent : (method : List ℕ) (framed : Bool) (hs : List ResponseHead) → AllByRecursion (IsInterim method) hs → Sent (interims_text framed hs)
interims_sent method framed [] all = nothing_sent
interims_sent method framed (h ∷ hs) all =
    both_sent (interim_text framed (answer_of h)) (interims_text framed hs) (interim_sent method framed h all.0) (interims_sent method framed hs all.1)

abbrev leave_head : ResponseHead
leave_head = record { blank = []; minor = 1; digits = codes "100"; reason = Some (codes "Continue"); line_end = crlf; fields = []; last = crlf }

leave_sent : (r : Request) → Sent (leave_text r)
unfolding print_response
leave_sent r = go (waits_for_leave r)
  where
    go : (b : Bool) → Sent (cond b (codes "HTTP/1.1 100 Continue\r\n\r\n") [])
    go true = one_sent leave_head (codes "HTTP/1.1 100 Continue\r\n\r\n") (record {
      head = record {
        minor = omega arith;
        digits = (refl, literal is_ascii_digit (codes "100") refl);
        reason = literal is_value_byte (codes "Continue") refl;
        fields = All-nil IsField;
      };
      interim = refl;
    }) refl
    go false = nothing_sent

shown : (framed : Bool) (f : Framing) → is_delimited framed f ≡ true → f ≢ ToEnd
shown framed f shows same = true≢false (sym shows ∙ ap (is_delimited framed) same)

told_body : (framed : Bool) (f : Framing) (used sent_on : List ℕ) → is_delimited framed f ≡ true → IsBody f framed used sent_on → IsBody f true sent_on sent_on
told_body framed Empty used sent_on shows is = (is.1, is.1)
told_body framed (Length count) used sent_on shows is = sent_body (Length count) used sent_on (shown framed (Length count) shows) is
told_body true Chunked used sent_on shows is = sent_body Chunked used sent_on (shown true Chunked shows) is
told_body false Chunked used sent_on shows is = absurd (true≢false (sym shows))
told_body framed ToEnd used sent_on shows is = absurd (true≢false (sym shows))

pub answer_found : (says : Persistence) (r : Request) (used text : List ℕ) → (told : IsAnswered says r.method (framed_for r.version) used text)
    → is_delimited (framed_for r.version) told.plan.body ≡ true → FindsAnswer r.method (answer_of told.head) told.plan told.sent_on (leave_text r ++ text)
answer_found says r used text told shows =
    let framed = framed_for r.version in
    let leave = leave_sent r in
    let first = interims_sent r.method framed told.interims told.are.each in
    let all = both_sent (leave_text r) (interims_text framed told.interims) leave first in
    let head = answers_alike says framed r.method told.head told.plan told.final shows in
    let body = told_body framed told.plan.body told.body told.sent_on shows told.passes in
    let rest = answer_text says framed (answer_of told.head) told.plan ++ told.sent_on in
    record {
      reply = record { interims = all.heads; head = head.head; body = told.sent_on };
      is = record {
        before = all.each;
        head = head.is;
        final = ap is_interim head.status ∙ told.final.final;
        plan = told.plan;
        planned = head.planned;
        shows = shown framed told.plan.body shows;
        text = told.sent_on;
        body = body;
      };
      text_is = ap (λ l. leave_text r ++ l) told.text_is ∙ sym (append_assoc (leave_text r) (interims_text framed told.interims) rest)
          ∙ (λ i. all.text_is i ++ (head.text_is i ++ told.sent_on));
      status = head.status;
      plan_is = refl;
      body_is = refl;
      same = refl;
    }
