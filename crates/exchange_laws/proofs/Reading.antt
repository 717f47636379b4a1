-- Whole exchanges, as they are read.
use Rattle.std.proofs.Common.{◌≡◌, ◌≢◌, ◌∙◌, ℕ, Bool, true, true≢false, List, [], ◌∷◌, ◌++◌, refl, sym, ap, subst}
use Rattle.std.specs.List.{flat_map, AllByRecursion}
use Rattle.httparse.specs.Grammar.{ResponseHead}
use Rattle.http_bodies.specs.Framings.{IsBody}
use Rattle.http_bodies.specs.Bodies.{chunked_text}
use Rattle.http_bodies.specs.declared.framing.Framing.{Framing}
use Rattle.http_bodies.specs.declared.framing.Framing.TheVariants.{Empty, Length, Chunked, ToEnd}
use Rattle.http_texts.specs.Messages.{IsInterim}
use Rattle.http_texts.specs.Persistences.{is_delimited, server_keeps}
use Rattle.http_texts.specs.Texts.{framed_for}
use Rattle.req_view.specs.Answer.{answer_of}
use Rattle.req_view.specs.declared.version.Version.{Version}
use Rattle.req_view.specs.declared.version.Version.TheVariants.{Http10, Http11}
use Rattle.exchange_machine.specs.Wholes.{Whole, IsWhole, asked, told, forwarded_of, answer_of_server}
use Rattle.exchange_laws.specs.Found.{FindsRequest}
use Rattle.exchange_laws.specs.Messages.{IsMessage, print_message}
use Rattle.exchange_laws.specs.Replies.{Reply, IsBefore, IsReply, print_reply}
use Rattle.exchange_laws.proofs.Bodies.{request_found}
use Rattle.exchange_laws.proofs.Replying.{answer_found}
use Rattle.req_view.specs.Request.{request_of}
use Rattle.exchange_laws.specs.Orders.{IsOpenToClient}
use Rattle.exchange_seated.specs.Connections.{IsOpenToServer}
use Rattle.exchange_laws.specs.Readings.{AreAnsweredSo, AreReadSo, AreSentSo, IsNamedIn, IsMessageOf, message_of}

is_message : (w : Whole) → IsWhole w → IsMessage (message_of w)
is_message w is = record {
  head = is.head.0.reads.0;
  framing = is.request.framing;
  framed = is.request.framed;
  text = is.request.body;
  body = is.request.passes;
}

pub read_so : (ws : List Whole) → AllByRecursion IsWhole ws → AllByRecursion IsOpenToClient ws → AreReadSo ws
read_so [] each stays = record { each = tt; asked_is = refl; replies = []; are = tt; told_is = refl }
read_so (w ∷ ws) each stays =
    let rest = read_so ws each.1 stays.1 in
    let is = each.0 in
    let found = answer_found w.says (request_of w.head) w.answer w.text is.answered (is.delimits stays.0) in
    record {
      each = (is_message w is, rest.each);
      asked_is = ap (λ l. asked w ++ l) rest.asked_is;
      replies = found.reply ∷ rest.replies;
      are = (found.is, rest.are);
      told_is = ap (λ l. l ++ flat_map told ws) found.text_is ∙ ap (λ l. print_reply found.reply ++ l) rest.told_is;
    }

request_of_it : (w : Whole) → (is : IsWhole w) → (found : FindsRequest w.adds.client (request_of w.head) is.request.body w.forwarded) → IsMessageOf w found.message
request_of_it w is found = record {
  asks = found.asks;
  framing = is.request.framing;
  framed = is.request.framed;
  body = subst (λ (l : List ℕ). IsBody is.request.framing true w.body l) (sym found.body_is) is.request.passes;
}

pub sent_so : (ws : List Whole) → AllByRecursion IsWhole ws → AllByRecursion IsNamedIn ws → AreSentSo ws
sent_so [] each named = record { messages = []; each = tt; are = tt; sent_is = refl }
sent_so (w ∷ ws) each named =
    let rest = sent_so ws each.1 named.1 in
    let is = each.0 in
    let found = request_found w.adds w.head w.body w.forwarded named.0 is.head is.request in
    record {
      messages = found.message ∷ rest.messages;
      each = (found.is, rest.each);
      are = (request_of_it w is found, rest.are);
      sent_is = ap (λ l. l ++ flat_map forwarded_of ws) found.text_is ∙ ap (λ l. print_message found.message ++ l) rest.sent_is;
    }

befores : (method : List ℕ) (hs : List ResponseHead) → AllByRecursion (IsInterim method) hs → AllByRecursion IsBefore hs
befores method [] all = tt
befores method (h ∷ hs) all = (record { head = all.0.head.reads.0; interim = all.0.interim }, befores method hs all.1)

-- a server keeps its connection only behind a body whose end shows
keeps_shown : (version : Version) (closes : Bool) (f : Framing) → server_keeps version (is_delimited true f) closes ≡ true → f ≢ ToEnd
keeps_shown Http10 closes f is same = true≢false (sym is)
keeps_shown Http11 closes f is same = true≢false (sym is ∙ ap (λ (g : Framing). server_keeps Http11 (is_delimited true g) closes) same)

-- what a body is doesn't depend on whom it is handed on to
body_itself : (framed : Bool) (f : Framing) (used text : List ℕ) → IsBody f framed used text → (other : List ℕ) × IsBody f true used other
body_itself framed Empty used text is = (text, is)
body_itself framed (Length count) used text is = (text, is)
body_itself framed Chunked used text is = (chunked_text true is.0, (is.0, is.1, is.2, refl))
body_itself framed ToEnd used text is = (text, is)

answer_at : (w : Whole) → (is : IsWhole w) → IsOpenToServer w
    → IsReply w.head.method (record { interims = is.answered.interims; head = is.answered.head; body = is.answered.body })
answer_at w is stays =
    let a = is.answered in
    let body = body_itself (framed_for (request_of w.head).version) a.plan.body a.body a.sent_on a.passes in
    record {
      before = befores w.head.method a.interims a.are.each;
      head = a.final.head.reads.0;
      final = a.final.final;
      plan = a.plan;
      planned = a.final.planned;
      shows = keeps_shown (answer_of a.head).version _ a.plan.body (is.keeps stays.kept);
      text = body.0;
      body = body.1;
    }

pub answered_so : (ws : List Whole) → AllByRecursion IsWhole ws → AllByRecursion IsOpenToServer ws → AreAnsweredSo ws
answered_so [] each stays = record { replies = []; are = tt; came_is = refl }
answered_so (w ∷ ws) each stays =
    let rest = answered_so ws each.1 stays.1 in
    let a = each.0.answered in
    let reply : Reply = record { interims = a.interims; head = a.head; body = a.body } in
    record {
      replies = reply ∷ rest.replies;
      are = (answer_at w each.0 stays.0, rest.are);
      came_is = ap (λ l. l ++ flat_map answer_of_server ws) a.used_is ∙ ap (λ l. print_reply reply ++ l) rest.came_is;
    }
