-- What is left of an exchange whose messages were whole.
use Rattle.std.proofs.Common.{◌≡◌, ◌≢◌, ◌∙◌, ◌&&◌, ℕ, Bool, true, false, true≢false, List, [], ◌∷◌, ◌++◌, take, drop, refl, sym, ap, append_assoc, subst}
use Rattle.std.proofs.lemmas.List.{take-append-drop}
use Rattle.httparse.specs.Grammar.{print_request}
use Rattle.http_texts.specs.Framings.{request_framing}
use Rattle.http_texts.specs.Messages.{IsForwarded, IsAnswered}
use Rattle.http_texts.specs.Persistences.{is_delimited, is_kept_by_server, wished}
use Rattle.http_texts.specs.Replies.{leave_text}
use Rattle.http_texts.specs.Texts.{framed_for}
use Rattle.http_texts.specs.declared.persistence.Persistence.{Persistence}
use Rattle.http_texts.specs.declared.persistence.Persistence.TheVariants.{Close, Persist, KeepAlive}
use Rattle.req_view.specs.Answer.{answer_of}
use Rattle.req_view.specs.Request.{Request}
use Rattle.base_verdict.specs.declared.Ending.{Ending}
use Rattle.base_verdict.specs.declared.Ending.TheVariants.{Failed}
use Rattle.http_bodies.specs.Stops.{is_done}
use Rattle.http_bodies.specs.declared.coding.Coding.{Coding}
use Rattle.exchange_machine.specs.Headline.{AreTries, ClientText, Sound, ToServer}
use Rattle.exchange_machine.specs.Headline.ArePosted.{all_posted}
use Rattle.exchange_machine.specs.Headline.AreTries.{none as untried, of_request as some_tries}
use Rattle.exchange_machine.specs.Headline.ToServer.{nothing, of_request}
use Rattle.exchange_machine.specs.Headline.ClientText.{silent, refused_unread, late, starved, unserved, refused, answered}
use Rattle.exchange_machine.specs.Histories.{ExchangeHistory, client_got, posted, reached_by}
use Rattle.exchange_machine.specs.Repeats.{is_bare}
use Rattle.exchange_machine.specs.Settlings.{IsSettling, asks_to_persist, is_clean, is_done_at}
use Rattle.exchange_machine.specs.Stages.{IsForwarding}
use Rattle.exchange_machine.specs.Wants.{is_none}
use Rattle.exchange_machine.specs.Wholes.{Whole, Ends, EndsClean, IsBare, told}
use Rattle.exchange_machine.specs.declared.sides.Down.{Down}
use Rattle.exchange_machine.specs.declared.sides.Down.TheVariants.{Heads, Body}
use Rattle.exchange_machine.specs.declared.forwarding.Forwarding.{Forwarding}
use Rattle.exchange_machine.specs.declared.settling.Settling.{Settling}
use Rattle.exchange_machine.proofs.SideLemmas.{up_whole, down_whole, down_as, forwarding_server, forwarding_client, forwarding_ends, posted_client, posted_server}

-- the exchange, where its messages were whole: this is its request's body, and this its answer
abbrev whole_of : (p : Forwarding) (h : ExchangeHistory) → IsForwarding p h → List ℕ → List ℕ → Whole
whole_of p h is body answer = record {
  pass = p.pass;
  head = is.asked.head;
  body = body;
  adds = p.adds;
  forwarded = is.request;
  answer = answer;
  kept = p.kept;
  says = p.says;
  text = is.answer;
}

whole_ends : (p : Forwarding) (h : ExchangeHistory) (ending : Ending) → (is : IsForwarding p h) → p.phase ≡ Body → is_done p.up.coding ≡ true → is_done p.down.coding ≡ true
    → (body : List ℕ) × (answer : List ℕ) × Ends (posted h p.pass ending) (whole_of p h is body answer) p.up_held.items p.down.out p.up.out p.down_held.items
whole_ends p h ending is at asked_whole answer_whole =
    let up = up_whole p.adds p.view p.up.coding p.up_held.items is.behind is.request is.up asked_whole in
    let down = down_whole p.says p.kept p.view.method (framed_for p.view.version) p.down.coding p.down_held.items h.server_in is.answer
    (down_as Body at is) answer_whole in
    let head = is.asked.head in
    let told_of = subst (λ (r : Request). (answered : IsAnswered p.says r.method (framed_for r.version) down.0 is.answer)
    × (p.says ≢ Close → is_delimited (framed_for r.version) answered.plan.body ≡ true)
    × (p.kept ≡ true → is_kept_by_server (answer_of answered.head) answered.plan ≡ true)) is.asked.request_is (down.2, down.3, down.4) in (
      up.0,
      down.0,
      record {
        is = record {
          head = is.asked.is;
          request = subst (λ (r : Request). IsForwarded p.adds r up.0 is.request) is.asked.request_is up.2;
          answered = told_of.0;
          delimits = told_of.1;
          wishes = λ other. ap wished (sym is.asked.request_is) ∙ (is.agreed other).1;
          keeps = told_of.2;
        };
        came = is.asked.input_is ∙ ap (λ l. print_request head ++ l) up.1 ∙ sym (append_assoc (print_request head) up.0 p.up_held.items);
        tells = ap (λ (r : Request). leave_text r ++ is.answer) (sym is.asked.request_is) ∙ is.told;
        sends = is.sent;
        posted = record { earlier = h.posts; post = record { pass = p.pass; ending = ending; reached = reached_by h }; posts_are = refl; same = refl };
        answers = down.1;
      },
    )

both : (a b : Bool) → (a && b) ≡ true → (a ≡ true) × (b ≡ true)
both true b is = (refl, is)
both false b is = absurd (true≢false (sym is))

none_is : (bytes : List ℕ) → is_none bytes ≡ true → bytes ≡ []
none_is [] is = refl
none_is (b ∷ bytes) is = absurd (true≢false (sym is))

stay_is : (asks : Persistence) → asks_to_persist asks ≡ true → asks ≡ Persist
stay_is Close is = absurd (true≢false (sym is))
stay_is Persist is = refl
stay_is KeepAlive is = absurd (true≢false (sym is))

done_at : (phase : Down) (c : Coding) → is_done_at phase c ≡ true → (phase ≡ Body) × (is_done c ≡ true)
done_at (Heads count) c is = absurd (true≢false (sym is))
done_at Body c is = (refl, is)

-- what it takes that nothing is left on the server's side
record IsClean (p : Forwarding) : Type 0 where
  asks : p.adds.asks ≡ Persist
  kept : p.kept ≡ true
  sent : p.up.out ≡ []
  none : p.down_held.items ≡ []
  request : is_done p.up.coding ≡ true
  answer : (p.phase ≡ Body) × (is_done p.down.coding ≡ true)
  bare : is_bare p.framing ≡ true

clean_is : (p : Forwarding) → is_clean p ≡ true → IsClean p
clean_is p is =
    let six = both (asks_to_persist p.adds.asks && p.kept && is_none p.up.out && is_none p.down_held.items && is_done p.up.coding && is_done_at p.phase p.down.coding)
    (is_bare p.framing) is in
    let five = both (asks_to_persist p.adds.asks && p.kept && is_none p.up.out && is_none p.down_held.items && is_done p.up.coding)
    (is_done_at p.phase p.down.coding) six.0 in
    let four = both (asks_to_persist p.adds.asks && p.kept && is_none p.up.out && is_none p.down_held.items) (is_done p.up.coding) five.0 in
    let three = both (asks_to_persist p.adds.asks && p.kept && is_none p.up.out) (is_none p.down_held.items) four.0 in
    let two = both (asks_to_persist p.adds.asks && p.kept) (is_none p.up.out) three.0 in
    let one = both (asks_to_persist p.adds.asks) p.kept two.0 in
    record {
      asks = stay_is p.adds.asks one.0;
      kept = one.1;
      sent = none_is p.up.out two.1;
      none = none_is p.down_held.items three.1;
      request = four.1;
      answer = done_at p.phase p.down.coding five.1;
      bare = six.1;
    }

bare_of : (p : Forwarding) (h : ExchangeHistory) → (is : IsForwarding p h) → is_bare p.framing ≡ true → (body answer : List ℕ) → IsBare (whole_of p h is body answer)
bare_of p h is bare body answer = record { framing = p.framing; framed = ap request_framing (sym is.asked.request_is) ∙ is.framed; bare = bare }

-- whose client is left
pub forwarding_clean : (p : Forwarding) (h : ExchangeHistory) (ending : Ending) → IsForwarding p h → is_clean p ≡ true → EndsClean (posted h p.pass ending) p.down.out
forwarding_clean p h ending is clean =
    let all = clean_is p clean in
    let it = whole_ends p h ending is all.answer.0 all.request all.answer.1 in
    let w = whole_of p h is it.0 it.1 in
    record {
      whole = w;
      behind = p.up_held.items;
      ends = subst (λ (l : List ℕ). Ends (posted h p.pass ending) w p.up_held.items p.down.out l []) all.sent
          (subst (λ (l : List ℕ). Ends (posted h p.pass ending) w p.up_held.items p.down.out p.up.out l) all.none it.2);
      asks = all.asks;
      keeps = all.kept;
      bare = bare_of p h is all.bare it.0 it.1;
    }

pub forwarding_settles : (p : Forwarding) (h : ExchangeHistory) (ending : Ending) (clean : Bool) → IsForwarding p h
    → (p.phase ≡ Body) × (is_done p.up.coding ≡ true) × (is_done p.down.coding ≡ true) × (p.says ≢ Close)
    → (clean ≡ true → is_clean p ≡ true) → (ending ≡ Failed → p.reached ≡ false)
    → IsSettling (record { out = p.down; behind = p.up_held; clean = clean }) (posted h p.pass ending)
forwarding_settles p h ending clean is done rests fair =
    let it = whole_ends p h ending is done.0 done.1 done.2 in
    let over = forwarding_ends p h ending false false is fair (λ on. absurd (true≢false (sym on))) (λ on. absurd (true≢false (sym on))) in
    record {
      whole = whole_of p h is it.0 it.1;
      unsent = p.up.out;
      extra = p.down_held.items;
      ends = it.2;
      left_open = done.3;
      clean = λ on.
          let all = clean_is p (rests on) in
          (all.sent, all.none, all.asks, all.kept, bare_of p h is all.bare it.0 it.1);
      server = posted_server h p.pass ending (forwarding_server p h is);
      client = subst (λ (r : Request). ClientText (posted h p.pass ending) (leave_text r ++ is.answer)) is.asked.request_is
          (posted_client h p.pass ending (leave_text p.view ++ is.answer) (forwarding_client p h is));
      grants = over.grants;
      fair = over.fair;
      tried = over.tried;
    }

pub got_client : (h : ExchangeHistory) (bytes text : List ℕ) → ClientText h text → ClientText (client_got h bytes) text
got_client h bytes text silent = silent
got_client h bytes text (refused_unread fault other why) = refused_unread fault other why
got_client h bytes text (late shows none grants) = late shows none grants
got_client h bytes text (starved shows grants) = starved shows grants
got_client h bytes text (unserved r behind code asked why) = unserved r behind code asked why
got_client h bytes text (refused r behind code asked why) = refused r behind code asked why
got_client h bytes text (answered says r behind t asked part) = answered says r behind t asked part

pub got_server : (h : ExchangeHistory) (bytes : List ℕ) → ToServer h → ToServer (client_got h bytes)
got_server h bytes (nothing none) = nothing none
got_server h bytes (of_request r behind asked part) = of_request r behind asked part

pub got_tried : (h : ExchangeHistory) (bytes : List ℕ) → AreTries h → AreTries (client_got h bytes)
got_tried h bytes (untried is) = untried is
got_tried h bytes (some_tries r behind asked tries) = some_tries r behind asked tries

-- the client took more bytes, this many, and the rest waits
ends_took : (h : ExchangeHistory) (w : Whole) (behind out left unsent extra : List ℕ) (count : ℕ) → Ends h w behind out unsent extra → left ≡ drop count out
    → Ends (client_got h (take count out)) w behind left unsent extra
ends_took h w behind out left unsent extra count is rest =
    let front = take count out in
    record {
      is = is.is;
      came = is.came;
      tells =
          is.tells ∙ ap (λ l. h.to_client ++ l) (sym (take-append-drop count out)) ∙ sym (append_assoc h.to_client front (drop count out))
          ∙ ap (λ l. (h.to_client ++ front) ++ l) (sym rest);
      sends = is.sends;
      posted = record { earlier = is.posted.earlier; post = is.posted.post; posts_are = is.posted.posts_are; same = is.posted.same };
      answers = is.answers;
    }

pub clean_took : (h : ExchangeHistory) (out left : List ℕ) (count : ℕ) → EndsClean h out → left ≡ drop count out → EndsClean (client_got h (take count out)) left
clean_took h out left count is rest = record {
  whole = is.whole;
  behind = is.behind;
  ends = ends_took h is.whole is.behind out left [] [] count is.ends rest;
  asks = is.asks;
  keeps = is.keeps;
  bare = is.bare;
}

pub settling_took : (s t : Settling) (h : ExchangeHistory) (count : ℕ) → IsSettling s h → t ≡ record s { out = t.out } → t.out.out ≡ drop count s.out.out
    → IsSettling t (client_got h (take count s.out.out))
settling_took s t h count is same out =
    let front = take count s.out.out in
    subst (λ (q : Settling). IsSettling q (client_got h front)) (sym same) (record {
      whole = is.whole;
      unsent = is.unsent;
      extra = is.extra;
      ends = ends_took h is.whole s.behind.items s.out.out t.out.out is.unsent is.extra count is.ends out;
      left_open = is.left_open;
      clean = is.clean;
      server = got_server h front is.server;
      client = got_client h front (told is.whole) is.client;
      grants = is.grants;
      fair = is.fair;
      tried = got_tried h front is.tried;
    })

pub settling_sound : (s : Settling) (h : ExchangeHistory) → IsSettling s h → Sound h
settling_sound s h is = record {
  server = is.server;
  client = record { text = told is.whole; is = is.client; front = record { rest = s.out.out; is = is.ends.tells } };
  once = all_posted is.grants;
  fair = is.fair;
  tried = is.tried;
}
