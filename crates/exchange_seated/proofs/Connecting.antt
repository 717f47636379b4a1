-- A server's connection over what its exchange does.
use Rattle.std.proofs.Common.{◌≡◌, ◌≢◌, ◌∙◌, ◌<◌, ◌≤◌, ◌==◌, inl, inr, ℕ, Bool, true, false, List, [], ◌∷◌, ◌++◌, Option, Some, None, length, refl, sym, ap, subst, append_assoc, append-nil, arith}
use Rattle.std.proofs.Math.Logic.{∥∥₁_map}
use Rattle.std.proofs.lemmas.Bool.{eqb-true}
use Rattle.std.specs.List.{flat_map}
use Rattle.std.specs.Io.KnownBytes.{Consumes, Appends}
use Rattle.std.proofs.lemmas.Grind.{flat_map-append}
use Rattle.std.proofs.KnownBytes.{Consumes-nil, Appends-nil, Consumes-trans, Appends-trans}
use Rattle.grant_board.specs.Views.{Grant}
use Rattle.base_lists.proofs.Members.{all_append}
use Rattle.exchange_machine.specs.Histories.{ExchangeHistory}
use Rattle.exchange_machine.specs.Stages.{IsUnsent}
use Rattle.exchange_machine.specs.Wholes.{Whole, IsWhole, EndsClean, forwarded_of, answer_of_server}
use Rattle.exchange_events.specs.Passes.{held_by, gone_with}
use Rattle.exchange_machine.specs.declared.dialing.Dialing.{Dialing}
use Rattle.exchange_events.specs.Steps.{IsAtItsStage, HasHistory, ended}
use Rattle.exchange_events.specs.declared.exchange.Exchange.{Exchange}
use Rattle.exchange_events.specs.declared.exchange.Exchange.TheVariants as Stages
use Rattle.exchange_events.specs.declared.exchange.Outcome.{Outcome}
use Rattle.exchange_events.specs.declared.exchange.Outcome.TheVariants as Outcomes
use Rattle.exchange_events.proofs.StepLemmas.{at_sound}
use Rattle.exchange_driver.specs.Drives.{Drives}
use Rattle.exchange_driver.specs.Wires.{Wire}
use Rattle.exchange_seated.specs.Connections.{IsOpenToServer, IsServedOn, IsBehind, IsLeftBy, IsUnsentYet, StillHolds}
use Rattle.exchange_seated.specs.Seats.{server_of}
use Rattle.exchange_seated.proofs.Seating.{held_one}

-- what is given away is neither a byte of the server's nor one for it, where its connection isn't given up
pub ended_sent : (outcome : Outcome) (h : ExchangeHistory) → outcome ≢ Outcomes.Retries → (ended outcome h).to_server ≡ h.to_server
ended_sent Outcomes.Quiet h stays = refl
ended_sent (Outcomes.Posts pass ending) h stays = refl
ended_sent Outcomes.Starved h stays = refl
ended_sent (Outcomes.StarvedPosts pass ending) h stays = refl
ended_sent Outcomes.Retries h stays = absurd (stays refl)
ended_sent (Outcomes.Returns pass) h stays = refl

pub ended_came : (outcome : Outcome) (h : ExchangeHistory) → outcome ≢ Outcomes.Retries → (ended outcome h).server_in ≡ h.server_in
ended_came Outcomes.Quiet h stays = refl
ended_came (Outcomes.Posts pass ending) h stays = refl
ended_came Outcomes.Starved h stays = refl
ended_came (Outcomes.StarvedPosts pass ending) h stays = refl
ended_came Outcomes.Retries h stays = absurd (stays refl)
ended_came (Outcomes.Returns pass) h stays = refl

-- and where it is given up, nothing went over the next one yet
ended_unsent : (outcome : Outcome) (h : ExchangeHistory) → IsUnsent h → IsUnsent (ended outcome h)
ended_unsent Outcomes.Quiet h u = u
ended_unsent (Outcomes.Posts pass ending) h u = record { server = u.server; answer = u.answer }
ended_unsent Outcomes.Starved h u = record { server = u.server; answer = u.answer }
ended_unsent (Outcomes.StarvedPosts pass ending) h u = record { server = u.server; answer = u.answer }
ended_unsent Outcomes.Retries h u = record { server = refl; answer = refl }
ended_unsent (Outcomes.Returns pass) h u = record { server = u.server; answer = u.answer }

pub retried_unsent : (outcome : Outcome) (h : ExchangeHistory) → outcome ≡ Outcomes.Retries → IsUnsent (ended outcome h)
retried_unsent outcome h is = subst (λ (o : Outcome). IsUnsent (ended o h)) (sym is) (record { server = refl; answer = refl })

-- a text that was sent whole is one more
pub handed : (f : Whole → List ℕ) (before : List Whole) (w : Whole) (all now : List ℕ) → all ≡ flat_map f before ++ now → f w ≡ now
    → all ≡ flat_map f (before ++ w ∷ [])
handed f before w all now is whole =
    is ∙ ap (λ l. flat_map f before ++ l) (sym whole ∙ sym (append-nil (f w))) ∙ sym (flat_map-append f before (w ∷ []))

none_of : (l : List ℕ) → ¬ (0 < length l) → l ≡ []
none_of [] never = refl
none_of (b ∷ l) never = absurd (never (omega arith))

pub none_waits : (l : List ℕ) → (length l == 0) ≡ true → l ≡ []
none_waits [] is = refl
none_waits (b ∷ l) is = absurd (omega (arith, eqb-true (length (b ∷ l)) 0 is))

front_none : (a b : List ℕ) → a ++ b ≡ [] → a ≡ []
front_none [] b is = refl
front_none (c ∷ a) b is = let empty : c ∷ (a ++ b) ≡ [] = is in cc

back_none : (a b : List ℕ) → a ++ b ≡ [] → b ≡ []
back_none a b is = sym (ap (λ l. l ++ b) (front_none a b is)) ∙ is

-- an exchange that was driven has its connection still
pub driven_on : (opened c0 c1 s0 s1 : Wire) (a b : Bool) (before : List Whole) (x y : Exchange) (outcome : Outcome) (s : IsServedOn opened before x s0)
    → Drives c0 c1 s0 s1 a b s.history y outcome → outcome ≢ Outcomes.Retries → IsServedOn opened before y s1
driven_on opened c0 c1 s0 s1 a b before x y outcome s d stays =
    let now = ended outcome d.now in
    let sent = flat_map forwarded_of before in
    let came = flat_map answer_of_server before in
    let gave : (s.came ++ s0.waits) ++ d.server.gave ≡ (came ++ now.server_in) ++ s1.waits =
    ap (λ l. (l ++ s0.waits) ++ d.server.gave) s.order.came_is
    ∙ ap (λ l. l ++ d.server.gave) (append_assoc came s.history.server_in s0.waits)
    ∙ append_assoc came (s.history.server_in ++ s0.waits) d.server.gave
    ∙ ap (λ l. came ++ l) (sym d.server.came)
    ∙ ap (λ l. came ++ (l ++ s1.waits)) (sym (ended_came outcome d.now stays))
    ∙ sym (append_assoc came now.server_in s1.waits) in
    record {
      history = now;
      at = d.at;
      sent = s.sent ++ d.server.took;
      came = came ++ now.server_in;
      order = record {
        each = s.order.each;
        stays = s.order.stays;
        sent_is =
            ap (λ l. l ++ d.server.took) s.order.sent_is ∙ append_assoc sent s.history.to_server d.server.took
            ∙ ap (λ l. sent ++ l) (sym d.server.sent ∙ sym (ended_sent outcome d.now stays));
        came_is = refl;
        last = (at_sound y now d.at).server;
      };
      took = Appends-trans opened.taken s0.taken s1.taken s.sent d.server.took s.took d.server.added;
      gave = subst (λ (l : List ℕ). Consumes opened.left s1.left l) gave
          (Consumes-trans opened.left s0.left s1.left (s.came ++ s0.waits) d.server.gave s.gave d.server.gone);
    }

-- one that was told something, too
pub told_on : (opened s0 : Wire) (before : List Whole) (x y : Exchange) (outcome : Outcome) (s : IsServedOn opened before x s0) (now : ExchangeHistory)
    → now.to_server ≡ s.history.to_server → now.server_in ≡ s.history.server_in → IsAtItsStage y (ended outcome now) → outcome ≢ Outcomes.Retries
    → IsServedOn opened before y s0
told_on opened s0 before x y outcome s now sent came at stays = record {
  history = ended outcome now;
  at = at;
  sent = s.sent;
  came = s.came;
  order = record {
    each = s.order.each;
    stays = s.order.stays;
    sent_is = s.order.sent_is ∙ ap (λ l. flat_map forwarded_of before ++ l) (sym (ended_sent outcome now stays ∙ sent));
    came_is = s.order.came_is ∙ ap (λ l. flat_map answer_of_server before ++ l) (sym (ended_came outcome now stays ∙ came));
    last = (at_sound y (ended outcome now) at).server;
  };
  took = s.took;
  gave = s.gave;
}

-- one that has no connection sends nothing to a server
pub driven_unsent : (c0 c1 s0 s1 : Wire) (a b : Bool) (h : ExchangeHistory) (y : Exchange) (outcome : Outcome) (d : Drives c0 c1 s0 s1 a b h y outcome)
    → s0.there ≡ false → s0.waits ≡ [] → IsUnsent h → IsUnsent (ended outcome d.now)
driven_unsent c0 c1 s0 s1 a b h y outcome d there waits u =
    let idle = d.server.idle there in
    let none : d.server.gave ++ d.server.took ≡ [] = none_of (d.server.gave ++ d.server.took)
    (λ low. let no : true ≡ false = sym (d.server.none low) ∙ idle in cc) in
    let came : d.now.server_in ++ s1.waits ≡ [] =
    d.server.came ∙ ap (λ l. (l ++ s0.waits) ++ d.server.gave) u.answer ∙ ap (λ l. l ++ d.server.gave) waits
    ∙ front_none d.server.gave d.server.took none in
    ended_unsent outcome d.now (record {
      server = d.server.sent ∙ ap (λ l. l ++ d.server.took) u.server ∙ back_none d.server.gave d.server.took none;
      answer = front_none d.now.server_in s1.waits came;
    })

pub told_unsent : (h now : ExchangeHistory) (outcome : Outcome) → now.to_server ≡ h.to_server → now.server_in ≡ h.server_in → IsUnsent h
    → IsUnsent (ended outcome now)
told_unsent h now outcome sent came u = ended_unsent outcome now (record { server = sent ∙ u.server; answer = came ∙ u.answer })

-- a new one begins with an exchange that sent nothing yet
pub opened_on : (x : Exchange) (h : ExchangeHistory) (wire : Wire) → wire.waits ≡ [] → IsAtItsStage x h → IsUnsent h → IsServedOn wire [] x wire
opened_on x h wire waits at u = record {
  history = h;
  at = at;
  sent = [];
  came = [];
  order = record { each = tt; stays = tt; sent_is = sym u.server; came_is = sym u.answer; last = (at_sound x h at).server };
  took = Appends-nil wire.taken;
  gave = subst (λ (l : List ℕ). Consumes wire.left wire.left l) (sym waits) (Consumes-nil wire.left);
}

-- so does one that others had
pub taken_up_on : (opened wire : Wire) (before : List Whole) (x : Exchange) (h : ExchangeHistory) (taken left : Option (List ℕ)) → IsBehind opened before taken left
    → wire.taken ≡ taken → Consumes left wire.left [] → wire.waits ≡ [] → IsAtItsStage x h → IsUnsent h → IsServedOn opened before x wire
taken_up_on opened wire before x h taken left b same dry waits at u =
    let sent = flat_map forwarded_of before in
    let came = flat_map answer_of_server before in
    record {
      history = h;
      at = at;
      sent = sent;
      came = came;
      order = record {
        each = b.each;
        stays = b.stays;
        sent_is = sym (append-nil sent) ∙ ap (λ l. sent ++ l) (sym u.server);
        came_is = sym (append-nil came) ∙ ap (λ l. came ++ l) (sym u.answer);
        last = (at_sound x h at).server;
      };
      took = subst (λ (l : Option (List ℕ)). Appends opened.taken l sent) (sym same) b.took;
      gave = subst (λ (l : List ℕ). Consumes opened.left wire.left (came ++ l)) (sym waits)
          (Consumes-trans opened.left left wire.left came [] b.gave dry);
    }

-- one whose exchange ended clean is left to others
pub left_by : (opened wire : Wire) (before : List Whole) (x : Exchange) (out : List ℕ) (taken left : Option (List ℕ)) (s : IsServedOn opened before x wire)
    → EndsClean s.history out → wire.waits ≡ [] → taken ≡ wire.taken → left ≡ wire.left → IsLeftBy opened before x taken left
left_by opened wire before x out taken left s clean waits same_taken same_left =
    let w = clean.whole in
    let e = clean.ends in
    let sent : s.sent ≡ flat_map forwarded_of (before ++ w ∷ []) =
    handed forwarded_of before w s.sent s.history.to_server s.order.sent_is (e.sends ∙ append-nil s.history.to_server) in
    let came : s.came ≡ flat_map answer_of_server (before ++ w ∷ []) =
    handed answer_of_server before w s.came s.history.server_in s.order.came_is (sym (append-nil w.answer) ∙ sym e.answers) in
    record {
      history = s.history;
      at = s.at;
      out = out;
      clean = clean;
      behind = record {
        each = all_append IsWhole before (w ∷ []) s.order.each (e.is, tt);
        stays = all_append IsOpenToServer before (w ∷ []) s.order.stays (record { asks = clean.asks; kept = clean.keeps }, tt);
        took = subst (λ (l : List ℕ). Appends opened.taken taken l) sent (subst (λ (l : Option (List ℕ)). Appends opened.taken l s.sent) (sym same_taken) s.took);
        gave = subst (λ (l : List ℕ). Consumes opened.left left l) (ap (λ l. s.came ++ l) waits ∙ append-nil s.came ∙ came)
            (subst (λ (l : Option (List ℕ)). Consumes opened.left l (s.came ++ wire.waits)) (sym same_left) s.gave);
      };
    }

-- of one pass at most, none is held behind a post, and else the same
pub still_holds : (old new : List Grant) (outcome : Outcome) → length (gone_with outcome ++ new) ≤ 1 → old ≡ gone_with outcome ++ new → StillHolds old new
still_holds old new Outcomes.Quiet few is = inr (sym is)
still_holds old [] (Outcomes.Posts pass ending) few is = inl refl
still_holds old (p ∷ new) (Outcomes.Posts pass ending) few is = absurd (omega (arith, few))
still_holds old new Outcomes.Starved few is = inr (sym is)
still_holds old [] (Outcomes.StarvedPosts pass ending) few is = inl refl
still_holds old (p ∷ new) (Outcomes.StarvedPosts pass ending) few is = absurd (omega (arith, few))
still_holds old new Outcomes.Retries few is = inr (sym is)
still_holds old new (Outcomes.Returns pass) few is = inr (sym is)

pub holds_on : (x y z : Exchange) (outcome : Outcome) → held_by x ≡ gone_with outcome ++ held_by y → z ≡ y → StillHolds (held_by x) (held_by z)
holds_on x y z outcome is same = subst (λ (v : Exchange). StillHolds (held_by x) (held_by v)) (sym same)
    (still_holds (held_by x) (held_by y) outcome (subst (λ (l : List Grant). length l ≤ 1) is (held_one x)) is)

-- who is dialed for was sent nothing
pub dialing_unsent : (x : Exchange) (d : Dialing) → x ≡ Stages.Dialing d → HasHistory x → IsUnsentYet x
dialing_unsent x d is has some = subst (λ (v : Exchange). ∥ ((h : ExchangeHistory) × IsAtItsStage v h × IsUnsent h) ∥₁) (sym is)
    (∥∥₁_map (subst HasHistory is has) (λ it. (it.0, it.1, it.1.unsent)))

-- a poll that told of it changes nothing of what went over it
pub woken_on : (opened s0 s1 : Wire) (before : List Whole) (x : Exchange) → s1.left ≡ s0.left → s1.taken ≡ s0.taken → s1.waits ≡ s0.waits
    → IsServedOn opened before x s0 → IsServedOn opened before x s1
woken_on opened s0 s1 before x left taken waits s = record {
  history = s.history;
  at = s.at;
  sent = s.sent;
  came = s.came;
  order = s.order;
  took = subst (λ (l : Option (List ℕ)). Appends opened.taken l s.sent) (sym taken) s.took;
  gave = subst (λ (l : Option (List ℕ)). Consumes opened.left l (s.came ++ s1.waits)) (sym left)
      (subst (λ (l : List ℕ). Consumes opened.left s0.left (s.came ++ l)) (sym waits) s.gave);
}

pub held_before : (old new : List Grant) → StillHolds old new → new ≢ [] → old ≢ []
held_before old new (inl none) some is = some none
held_before old new (inr same) some is = some (same ∙ is)

pub has_server : (passes : List Grant) (server : ℕ) → server_of passes ≡ Some server → passes ≢ []
has_server passes server is none =
    let lost : None ≡ Some server = sym (ap server_of none) ∙ is in cc
