-- What one move carries, and what two carry one after the other.
use Rattle.std.proofs.Common.{◌≡◌, ℕ, zero, suc, ◌+◌, ◌<◌, ◌≤◌, ◌||◌, List, [], ◌++◌, Option, Bool, true, false, length, take, drop, refl, ap, sym, subst, ◌∙◌, append_assoc, append-nil, arith, length-append, length-take}
use Rattle.std.proofs.Math.Seq.{drop-nil}
use Rattle.std.proofs.lemmas.List.{take-append-drop}
use Rattle.std.specs.Io.KnownBytes.{Consumes, Appends}
use Rattle.std.proofs.KnownBytes.{Consumes-nil, Appends-nil, Consumes-trans, Appends-trans}
use Rattle.exchange_machine.specs.Histories.{ExchangeHistory, client_came, client_got, server_came, server_got, signed}
use Rattle.exchange_machine.specs.declared.signs.Sign.{Sign}
use Rattle.exchange_events.proofs.PassLemmas.{passes_stay}
use Rattle.exchange_events.specs.Passes.{held_by, gone_with}
use Rattle.exchange_events.specs.Steps.{IsAtItsStage, ended}
use Rattle.exchange_events.specs.declared.exchange.Exchange.{Exchange}
use Rattle.exchange_events.specs.declared.exchange.Outcome.{Outcome}
use Rattle.exchange_events.specs.declared.exchange.Outcome.TheVariants.{Quiet}
use Rattle.exchange_driver.specs.Drives.{AreSameTerms, Drives}
use Rattle.exchange_driver.specs.Wires.{Wire, Carries}

pub nothing_left : (a b : Option (List ℕ)) → b ≡ a → Consumes a b []
nothing_left a b is = subst (λ (l : Option (List ℕ)). Consumes a l []) (sym is) (Consumes-nil a)

pub nothing_taken : (a b : Option (List ℕ)) → b ≡ a → Appends a b []
nothing_taken a b is = subst (λ (l : Option (List ℕ)). Appends a l []) (sym is) (Appends-nil a)

-- nothing moved
pub carries_none : (old new : Wire) (came sent : List ℕ) → Consumes old.left new.left [] → Appends old.taken new.taken [] → new.waits ≡ old.waits
    → new.there ≡ old.there → Carries old new came came sent sent false
carries_none old new came sent left taken waits there = record {
  gave = [];
  gone = left;
  came = ap (λ l. came ++ l) waits ∙ sym (append-nil (came ++ old.waits));
  took = [];
  added = taken;
  sent = sym (append-nil sent);
  some = λ e. let no : false ≡ true = e in cc;
  none = λ low. absurd (omega arith);
  same = there;
  idle = λ e. refl;
  still = λ e none. waits ∙ none;
}

pub carries_same : (wire : Wire) (came sent : List ℕ) → Carries wire wire came came sent sent false
carries_same wire came sent = carries_none wire wire came sent (Consumes-nil wire.left) (Appends-nil wire.taken) refl refl

-- some bytes were sent
pub carries_sent : (old new : Wire) (came sent bytes : List ℕ) (count : ℕ) → new.left ≡ old.left → Appends old.taken new.taken (take count bytes)
    → new.waits ≡ old.waits → 0 < count → count ≤ length bytes → new.there ≡ old.there → (old.there ≡ false → count ≡ 0)
    → Carries old new came came sent (sent ++ take count bytes) true
carries_sent old new came sent bytes count left taken waits some within there never = record {
  gave = [];
  gone = nothing_left old.left new.left left;
  came = ap (λ l. came ++ l) waits ∙ sym (append-nil (came ++ old.waits));
  took = take count bytes;
  added = taken;
  sent = refl;
  some = λ e. let long = length-take count bytes in omega arith;
  none = λ low. refl;
  same = there;
  idle = λ e. absurd (omega (arith, never e));
  still = λ e none. waits ∙ none;
}

-- what waited was taken
pub carries_used : (old new : Wire) (came sent : List ℕ) (used : ℕ) → new.left ≡ old.left → new.taken ≡ old.taken → new.waits ≡ drop used old.waits
    → new.there ≡ old.there → Carries old new came (came ++ take used old.waits) sent sent false
carries_used old new came sent used left taken waits there = record {
  gave = [];
  gone = nothing_left old.left new.left left;
  came = ap (λ l. (came ++ take used old.waits) ++ l) waits ∙ append_assoc came (take used old.waits) (drop used old.waits)
      ∙ ap (λ l. came ++ l) (take-append-drop used old.waits) ∙ sym (append-nil (came ++ old.waits));
  took = [];
  added = nothing_taken old.taken new.taken taken;
  sent = sym (append-nil sent);
  some = λ e. let no : false ≡ true = e in cc;
  none = λ low. absurd (omega arith);
  same = there;
  idle = λ e. refl;
  still = λ e none. waits ∙ ap (λ l. drop used l) none ∙ drop-nil used;
}

-- what was read was taken, and the rest waits
pub carries_heard : (old new : Wire) (came sent bytes : List ℕ) (used : ℕ) → Consumes old.left new.left bytes → new.taken ≡ old.taken → old.waits ≡ []
    → new.waits ≡ drop used bytes → 0 < length bytes → new.there ≡ old.there → (old.there ≡ false → length bytes ≡ 0)
    → Carries old new came (came ++ take used bytes) sent sent true
carries_heard old new came sent bytes used left taken none waits some there never = record {
  gave = bytes;
  gone = left;
  came = ap (λ l. (came ++ take used bytes) ++ l) waits ∙ append_assoc came (take used bytes) (drop used bytes)
      ∙ ap (λ l. came ++ l) (take-append-drop used bytes) ∙ ap (λ l. l ++ bytes) (sym (append-nil came) ∙ ap (λ l. came ++ l) (sym none));
  took = [];
  added = nothing_taken old.taken new.taken taken;
  sent = sym (append-nil sent);
  some = λ e. let long = length-append bytes [] in omega arith;
  none = λ low. refl;
  same = there;
  idle = λ e. absurd (omega (arith, never e));
  still = λ e empty. absurd (omega (arith, never e));
}

moved_either : (a b : Bool) (few many : ℕ) → (a ≡ true → 0 < few) → (b ≡ true → 0 < many) → (a || b) ≡ true → 0 < few + many
moved_either true b few many first second e = let some = first refl in omega arith
moved_either false b few many first second e = let some = second e in omega arith

either_moved : (a b : Bool) (few many : ℕ) → (0 < few → a ≡ true) → (0 < many → b ≡ true) → 0 < few + many → (a || b) ≡ true
either_moved true b few many first second low = refl
either_moved false b zero many first second low = second (omega (arith, low))
either_moved false b (suc few) many first second low = let no : false ≡ true = first (omega arith) in cc

neither_moved : (a b : Bool) → a ≡ false → b ≡ false → (a || b) ≡ false
neither_moved a b first second = rw (first, second) refl

pub carries_on : (a b c : Wire) (came1 came2 came3 sent1 sent2 sent3 : List ℕ) (first second : Bool) → Carries a b came1 came2 sent1 sent2 first
    → Carries b c came2 came3 sent2 sent3 second → Carries a c came1 came3 sent1 sent3 (first || second)
carries_on a b c came1 came2 came3 sent1 sent2 sent3 first second one two =
    let long : length ((one.gave ++ two.gave) ++ (one.took ++ two.took)) ≡ length (one.gave ++ one.took) + length (two.gave ++ two.took) =
    let i = length-append (one.gave ++ two.gave) (one.took ++ two.took) in
    let j = length-append one.gave two.gave in
    let k = length-append one.took two.took in
    let l = length-append one.gave one.took in
    let m = length-append two.gave two.took in
    omega arith in
    record {
      gave = one.gave ++ two.gave;
      gone = Consumes-trans a.left b.left c.left one.gave two.gave one.gone two.gone;
      came = two.came ∙ ap (λ l. l ++ two.gave) one.came ∙ append_assoc (came1 ++ a.waits) one.gave two.gave;
      took = one.took ++ two.took;
      added = Appends-trans a.taken b.taken c.taken one.took two.took one.added two.added;
      sent = two.sent ∙ ap (λ l. l ++ two.took) one.sent ∙ append_assoc sent1 one.took two.took;
      some = λ e. let low = moved_either first second _ _ one.some two.some e in omega arith;
      none = λ low. either_moved first second _ _ one.none two.none (omega arith);
      same = two.same ∙ one.same;
      idle = λ e. neither_moved first second (one.idle e) (two.idle (one.same ∙ e));
      still = λ e none. two.still (one.same ∙ e) (one.still e none);
    }

same_terms : (h : ExchangeHistory) → AreSameTerms h h
same_terms h = record { grants = refl; posts = refl; tries = refl; adds = refl }

-- nothing was done
pub drives_none : (client server : Wire) (h : ExchangeHistory) (x : Exchange) → IsAtItsStage x h → Drives client client server server false false h x Quiet
drives_none client server h x is = record {
  now = h;
  client = carries_same client h.client_in h.to_client;
  server = carries_same server h.server_in h.to_server;
  same = same_terms h;
  at = is;
}

-- two moves, one after the other
pub drives_on : (c0 c1 c2 s0 s1 s2 : Wire) (a1 a2 b1 b2 : Bool) (h : ExchangeHistory) (x y : Exchange) (outcome : Outcome) → Drives c0 c1 s0 s1 a1 b1 h x Quiet
    → ((g : ExchangeHistory) → IsAtItsStage x g → Drives c1 c2 s1 s2 a2 b2 g y outcome) → Drives c0 c2 s0 s2 (a1 || a2) (b1 || b2) h y outcome
drives_on c0 c1 c2 s0 s1 s2 a1 a2 b1 b2 h x y outcome one more =
    let two = more one.now one.at in
    record {
      now = two.now;
      client = carries_on c0 c1 c2 _ _ _ _ _ _ a1 a2 one.client two.client;
      server = carries_on s0 s1 s2 _ _ _ _ _ _ b1 b2 one.server two.server;
      same = record {
        grants = two.same.grants ∙ one.same.grants;
        posts = two.same.posts ∙ one.same.posts;
        tries = two.same.tries ∙ one.same.tries;
        adds = two.same.adds ∙ one.same.adds;
      };
      at = two.at;
    }

-- passes that came go on
pub driven_passes : (c0 c1 s0 s1 : Wire) (a b : Bool) (h : ExchangeHistory) (x y : Exchange) (outcome : Outcome) → IsAtItsStage x h → Drives c0 c1 s0 s1 a b h y outcome
    → held_by x ≡ gone_with outcome ++ held_by y
driven_passes c0 c1 s0 s1 a b h x y outcome is it = passes_stay x y h it.now outcome is it.same.grants it.same.posts it.at

-- a move at the client's side
at_client_side : (c0 c1 s : Wire) (h now : ExchangeHistory) (y : Exchange) (outcome : Outcome) (moved : Bool)
    → Carries c0 c1 h.client_in now.client_in h.to_client now.to_client moved → now.server_in ≡ h.server_in → now.to_server ≡ h.to_server
    → AreSameTerms h now → IsAtItsStage y (ended outcome now) → Drives c0 c1 s s moved false h y outcome
at_client_side c0 c1 s h now y outcome moved carries came sent same at = record {
  now = now;
  client = carries;
  server = subst (λ l. Carries s s h.server_in l h.to_server now.to_server false) (sym came)
      (subst (λ l. Carries s s h.server_in h.server_in h.to_server l false) (sym sent) (carries_same s h.server_in h.to_server));
  same = same;
  at = at;
}

-- a move at the server's
at_server_side : (c s0 s1 : Wire) (h now : ExchangeHistory) (y : Exchange) (outcome : Outcome) (moved : Bool)
    → Carries s0 s1 h.server_in now.server_in h.to_server now.to_server moved → now.client_in ≡ h.client_in → now.to_client ≡ h.to_client
    → AreSameTerms h now → IsAtItsStage y (ended outcome now) → Drives c c s0 s1 false moved h y outcome
at_server_side c s0 s1 h now y outcome moved carries came sent same at = record {
  now = now;
  client = subst (λ l. Carries c c h.client_in l h.to_client now.to_client false) (sym came)
      (subst (λ l. Carries c c h.client_in h.client_in h.to_client l false) (sym sent) (carries_same c h.client_in h.to_client));
  server = carries;
  same = same;
  at = at;
}

pub client_kept : (c0 c1 s : Wire) (h : ExchangeHistory) (x : Exchange) → Consumes c0.left c1.left [] → Appends c0.taken c1.taken [] → c1.waits ≡ c0.waits
    → c1.there ≡ c0.there → IsAtItsStage x h → Drives c0 c1 s s false false h x Quiet
client_kept c0 c1 s h x left taken waits there is =
    at_client_side c0 c1 s h h x Quiet false (carries_none c0 c1 h.client_in h.to_client left taken waits there) refl refl (same_terms h) is

pub client_signed : (c0 c1 s : Wire) (h : ExchangeHistory) (sign : Sign) (y : Exchange) (outcome : Outcome) → Consumes c0.left c1.left [] → Appends c0.taken c1.taken []
    → c1.waits ≡ c0.waits → c1.there ≡ c0.there → IsAtItsStage y (ended outcome (signed h sign)) → Drives c0 c1 s s false false h y outcome
client_signed c0 c1 s h sign y outcome left taken waits there is =
    at_client_side c0 c1 s h (signed h sign) y outcome false (carries_none c0 c1 h.client_in h.to_client left taken waits there) refl refl
    (record { grants = refl; posts = refl; tries = refl; adds = refl }) is

pub client_sent : (c0 c1 s : Wire) (h : ExchangeHistory) (bytes : List ℕ) (count : ℕ) (y : Exchange) (outcome : Outcome) → c1.left ≡ c0.left
    → Appends c0.taken c1.taken (take count bytes) → c1.waits ≡ c0.waits → 0 < count → count ≤ length bytes
    → c1.there ≡ c0.there → (c0.there ≡ false → count ≡ 0) → IsAtItsStage y (ended outcome (client_got h (take count bytes))) → Drives c0 c1 s s true false h y outcome
client_sent c0 c1 s h bytes count y outcome left taken waits some within there never is =
    at_client_side c0 c1 s h (client_got h (take count bytes)) y outcome true
    (carries_sent c0 c1 h.client_in h.to_client bytes count left taken waits some within there never) refl refl
    (record { grants = refl; posts = refl; tries = refl; adds = refl }) is

pub client_used : (c0 c1 s : Wire) (h : ExchangeHistory) (used : ℕ) (y : Exchange) (outcome : Outcome) → c1.left ≡ c0.left → c1.taken ≡ c0.taken
    → c1.waits ≡ drop used c0.waits → c1.there ≡ c0.there → IsAtItsStage y (ended outcome (client_came h (take used c0.waits))) → Drives c0 c1 s s false false h y outcome
client_used c0 c1 s h used y outcome left taken waits there is =
    at_client_side c0 c1 s h (client_came h (take used c0.waits)) y outcome false (carries_used c0 c1 h.client_in h.to_client used left taken waits there) refl refl
    (record { grants = refl; posts = refl; tries = refl; adds = refl }) is

pub client_heard : (c0 c1 s : Wire) (h : ExchangeHistory) (bytes : List ℕ) (used : ℕ) (y : Exchange) (outcome : Outcome) → Consumes c0.left c1.left bytes
    → c1.taken ≡ c0.taken → c0.waits ≡ [] → c1.waits ≡ drop used bytes → 0 < length bytes
    → c1.there ≡ c0.there → (c0.there ≡ false → length bytes ≡ 0) → IsAtItsStage y (ended outcome (client_came h (take used bytes)))
    → Drives c0 c1 s s true false h y outcome
client_heard c0 c1 s h bytes used y outcome left taken none waits some there never is =
    at_client_side c0 c1 s h (client_came h (take used bytes)) y outcome true
    (carries_heard c0 c1 h.client_in h.to_client bytes used left taken none waits some there never) refl refl
    (record { grants = refl; posts = refl; tries = refl; adds = refl }) is

pub server_kept : (c s0 s1 : Wire) (h : ExchangeHistory) (x : Exchange) → Consumes s0.left s1.left [] → Appends s0.taken s1.taken [] → s1.waits ≡ s0.waits
    → s1.there ≡ s0.there → IsAtItsStage x h → Drives c c s0 s1 false false h x Quiet
server_kept c s0 s1 h x left taken waits there is =
    at_server_side c s0 s1 h h x Quiet false (carries_none s0 s1 h.server_in h.to_server left taken waits there) refl refl (same_terms h) is

pub server_signed : (c s0 s1 : Wire) (h : ExchangeHistory) (sign : Sign) (y : Exchange) (outcome : Outcome) → Consumes s0.left s1.left [] → Appends s0.taken s1.taken []
    → s1.waits ≡ s0.waits → s1.there ≡ s0.there → IsAtItsStage y (ended outcome (signed h sign)) → Drives c c s0 s1 false false h y outcome
server_signed c s0 s1 h sign y outcome left taken waits there is =
    at_server_side c s0 s1 h (signed h sign) y outcome false (carries_none s0 s1 h.server_in h.to_server left taken waits there) refl refl
    (record { grants = refl; posts = refl; tries = refl; adds = refl }) is

pub server_sent : (c s0 s1 : Wire) (h : ExchangeHistory) (bytes : List ℕ) (count : ℕ) (y : Exchange) (outcome : Outcome) → s1.left ≡ s0.left
    → Appends s0.taken s1.taken (take count bytes) → s1.waits ≡ s0.waits → 0 < count → count ≤ length bytes
    → s1.there ≡ s0.there → (s0.there ≡ false → count ≡ 0) → IsAtItsStage y (ended outcome (server_got h (take count bytes))) → Drives c c s0 s1 false true h y outcome
server_sent c s0 s1 h bytes count y outcome left taken waits some within there never is =
    at_server_side c s0 s1 h (server_got h (take count bytes)) y outcome true
    (carries_sent s0 s1 h.server_in h.to_server bytes count left taken waits some within there never) refl refl
    (record { grants = refl; posts = refl; tries = refl; adds = refl }) is

pub server_used : (c s0 s1 : Wire) (h : ExchangeHistory) (used : ℕ) (y : Exchange) (outcome : Outcome) → s1.left ≡ s0.left → s1.taken ≡ s0.taken
    → s1.waits ≡ drop used s0.waits → s1.there ≡ s0.there → IsAtItsStage y (ended outcome (server_came h (take used s0.waits))) → Drives c c s0 s1 false false h y outcome
server_used c s0 s1 h used y outcome left taken waits there is =
    at_server_side c s0 s1 h (server_came h (take used s0.waits)) y outcome false (carries_used s0 s1 h.server_in h.to_server used left taken waits there) refl refl
    (record { grants = refl; posts = refl; tries = refl; adds = refl }) is

pub server_heard : (c s0 s1 : Wire) (h : ExchangeHistory) (bytes : List ℕ) (used : ℕ) (y : Exchange) (outcome : Outcome) → Consumes s0.left s1.left bytes
    → s1.taken ≡ s0.taken → s0.waits ≡ [] → s1.waits ≡ drop used bytes → 0 < length bytes
    → s1.there ≡ s0.there → (s0.there ≡ false → length bytes ≡ 0) → IsAtItsStage y (ended outcome (server_came h (take used bytes)))
    → Drives c c s0 s1 false true h y outcome
server_heard c s0 s1 h bytes used y outcome left taken none waits some there never is =
    at_server_side c s0 s1 h (server_came h (take used bytes)) y outcome true
    (carries_heard s0 s1 h.server_in h.to_server bytes used left taken none waits some there never) refl refl
    (record { grants = refl; posts = refl; tries = refl; adds = refl }) is
