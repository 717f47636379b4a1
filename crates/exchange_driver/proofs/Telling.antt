-- What one move tells an exchange, and what many tell one after the other.
use Rattle.std.proofs.Common.{◌≡◌, inl, inr, Bool, true, false, List, [], ◌∷◌, ◌++◌, ◌+◌, Option, None, Some, ℕ, arith, length-append, refl, ap, sym, subst, ◌∙◌, append_assoc, append-nil}
use Rattle.exchange_driver.specs.Answers.{SocketAnswer, Heard, with_answers}
use Rattle.exchange_driver.specs.Wires.{Wire, HasHeard}
use Rattle.exchange_driver.specs.Moves.{Move, OfClient, OfServer, ClientWaited, ServerWaited, ClientLacksMemory, ServerLacksMemory, IsWanted, Makes, MakeAll, told_by_client, told_by_server, IsDriven}
use Rattle.exchange_driver.specs.declared.socket.ReadResult.TheVariants.{Bytes, Nothing, Ended}
use Rattle.exchange_events.specs.Answers.{HasHeardEnd, RelayHears, LosesClient}
use Rattle.exchange_events.specs.declared.exchange.Exchange.{Exchange}
use Rattle.exchange_events.specs.declared.exchange.Outcome.{Outcome}
use Rattle.exchange_events.specs.declared.exchange.Outcome.TheVariants.{Quiet}

pub with_none : (a : Option (List SocketAnswer)) → a ≡ with_answers [] a
with_none None = refl
with_none (Some before) = ap Some (sym (append-nil before))

pub with_both : (one two : List SocketAnswer) (a : Option (List SocketAnswer)) → with_answers two (with_answers one a) ≡ with_answers (one ++ two) a
with_both one two None = refl
with_both one two (Some before) = ap Some (append_assoc before one two)

client_append : (one two : List Move) → told_by_client (one ++ two) ≡ told_by_client one ++ told_by_client two
client_append [] two = refl
client_append (OfClient answer ∷ one) two = ap (λ l. answer ∷ l) (client_append one two)
client_append (OfServer answer ∷ one) two = client_append one two
client_append (ClientWaited ∷ one) two = client_append one two
client_append (ServerWaited ∷ one) two = client_append one two
client_append (ClientLacksMemory ∷ one) two = client_append one two
client_append (ServerLacksMemory ∷ one) two = client_append one two

server_append : (one two : List Move) → told_by_server (one ++ two) ≡ told_by_server one ++ told_by_server two
server_append [] two = refl
server_append (OfClient answer ∷ one) two = server_append one two
server_append (OfServer answer ∷ one) two = ap (λ l. answer ∷ l) (server_append one two)
server_append (ClientWaited ∷ one) two = server_append one two
server_append (ServerWaited ∷ one) two = server_append one two
server_append (ClientLacksMemory ∷ one) two = server_append one two
server_append (ServerLacksMemory ∷ one) two = server_append one two

make_both : (aborts : Bool) (x y z : Exchange) (one two : List Move) (outcome : Outcome) → MakeAll aborts x one Quiet y → MakeAll aborts y two outcome z
    → MakeAll aborts x (one ++ two) outcome z
make_both aborts x y z [] two outcome first second = subst (λ w. MakeAll aborts w two outcome z) first.0 second
make_both aborts x y z (move ∷ one) two outcome (next, given, wanted, makes, inl (quiet, others)) second =
    (next, given, wanted, makes, inl (quiet, make_both aborts next y z one two outcome others second))
make_both aborts x y z (move ∷ one) two outcome (next, given, wanted, makes, inr (none, is, same)) second =
    (next, given, wanted, makes, inl (sym is, subst (λ moves. MakeAll aborts next (moves ++ two) outcome z) (sym none) (subst (λ w. MakeAll aborts w two outcome z) same second)))

-- no move
pub driven_none : (aborts : Bool) (client server : Option (List SocketAnswer)) (x : Exchange) → IsDriven 0 aborts client client server server x Quiet x
driven_none aborts client server x = record { moves = []; number = refl; make = (refl, refl); client_is = with_none client; server_is = with_none server }

-- some moves, and then others
pub driven_on : (m n : ℕ) (aborts : Bool) (c0 c1 c2 s0 s1 s2 : Option (List SocketAnswer)) (x y z : Exchange) (outcome : Outcome) → IsDriven m aborts c0 c1 s0 s1 x Quiet y
    → IsDriven n aborts c1 c2 s1 s2 y outcome z → IsDriven (m + n) aborts c0 c2 s0 s2 x outcome z
driven_on m n aborts c0 c1 c2 s0 s1 s2 x y z outcome one two = record {
  moves = one.moves ++ two.moves;
  number = omega (arith, one.number, two.number, length-append one.moves two.moves);
  make = make_both aborts x y z one.moves two.moves outcome one.make two.make;
  client_is = two.client_is ∙ ap (with_answers (told_by_client two.moves)) one.client_is ∙ with_both (told_by_client one.moves) (told_by_client two.moves) c0
      ∙ ap (λ l. with_answers l c0) (sym (client_append one.moves two.moves));
  server_is = two.server_is ∙ ap (with_answers (told_by_server two.moves)) one.server_is ∙ with_both (told_by_server one.moves) (told_by_server two.moves) s0
      ∙ ap (λ l. with_answers l s0) (sym (server_append one.moves two.moves));
}

-- one move
pub client_answered : (aborts : Bool) (c0 c1 s : Option (List SocketAnswer)) (x y : Exchange) (outcome : Outcome) (answer : SocketAnswer)
    → c1 ≡ with_answers (answer ∷ []) c0 → IsWanted x (OfClient answer) → Makes aborts x (OfClient answer) outcome y → IsDriven 1 aborts c0 c1 s s x outcome y
client_answered aborts c0 c1 s x y outcome answer is wanted makes =
    record { moves = OfClient answer ∷ []; number = refl; make = (y, outcome, wanted, makes, inr (refl, refl, refl)); client_is = is; server_is = with_none s }

pub server_answered : (aborts : Bool) (c s0 s1 : Option (List SocketAnswer)) (x y : Exchange) (outcome : Outcome) (answer : SocketAnswer)
    → s1 ≡ with_answers (answer ∷ []) s0 → IsWanted x (OfServer answer) → Makes aborts x (OfServer answer) outcome y → IsDriven 1 aborts c c s0 s1 x outcome y
server_answered aborts c s0 s1 x y outcome answer is wanted makes =
    record { moves = OfServer answer ∷ []; number = refl; make = (y, outcome, wanted, makes, inr (refl, refl, refl)); client_is = with_none c; server_is = is }

pub client_waited : (aborts : Bool) (c0 c1 s : Option (List SocketAnswer)) (x y : Exchange) (outcome : Outcome) → c1 ≡ c0 → IsWanted x ClientWaited → Makes aborts x ClientWaited outcome y
    → IsDriven 1 aborts c0 c1 s s x outcome y
client_waited aborts c0 c1 s x y outcome is wanted makes =
    record { moves = ClientWaited ∷ []; number = refl; make = (y, outcome, wanted, makes, inr (refl, refl, refl)); client_is = is ∙ with_none c0; server_is = with_none s }

pub server_waited : (aborts : Bool) (c s0 s1 : Option (List SocketAnswer)) (x y : Exchange) (outcome : Outcome) → s1 ≡ s0 → IsWanted x ServerWaited → Makes aborts x ServerWaited outcome y
    → IsDriven 1 aborts c c s0 s1 x outcome y
server_waited aborts c s0 s1 x y outcome is wanted makes =
    record { moves = ServerWaited ∷ []; number = refl; make = (y, outcome, wanted, makes, inr (refl, refl, refl)); client_is = with_none c; server_is = is ∙ with_none s0 }

-- a read that didn't fail was answered by the socket
pub heard_nothing : (old new : Wire) → HasHeard Nothing old new → new.answers ≡ with_answers (Heard Nothing ∷ []) old.answers
heard_nothing old new (inl is) = is.0
heard_nothing old new (inr (same, dry, is)) = let no : Nothing ≡ Ended false = is in cc

pub heard_bytes : (old new : Wire) (count : ℕ) → HasHeard (Bytes count) old new → new.answers ≡ with_answers (Heard (Bytes count) ∷ []) old.answers
heard_bytes old new count (inl is) = is.0
heard_bytes old new count (inr (same, dry, is)) = let no : Bytes count ≡ Ended false = is in cc

pub heard_end : (old new : Wire) → HasHeard (Ended true) old new → new.answers ≡ with_answers (Heard (Ended true) ∷ []) old.answers
heard_end old new (inl is) = is.0
heard_end old new (inr (same, dry, is)) = let no : Ended true ≡ Ended false = is in cc

-- one that failed, or for which there was no memory
pub client_failed : (aborts : Bool) (old new : Wire) (s : Option (List SocketAnswer)) (x y : Exchange) (outcome : Outcome) → HasHeard (Ended false) old new → IsWanted x ClientLacksMemory → LosesClient x outcome y
    → IsDriven 1 aborts old.answers new.answers s s x outcome y
client_failed aborts old new s x y outcome (inl is) wanted loses = client_answered aborts _ _ s x y outcome (Heard (Ended false)) is.0 wanted loses
client_failed aborts old new s x y outcome (inr (same, dry, is)) wanted loses =
    record { moves = ClientLacksMemory ∷ []; number = refl; make = (y, outcome, wanted, loses, inr (refl, refl, refl)); client_is = same ∙ with_none old.answers; server_is = with_none s }

pub server_failed : (aborts : Bool) (c : Option (List SocketAnswer)) (old new : Wire) (x y : Exchange) (outcome : Outcome) (used : ℕ) → HasHeard (Ended false) old new
    → IsWanted x ServerLacksMemory → RelayHears (HasHeardEnd false) x used outcome y → IsDriven 1 aborts c c old.answers new.answers x outcome y
server_failed aborts c old new x y outcome used (inl is) wanted hears = server_answered aborts c _ _ x y outcome (Heard (Ended false)) is.0 wanted (used, hears)
server_failed aborts c old new x y outcome used (inr (same, dry, is)) wanted hears =
    record { moves = ServerLacksMemory ∷ []; number = refl; make = (y, outcome, wanted, (used, hears), inr (refl, refl, refl)); client_is = with_none c; server_is = same ∙ with_none old.answers }
