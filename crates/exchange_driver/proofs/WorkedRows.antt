-- What a socket's answers make of an exchange, at worked examples: what must hold, and what must not.
use Rattle.std.proofs.Common.{◌≡◌, ◌∙◌, ◌&&◌, not, arith, inl, inr, true, false, [], ◌∷◌, None, Some, refl, ap, sym}
use Rattle.exchange_driver.specs.Answers.{Heard, Said, with_answers, dry_after, full_after}
use Rattle.exchange_driver.specs.Wires.{Wire, HasHeard}
use Rattle.exchange_driver.specs.Moves.{OfClient, OfServer, KeepsTurns, IsWanted, Makes, MakeAll, told_by_client, told_by_server}
use Rattle.exchange_driver.specs.declared.driving.Rest.TheVariants.{Waits, Again}
use Rattle.exchange_driver.specs.declared.socket.ReadResult.TheVariants.{Bytes, Nothing, Ended}
use Rattle.exchange_driver.specs.declared.socket.WriteResult.TheVariants.{Full}
use Rattle.exchange_driver.specs.declared.socket.WriteResult.TheVariants as said
use Rattle.exchange_machine.specs.Wants.{is_none}
use Rattle.exchange_machine.specs.declared.asking.Asking as askings
use Rattle.exchange_machine.specs.declared.forwarding.Forwarding as forwardings
use Rattle.exchange_machine.specs.declared.waiting.Waiting as waitings
use Rattle.exchange_events.specs.declared.exchange.Exchange.{Exchange}
use Rattle.exchange_events.specs.declared.exchange.Exchange.TheVariants.{Asking, Waiting, Forwarding, Over}
use Rattle.exchange_events.specs.declared.exchange.Outcome.TheVariants.{Quiet, Retries}

-- nothing is there: nothing changes
nothing_there : (x : Exchange) → Makes false x (OfServer (Heard Nothing)) Quiet x
nothing_there x = (refl, refl)

over_isnt_waiting : (w : waitings.Waiting) → Over ≡ Waiting w → ⊥
over_isnt_waiting w is = cc

nothing_there_ends_none : (w : waitings.Waiting) → ¬ (Makes false (Waiting w) (OfServer (Heard Nothing)) Quiet Over)
nothing_there_ends_none w is = over_isnt_waiting w is.0

-- a client closed its side while it waits: it waits on
closes_its_side : (w : waitings.Waiting) → Makes false (Waiting w) (OfClient (Heard (Ended true))) Quiet (Waiting w)
closes_its_side w = (0, record { leaves = λ wrong. absurd cc; stays = λ it. record { none = refl; quiet = refl; same = refl } })

isnt_given_up : (w : waitings.Waiting) → ¬ (Makes false (Waiting w) (OfClient (Heard (Ended true))) Quiet Over)
isnt_given_up w is = over_isnt_waiting w (is.1.stays refl).same

-- its connection broke: it is given up
breaks : (w : waitings.Waiting) → Makes false (Waiting w) (OfClient (Heard (Ended false))) Quiet Over
breaks w = record { gives = refl; over = refl }

-- no move changes nothing, and gives nothing away
no_move_changes_none : (w : waitings.Waiting) → ¬ (MakeAll false (Waiting w) [] Quiet Over)
no_move_changes_none w is = over_isnt_waiting w is.0

-- an exchange whose request isn't whole looks for more of it; one that waits for its pass doesn't
looks_for_more : (a : askings.Asking) → MakeAll false (Asking a) (OfClient (Heard Nothing) ∷ []) Quiet (Asking a)
looks_for_more a = (Asking a, Quiet, refl, (refl, refl), inr (refl, refl, refl))

looks_while_it_waits : (w : waitings.Waiting) → ¬ (MakeAll false (Waiting w) (OfClient (Heard Nothing) ∷ []) Quiet (Waiting w))
looks_while_it_waits w (next, given, wanted, makes, others) = let no : false ≡ true = wanted in cc

-- bytes of a request are written to a server that takes them, and to no other
takes_them : (p : forwardings.Forwarding) → p.cut ≡ false → p.dialing ≡ false → is_none p.up.out ≡ false → IsWanted (Forwarding p) (OfServer (Said Full))
takes_them p cut dialing some = rw (cut, dialing, some) refl

takes_no_more : (p : forwardings.Forwarding) → p.cut ≡ true → p.dialing ≡ false → is_none p.up.out ≡ false → ¬ (IsWanted (Forwarding p) (OfServer (Said Full)))
takes_no_more p cut dialing some wanted = let no : false ≡ true = sym (ap (λ b. not b && not p.dialing && not (is_none p.up.out)) cut) ∙ wanted in cc

-- each side's answers, in their order
own_answers : told_by_client (OfClient (Heard Nothing) ∷ OfServer (Said Full) ∷ OfClient (Heard (Bytes 3)) ∷ []) ≡ Heard Nothing ∷ Heard (Bytes 3) ∷ []
own_answers = refl

its_answers : told_by_server (OfClient (Heard Nothing) ∷ OfServer (Said Full) ∷ OfClient (Heard (Bytes 3)) ∷ []) ≡ Said Full ∷ []
its_answers = refl

-- a socket remembers its answers behind those before, or none at all
remembers : with_answers (Said Full ∷ []) (Some (Heard Nothing ∷ [])) ≡ Some (Heard Nothing ∷ Said Full ∷ [])
remembers = refl

forgets : with_answers (Said Full ∷ []) None ≡ None
forgets = refl

-- a read that found nothing was answered by the socket
silent : Wire
silent = record { there = true; left = None; taken = None; waits = []; room = 0; dry = false; full = false; answers = Some [] }

unasked : ¬ (HasHeard Nothing silent silent)
unfolding silent
unasked (inl is) = cc
unasked (inr (same, dry, is)) = cc

-- the last answer of each kind says how a line stands
stands_dry : dry_after (Heard (Bytes 3) ∷ Heard Nothing ∷ Said Full ∷ []) false ≡ true
stands_dry = refl

stands_open : full_after (Said Full ∷ Heard Nothing ∷ Said (said.Bytes 2) ∷ []) true ≡ false
stands_open = refl

-- one that gave no answer stands as before
stands_as_before : dry_after (Said Full ∷ []) true ≡ true
stands_as_before = refl

-- at rest after one move of two turns it waits, and doesn't ask for more at once
at_rest : KeepsTurns 2 1 Waits Quiet
at_rest = record { most = omega arith; spent = λ again. let no : Waits ≡ Again = again in cc; gave = λ given. absurd (given refl) }

asks_for_more : ¬ (KeepsTurns 2 1 Again Quiet)
asks_for_more keeps = omega (arith, keeps.spent refl refl)

three_moves_in_a_turn : ¬ (KeepsTurns 1 3 Waits Quiet)
three_moves_in_a_turn keeps = omega (arith, keeps.most)

-- what gave something away is looked at again
gives_and_waits : ¬ (KeepsTurns 1 1 Waits Retries)
gives_and_waits keeps = let no : Waits ≡ Again = keeps.gave (λ is. let none : Retries ≡ Quiet = is in cc) in cc
