-- What events make of exchanges, at worked examples: what must hold, and what must not.
use Rattle.std.proofs.Common.{◌≡◌, Bool, true, false, [], codes, inl, inr, refl, arith}
use Rattle.base_verdict.specs.declared.Ending.TheVariants.{Done, Failed}
use Rattle.grant_board.specs.Views.{Grant}
use Rattle.http_bodies.specs.Stops.{is_bad}
use Rattle.exchange_machine.specs.Repeatables.{IsSentAgain, IsUntouched}
use Rattle.exchange_machine.specs.Stages.{IsChecked}
use Rattle.exchange_machine.specs.declared.asking.Turn.TheVariants as Turns
use Rattle.exchange_machine.specs.declared.dialing.Dialing as dialings
use Rattle.exchange_machine.specs.declared.forwarding.Forwarding as forwardings
use Rattle.exchange_machine.specs.declared.waiting.Waiting as waitings
use Rattle.exchange_machine.specs.Ways.{IsUsedUp}
use Rattle.http_bodies.specs.declared.coding.Coding.TheVariants.{Length, ToEnd}
use Rattle.exchange_events.specs.Answers.{AwaitsHead, Fills, HasHeardEnd, HasReadOn, LosesClient, IsGranted, MissesServer, IsHalfClosed}
use Rattle.exchange_events.specs.declared.exchange.Exchange.TheVariants.{Waiting, Dialing, Forwarding, Over}
use Rattle.exchange_events.specs.declared.exchange.Outcome.TheVariants.{Quiet, Posts, Returns}

-- who waits takes the pass, and doesn't return it
takes : (w : waitings.Waiting) (pass : Grant) → IsGranted (Waiting w) pass 1 Quiet (Dialing (record { waiting = w; pass = pass; reached = false }))
takes w pass = (refl, refl, refl)

returns_none : (w : waitings.Waiting) (pass : Grant) → ¬ (IsGranted (Waiting w) pass 0 (Returns pass) (Waiting w))
returns_none w pass is = omega (arith, is.0)

-- who waits for none returns it
returns : (pass : Grant) → IsGranted Over pass 0 (Returns pass) Over
returns pass = (refl, refl, refl)

-- a client that left: the pass goes back as done, and not with it
goes_back : (d : dialings.Dialing) → LosesClient (Dialing d) (Posts d.pass Done) Over
goes_back d = record { gives = refl; over = refl }

quiet_posts_none : (pass : Grant) → Quiet ≡ Posts pass Done → ⊥
quiet_posts_none pass is = cc

not_silently : (d : dialings.Dialing) → ¬ (LosesClient (Dialing d) Quiet Over)
not_silently d left = quiet_posts_none d.pass left.gives

-- no byte reached the server, which can't be reached: the request waits again
again : (d : dialings.Dialing) → d.reached ≡ false → MissesServer d (Posts d.pass Failed) (Waiting d.waiting)
again d unreached = record { again = λ it. (refl, refl); never = λ it. absurd (both unreached it) }
  where
    both : {b : Bool} → b ≡ false → b ≡ true → ⊥
    both is other = cc

failed_isnt_done : (pass : Grant) → Posts pass Failed ≡ Posts pass Done → ⊥
failed_isnt_done pass is = cc

-- once a byte did, it doesn't
not_again : (d : dialings.Dialing) → d.reached ≡ true → ¬ (MissesServer d (Posts d.pass Failed) (Waiting d.waiting))
not_again d reached misses = failed_isnt_done d.pass (misses.never reached).0

-- a client that sends no more stays while it waits, where the rules don't give it up
stays_there : (w : waitings.Waiting) → IsHalfClosed false (Waiting w) 0 Quiet (Waiting w)
stays_there w = record { leaves = λ wrong. absurd cc; stays = λ it. record { none = refl; quiet = refl; same = refl } }

-- a request whose head is whole waits for a pass, and isn't dropped
waits_for_a_pass : (w : waitings.Waiting) → IsChecked (Turns.Whole w) → HasReadOn Quiet (Waiting w)
waits_for_a_pass w checked = (refl, checked)

isnt_dropped : ¬ (HasReadOn Quiet Over)
isnt_dropped is = is

-- a server that ended before its answer, for a request that may not be sent again: it doesn't go on
goes_on_no_further : (p : forwardings.Forwarding) → is_bad p.up.coding ≡ false → p.ended ≡ true → ¬ (IsSentAgain p) → ¬ (IsUntouched p)
    → ¬ (AwaitsHead p Quiet (Forwarding p))
goes_on_no_further p good ended once touched is = is.ended good ended once touched

-- a server's end changes what is known of it, and nothing else
hears_an_end : (p : forwardings.Forwarding) → HasHeardEnd true p 0 (record p { ended = true; well = true })
hears_an_end p = (refl, refl)

hears_no_more : (p : forwardings.Forwarding) → ¬ (HasHeardEnd true p 1 (record p { ended = true; well = true }))
hears_no_more p is = omega (arith, is.0)

-- all bytes of a head are held, and not half of them
all_fit : Fills [] 4 (codes "GET ")
all_fit = refl

half_of_them : ¬ (Fills [] 2 (codes "GET "))
half_of_them fills = omega (arith, fills)

-- a body to the end of the input takes each byte that has room; one that is whole takes none
some_left : ¬ (IsUsedUp (record { coding = ToEnd; out = [] }) (codes "a"))
some_left used = elim used [
  | inl none ↦ cc
  | inr (inl done) ↦ cc
  | inr (inr (inl bad)) ↦ cc
  | inr (inr (inr full)) ↦ omega (arith, full)
]

behind_a_whole_body : IsUsedUp (record { coding = Length 0; out = [] }) (codes "a")
behind_a_whole_body = inr (inl refl)
