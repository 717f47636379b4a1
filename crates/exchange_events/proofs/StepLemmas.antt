-- Events that change no stage.
use Rattle.std.proofs.lemmas.List.{take_all}
use Rattle.std.proofs.Common.{◌≡◌, ◌∙◌, ℕ, Bool, arith, List, [], ◌++◌, take, refl, sym, ap, append-nil, subst}
use Rattle.exchange_machine.specs.Histories.{ExchangeHistory, client_came, server_came, server_got, client_got, signed}
use Rattle.exchange_machine.specs.declared.signs.Sign.{Sign}
use Rattle.exchange_machine.proofs.EventLemmas.{asking_signed, waiting_signed, dialing_signed, forwarding_signed, settling_signed, leaving_signed, telling_signed, over_signed, telling_over}
use Rattle.exchange_machine.specs.Headline.{Sound}
use Rattle.exchange_machine.proofs.EventLemmas.{over_sound}
use Rattle.exchange_machine.proofs.SideLemmas.{asking_sound, waiting_sound, dialing_sound, forwarding_sound, leaving_sound}
use Rattle.exchange_machine.proofs.SettlingLemmas.{settling_sound}
use Rattle.exchange_events.specs.Runs.{Ran}
use Rattle.exchange_events.specs.Steps.{IsAtItsStage}
use Rattle.exchange_events.specs.declared.exchange.Outcome.{Outcome}
use Rattle.exchange_events.specs.declared.run.Events.{Events}
use Rattle.exchange_events.specs.declared.run.Events.TheVariants.{End}
use Rattle.exchange_events.specs.declared.exchange.Exchange.{Exchange}
use Rattle.exchange_events.specs.declared.exchange.Exchange.TheVariants.{Asking, Waiting, Dialing, Forwarding, Settling, Leaving, Telling, Over}

pub at_as : {x y : Exchange} (h : ExchangeHistory) → x ≡ y → IsAtItsStage x h → IsAtItsStage y h
at_as h e is = subst (λ (q : Exchange). IsAtItsStage q h) e is

pub at_signed : (x : Exchange) (h : ExchangeHistory) (s : Sign) → IsAtItsStage x h → IsAtItsStage x (signed h s)
at_signed (Asking a) h s is = asking_signed a h s is
at_signed (Waiting a) h s is = waiting_signed a h s is
at_signed (Dialing a) h s is = dialing_signed a h s is
at_signed (Forwarding a) h s is = forwarding_signed a h s is
at_signed (Settling a) h s is = settling_signed a h s is
at_signed (Leaving a) h s is = leaving_signed a h s is
at_signed (Telling a) h s is = telling_signed a h s is
at_signed Over h s is = over_signed h s is

pub none_of_client : (h : ExchangeHistory) (bytes : List ℕ) → client_came h (take 0 bytes) ≡ h
none_of_client h bytes = ap (λ (l : List ℕ). record h { client_in = l }) (append-nil h.client_in)

pub none_of_server : (h : ExchangeHistory) (bytes : List ℕ) → server_came h (take 0 bytes) ≡ h
none_of_server h bytes = ap (λ (l : List ℕ). record h { server_in = l }) (append-nil h.server_in)

take_none : (count : ℕ) (to : List ℕ) → to ++ take count [] ≡ to
take_none count to = ap (λ l. to ++ l) (take_all count [] (omega arith)) ∙ append-nil to

pub none_to_client : (h : ExchangeHistory) (count : ℕ) → client_got h (take count []) ≡ h
none_to_client h count = ap (λ (l : List ℕ). record h { to_client = l }) (take_none count h.to_client)

pub none_to_server : (h : ExchangeHistory) (count : ℕ) → server_got h (take count []) ≡ h
none_to_server h count = ap (λ (l : List ℕ). record h { to_server = l }) (take_none count h.to_server)

pub at_same : (x : Exchange) {h g : ExchangeHistory} → g ≡ h → IsAtItsStage x h → IsAtItsStage x g
at_same x e is = subst (λ (q : ExchangeHistory). IsAtItsStage x q) (sym e) is

pub at_sound : (x : Exchange) (h : ExchangeHistory) → IsAtItsStage x h → Sound h
at_sound (Asking a) h is = asking_sound a h is
at_sound (Waiting a) h is = waiting_sound a h is
at_sound (Dialing a) h is = dialing_sound a h is
at_sound (Forwarding a) h is = forwarding_sound a h is
at_sound (Settling a) h is = settling_sound a h is
at_sound (Leaving a) h is = leaving_sound a h is
at_sound (Telling a) h is = over_sound h (telling_over a h is)
at_sound Over h is = over_sound h is

pub ran_ends : (aborts : Bool) (x : Exchange) (h : ExchangeHistory) (events : Events) (told : List Outcome) → events ≡ End → IsAtItsStage x h
    → Ran aborts x h events told told x
ran_ends aborts x h events told ends is =
    subst (λ (e : Events). Ran aborts x h e told told x) (sym ends)
    (record { given = []; told = sym (append-nil told); history = h; runs = (refl, refl, refl); at = is; sound = at_sound x h is })
