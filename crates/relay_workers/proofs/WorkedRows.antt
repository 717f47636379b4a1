-- Worked examples of what is said of a client, a gate, a checker and a crew; and wrong ones, which don't hold.
use Rattle.std.proofs.Common.{◌≡◌, ℕ, List, [], ◌∷◌, Option, Some, None, Result, Ok, Err, inl, refl, ap, arith, inr, length, replicate, ◌-◌, ◌^◌, ◌+◌, ◌++◌, ◌∙◌, sym, true, false}
use Rattle.std.proofs.lemmas.List.Elements.{All-nil}
use Rattle.std.specs.List.{AllZip, flat_map}
use Rattle.dispatch_state.specs.declared.position.Ticketed.{Ticketed}
use Rattle.grant_board.specs.RelayCalls.{new_relay, Relay}
use Rattle.grant_board.specs.Views.{Grant, RelayView, Terms}
use Rattle.http_texts.specs.declared.fault.Fault.TheVariants.{Head, Write}
use Rattle.http_texts.specs.declared.refusals.Code.TheVariants.{BadRequest, BadGateway}
use Rattle.log_entries.specs.declared.refusal.Refusal.{Refusal}
use Rattle.log_entries.specs.declared.refusal.Refusal.TheVariants.{LogFull}
use Rattle.log_entries.specs.declared.setup.Setup.{Setup}
use Rattle.shared_desk.specs.Changes.{Change}
use Rattle.proxy_config.specs.declared.parts.Checks.{Checks}
use Rattle.proxy_config.specs.declared.parts.Config.{Config}
use Rattle.proxy_config.specs.declared.parts.Server.{Server}
use Rattle.relay_http.specs.declared.closing.Closing.TheVariants.{Reading, Forwarding, Breaking}
use Rattle.relay_http.specs.declared.exchange.Exchange.{Exchange}
use Rattle.relay_http.specs.declared.exchange.Stage.TheVariants.{New, Answered}
use Rattle.relay_http.specs.States.{IsFresh}
use Rattle.relay_workers.specs.Carrying.{IsToldOutcome, IsUntouched}
use Rattle.relay_workers.specs.Checks.{later_by, IsDue, Looks, HasChecked}
use Rattle.relay_workers.specs.Checks.HasChecked.{began as began_checks}
use Rattle.relay_workers.specs.Crews.{EndsAs, IsMemberSeat, JoinsSeats, of_all}
use Rattle.relay_workers.specs.Endings.{after_closing}
use Rattle.relay_workers.specs.Gates.{Notice, noted}
use Rattle.relay_workers.specs.Gates.Notice.{HasLeft, NoMore, NotYet, Told}
use Rattle.relay_workers.specs.Serving.{HasLeftSeat, HaveEnded, HasWorked}
use Rattle.relay_workers.specs.Tallies.{no_clients}
use Rattle.relay_workers.specs.Turning.{WasTold}
use Rattle.relay_workers.specs.Waiting.{Stand, Holds, HasWaited}
use Rattle.relay_workers.specs.Waiting.Holds.{pauses, spends}
use Rattle.relay_workers.specs.Waiting.HasWaited.{began}
use Rattle.relay_workers.specs.declared.outcome.Outcome.TheVariants.{Refused, Cut}
use Rattle.relay_workers.specs.declared.stopping.Stopped.TheVariants.{NoMemory, PausesSpent}
use Rattle.relay_workers.specs.declared.stopping.TheConstants.{TURNS}
use Rattle.relay_workers.specs.declared.waiting.Patience.TheVariants.{Waits, Spent}

-- a bad head ends in 400, a server that takes no more in 502, and an answer that breaks off in nothing
bad_head : after_closing (Reading Head) ≡ Refused BadRequest
bad_head = refl

no_server : after_closing (Forwarding Write) ≡ Refused BadGateway
no_server = refl

broken_off : after_closing (Breaking Write) ≡ Cut
broken_off = refl

-- a client that is told nothing is as it was; one that was written a byte isn't
told_nothing : (exchange : Exchange) → IsToldOutcome {C = List ℕ} Some exchange Cut [] []
told_nothing exchange = refl

told_a_byte : (exchange : Exchange) → ¬ (IsToldOutcome {C = List ℕ} Some exchange Cut [] (65 ∷ []))
told_a_byte exchange told = omega (arith, ap (length {A = ℕ}) told)

many : {A : Type 0} → Option (List A) → ℕ
many None = 0
many (Some them) = length them

-- a client of which a byte was read isn't untouched
read_from : ¬ (IsUntouched {C = List ℕ} Some (λ client. None) (65 ∷ []) [])
unfolding many
read_from untouched = omega (arith, ap many untouched.left_is)

-- a gate that notes nothing says nothing
notes_nothing : noted {C = ℕ} {S = ℕ} HasLeft None ≡ None
notes_nothing = refl

-- a gate was told what a call changed
was_told : (terms : Terms) (setup : Setup) (change : Change)
    → WasTold {C = ℕ} {S = ℕ} (λ (it : Change). it) terms setup (λ (result : Result (Unit {0}) Refusal) it. result ≡ Ok tt) (Ok tt) (Some []) (Some (Told change ∷ []))
was_told terms setup change = inl (change, refl, (λ is. cc), refl)

-- it wasn't told twice of a call that isn't refused
told_twice : (terms : Terms) (setup : Setup) (change : Change)
    → ¬ (WasTold {C = ℕ} {S = ℕ} (λ (it : Change). it) terms setup (λ (result : Result (Unit {0}) Refusal) it. result ≡ Ok tt) (Ok tt) (Some []) (Some (Told change ∷ Told change ∷ [])))
unfolding many
told_twice terms setup change (inl once) = omega (arith, ap many once.3)
told_twice terms setup change (inr again) = (let refused = again.1 in cc)

-- a call that is refused since the log is full is made again, or finds no memory for room
refused_at_once : (terms : Terms) (setup : Setup) (change : Change)
    → ¬ (WasTold {C = ℕ} {S = ℕ} (λ (it : Change). it) terms setup (λ (result : Result (Unit {0}) Refusal) it. result ≡ Err LogFull) (Err LogFull) (Some []) (Some (Told change ∷ [])))
unfolding many
refused_at_once terms setup change (inl once) = once.2 refl
refused_at_once terms setup change (inr (earlier, refused, room, inl (None, again, made, answers, is))) = omega (arith, ap many is)
refused_at_once terms setup change (inr (earlier, refused, room, inl (Some window, again, made, answers, is))) = omega (arith, ap many is)
refused_at_once terms setup change (inr (earlier, refused, room, inr (fault, made, same, is))) = omega (arith, ap many is)

-- where there is no server none is due, and nothing else
no_servers : IsDue [] 0 0 0 None
no_servers = inl refl

due_without_a_server : (checks : Checks) → ¬ (IsDue [] 0 0 0 (Some checks))
due_without_a_server checks due = let none = due.1 in cc

-- a check isn't due before its moment
due_too_early : (server : Server) (checks : Checks) → ¬ (IsDue (server ∷ []) 0 5 4 (Some checks))
due_too_early server checks due = let soon = due.3 in omega arith

-- there is no moment after the last one
last_moment : later_by 1 (2 ^ 62 - 1) ≡ 2 ^ 62 - 1
last_moment = refl

-- a gate isn't asked for a check that isn't due
asked_too_early : (terms : Terms) (setup : Setup) → ¬ (Looks {C = ℕ} {S = ℕ} terms setup 0 0 None 0 0 (Some []) (Some (NotYet 0 ∷ [])))
unfolding many
asked_too_early terms setup looks = omega (arith, ap many looks.1)

-- before the first round each check is due at once
no_round : (terms : Terms) (setup : Setup) → HasChecked {C = ℕ} {S = ℕ} terms setup [] None 3 None (replicate 64 0) 3
no_round terms setup = began_checks

-- the first stop is a crew's; a crew without members has no clients
stops : of_all (Ok no_clients ∷ Err PausesSpent ∷ Err NoMemory ∷ []) ≡ Err PausesSpent
stops = refl

nobody : of_all [] ≡ Ok no_clients
nobody = refl

-- a member without a result is left out
left_out : (notes : ℕ → Option (List (Notice ℕ ℕ))) → ¬ (AllZip (EndsAs (λ result before after. Unit {0}) notes) (0 ∷ []) [])
left_out notes zipped = zipped

-- a member without memory ends with its gate as it was, and with no other one
no_memory : (notes : ℕ → Option (List (Notice ℕ ℕ))) → EndsAs (λ result before after. ⊥) notes 3 (Err NoMemory, record { gate = 3 })
no_memory notes = inr (refl, refl)

another_gate : (notes : ℕ → Option (List (Notice ℕ ℕ))) → ¬ (EndsAs (λ result before after. ⊥) notes 3 (Err NoMemory, record { gate = 4 }))
another_gate notes (inl worked) = worked
another_gate notes (inr none) = omega (arith, none.1)

-- without a client a worker leaves its seat as it was
left_at_once : (terms : Terms) (setup : Setup) (config : Config) (exchange : Exchange) → IsFresh TURNS exchange
    → HasLeftSeat {C = List ℕ} {S = List ℕ} Some Some Some Some terms setup (new_relay terms false) (Ok no_clients) (Some []) (Some (NoMore ∷ []))
left_at_once terms setup config exchange fresh = (
  config,
  exchange,
  exchange,
  record { notes = Some []; left = 0; view = new_relay terms false },
  record { notes = Some (NoMore ∷ []); left = 0; view = new_relay terms false },
  ([], record { notes = Some []; left = 0; view = new_relay terms false }, (refl, refl), refl, refl, refl, refl),
  refl,
  refl,
  fresh,
  refl,
  refl,
)

-- no worker leaves a seat for want of memory
left_without_memory : (terms : Terms) (setup : Setup)
    → ¬ (HasLeftSeat {C = List ℕ} {S = List ℕ} Some Some Some Some terms setup (new_relay terms false) (Err NoMemory) (Some []) (Some []))
left_without_memory terms setup left = left.5

-- a seat that was split off is a member's; where no worker works, one that has taken a pass isn't
split_off : (terms : Terms) (seat : Relay) → seat.view ≡ new_relay terms false → IsMemberSeat {C = ℕ} {S = ℕ} terms (λ view result before after. ⊥) seat
split_off terms seat new = inl new

took_a_pass : (terms : Terms) (seat : Relay) (pass : Grant) → seat.view ≡ record (new_relay terms false) { takes = pass ∷ [] }
    → ¬ (IsMemberSeat {C = ℕ} {S = ℕ} terms (λ view result before after. ⊥) seat)
took_a_pass terms seat pass took (inl unused) = omega (arith, ap (λ (view : RelayView). length view.takes) (sym took ∙ unused))
took_a_pass terms seat pass took (inr left) = left.3

-- where no seat is joined nothing was taken
joins_none : (terms : Terms) → JoinsSeats {C = ℕ} {S = ℕ} terms (λ view result before after. ⊥) (new_relay terms true) (new_relay terms true)
joins_none terms = record { seats = []; each = All-nil _; joined = refl; takes = refl; posts = refl }

takes_for_nobody : (terms : Terms) (pass : Grant)
    → ¬ (JoinsSeats {C = ℕ} {S = ℕ} terms (λ view result before after. ⊥) (new_relay terms true) (record (new_relay terms true) { takes = pass ∷ [] }))
takes_for_nobody terms pass joins = nobody_took joins.seats joins.joined joins.takes
  where
    nobody_took : (seats : List Relay) → 0 ≡ 0 + length seats → pass ∷ [] ≡ [] ++ flat_map (λ seat. seat.view.takes) seats → ⊥
    nobody_took [] none took = cc
    nobody_took (seat ∷ seats) none took = omega (arith, none)

-- without a client nothing is done
no_client : (terms : Terms) (setup : Setup) (config : Config) (exchange : Exchange) (stand : Stand (List ℕ) (List ℕ))
    → HaveEnded Some Some Some Some terms setup config [] exchange exchange stand stand
no_client terms setup config exchange stand = (refl, refl)

-- an exchange isn't renewed where no client came
renewed_for_nobody : (terms : Terms) (setup : Setup) (config : Config) (exchange exchange_then : Exchange) (stand : Stand (List ℕ) (List ℕ))
    → exchange.stage ≡ Answered → exchange_then.stage ≡ New
    → ¬ (HaveEnded Some Some Some Some terms setup config [] exchange exchange_then stand stand)
renewed_for_nobody terms setup config exchange exchange_then stand old new same =
    let other : exchange_then.stage ≡ exchange.stage = ap (λ (it : Exchange). it.stage) same.0 in cc

-- a worker's memory isn't refused, since it has its exchange before it begins
without_memory : (terms : Terms) (setup : Setup) (config : Config) (exchange : Exchange) (stand : Stand (List ℕ) (List ℕ))
    → ¬ (HasWorked Some Some Some Some terms setup config (Err NoMemory) exchange exchange stand stand)
without_memory terms setup config exchange stand worked = worked

-- nothing was done yet, and all pauses are left
at_first : (terms : Terms) (setup : Setup) (at : Ticketed) (stand : Stand ℕ ℕ) → HasWaited terms setup at stand stand Waits
at_first terms setup at stand = began

-- a step without a pause isn't one of a request that waits on
without_a_pause : (terms : Terms) (setup : Setup) → ¬ (Holds {C = ℕ} {S = ℕ} terms setup 0 None None 1 1 Waits Waits)
without_a_pause terms setup (pauses patience turned fewer) = omega (arith, fewer)

-- a client is given up by its pauses only where none is left
with_a_pause : (terms : Terms) (setup : Setup) → ¬ (Holds {C = ℕ} {S = ℕ} terms setup 0 None None 1 1 Waits Spent)
with_a_pause terms setup (spends patience between given turned none none_then) = omega (arith, none)
