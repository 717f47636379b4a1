-- A pin that a configuration's rules wish is a server of a dispatcher whose board is the configuration's.
use Rattle.std.proofs.Common.{◌≡◌, ◌≢◌, ◌<◌, inl, inr, ◌∷◌, ◌∙◌, [], ap, sym, subst, refl, Bool, true, false, Option, Some, None, Result, Ok, Err, ℕ, length}
use Rattle.std.proofs.Common.{IfSome, IfErr, arith}
use Rattle.std.proofs.Math.Logic.{∥∥₁_elim}
use denote.Struct.Props.{props}
use Rattle.std.proofs.lemmas.Bool.Decides.{nat_tests}
use Rattle.std.proofs.lemmas.List.{length-map}
use Rattle.log_entries.specs.declared.refusal.Refusal.{Refusal}
use Rattle.log_entries.specs.declared.refusal.Refusal.TheVariants.{LogFull, NoSuchServer, TicketsSpent, PlacesFull}
use Rattle.log_entries.specs.declared.setup.ServerSet.{ServerSet}
use Rattle.log_entries.specs.declared.setup.Setup.{Setup}
use Rattle.log_entries.specs.Histories.{state_of, refuses_arrival, RefusedOrNoMemory}
use Rattle.log_entries.specs.Refusals.{first_of, lacks_room, pins_to_none, tickets_are_spent, is_full}
use Rattle.dispatch_state.specs.declared.position.Ticketed.{Ticketed}
use Rattle.grant_board.specs.Views.{Terms}
use Rattle.shared_desk.specs.Replies.{IsHeld}
use Rattle.locked_book.specs.Calls.{Booked}
use Rattle.proxy_config.specs.declared.parts.Config.{Config}
use Rattle.proxy_config.specs.declared.parts.Server.{Server}
use Rattle.proxy_config.specs.Sound.{IsSoundConfig}
use Rattle.relay_workers.specs.Admissions.{IsRefusedFor}
use Rattle.relay_workers.specs.Boards.{IsBoardOf}

not_unknown : (full unknown spent crowded : Bool) → unknown ≡ false
    → first_of ((full, LogFull) ∷ (unknown, NoSuchServer) ∷ (spent, TicketsSpent) ∷ (crowded, PlacesFull) ∷ []) ≡ Some NoSuchServer → ⊥
not_unknown true unknown spent crowded known e = cc
not_unknown false true spent crowded known e = cc
not_unknown false false true crowded known e = cc
not_unknown false false false true known e = cc
not_unknown false false false false known e = cc

is_known : (setup : Setup) (pin : Option ℕ) → IfSome pin (λ server. server < length setup.servers) → pins_to_none setup pin ≡ false
is_known setup None known = refl
is_known setup (Some server) known = grind (arith, nat_tests)

-- the dispatcher has as many servers as the configuration
as_many : (config : Config) (terms : Terms) (named : Setup) (held : Booked) → IsBoardOf config terms → IsHeld terms named held
    → length config.servers ≡ length held.history.setup.servers
as_many config terms named held its is =
    sym (length-map config.servers (λ (it : Server). it.maxconn)) ∙ ap length (sym its) ∙ ap (λ (t : Terms). length t.limits) (sym is.of_terms ∙ is.book.terms)
    ∙ length-map held.history.setup.servers (λ (it : ServerSet). it.limit)

never_unknown : (config : Config) (terms : Terms) (named : Setup) (pin : Option ℕ) (refusal : Refusal) → IsBoardOf config terms
    → IfSome pin (λ server. server < length config.servers) → IsRefusedFor terms named pin refusal → refusal ≢ NoSuchServer
never_unknown config terms named pin refusal its known refused same = by_cause refused.2
  where
    setup : Setup
    setup = refused.0.history.setup

    by_cause : RefusedOrNoMemory (refuses_arrival refused.0.history pin) refusal → ⊥
    by_cause (inl e) =
        not_unknown (lacks_room setup (length refused.0.history.log)) (pins_to_none setup pin) (tickets_are_spent (state_of refused.0.history).ticket)
        (is_full setup (state_of refused.0.history).rows)
        (is_known setup pin (subst (λ (n : ℕ). IfSome pin (λ server. server < n)) (as_many config terms named refused.0 its refused.1) known)) (e ∙ ap Some same)
    by_cause (inr e) = (let none = e.1 in cc)

-- no arrival that the rules of an accepted configuration decide is refused since no server has the number of its pin
pub known_for : (config : Config) (terms : Terms) (named : Setup) (pin : Option ℕ) (answer : Result Ticketed Refusal) → IsBoardOf config terms
    → ∥ IsSoundConfig config ∥₁ → (IsSoundConfig config → IfSome pin (λ server. server < length config.servers)) → IfErr answer (IsRefusedFor terms named pin)
    → IfErr answer (λ refusal. refusal ≢ NoSuchServer)
known_for config terms named pin (Ok it) its sound known refused = tt
known_for config terms named pin (Err refusal) its sound known refused =
    λ same. ∥∥₁_elim sound (hlevel props) (λ is. never_unknown config terms named pin refusal its (known is) refused same)
