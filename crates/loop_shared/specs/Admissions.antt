-- What happens to the first request outside.
use Rattle.std.specs.Prelude.{◌≡◌, ◌⊎◌, ℕ, List, Option, Result, Ok, Err, IfOk}
use Rattle.dispatch_state.specs.declared.position.Ticketed.{Ticketed}
use Rattle.due_key.specs.declared.key.Key.{Key}
use Rattle.grant_board.specs.Views.{Terms}
use Rattle.locked_book.specs.declared.book.Deferred.{Deferred}
use Rattle.log_entries.specs.declared.refusal.Refusal.{Refusal}
use Rattle.log_entries.specs.declared.refusal.Refusal.TheVariants.{PlacesFull}
use Rattle.log_entries.specs.declared.setup.Setup.{Setup}
use Rattle.loop_shared.specs.Outsides.{HasGone, IsFirstOutside, NobodyIsFirst}
use Rattle.loop_shared.specs.declared.admission.Admission.{Admission}
use Rattle.loop_shared.specs.declared.admission.Admission.TheVariants.{Admitted, Refused, Rests}
use Rattle.loop_shared.specs.declared.outside.Outside.{Outside}
use Rattle.loop_shared.specs.declared.outside.Outsider.{Outsider}
use Rattle.loop_table.specs.declared.token.Token.{Token}
use Rattle.relay_workers.specs.Admissions.{IsAdmittedLate, late_arrival}
use Rattle.relay_workers.specs.Gates.{Notice}
use Rattle.relay_workers.specs.Turning.{IsAnswered}
use Rattle.shared_desk.specs.Answers.{AnswersArrival}

module _ {C S : Type 0} where
  -- the desk was asked for a place for it, with its class, its due date and its pin, and answered so
  abbrev pub AsksPlace : Terms → Setup → Deferred → Result Ticketed Refusal → Option (List (Notice C S)) → Option (List (Notice C S)) → Type 0
  AsksPlace terms setup deferred answer before after = IsAnswered terms setup (AnswersArrival terms setup (late_arrival deferred) deferred.pin) answer before after

  -- the first request outside asked for a place, and went: it has one, or is refused for another cause than want of places
  pub record TakesFirst (terms : Terms) (setup : Setup) (old new : Outside) (outsider : Outsider) (answer : Result Ticketed Refusal) (before after : Option (List (Notice C S))) : Type 0 where
    pub deferred : Deferred
    pub token : Token
    pub first : IsFirstOutside old deferred token
    pub gone : HasGone old new token outsider
    pub pinned : deferred.pin ≡ outsider.pin
    pub asked : AsksPlace terms setup deferred answer before after
    pub admitted : IfOk answer (λ at. IsAdmittedLate terms setup deferred at)
    pub placed : answer ≡ Err PlacesFull → ⊥

  -- the first request outside asked for a place, and there is none; or nobody is first
  abbrev pub FindsNoPlace : Terms → Setup → Outside → Option (List (Notice C S)) → Option (List (Notice C S)) → Type 0
  FindsNoPlace terms setup outside before after =
      ((deferred : Deferred) × (token : Token) × IsFirstOutside outside deferred token × AsksPlace terms setup deferred (Err PlacesFull) before after)
      ⊎ ((first : Option (Key × ℕ)) × NobodyIsFirst outside first × (after ≡ before))

  -- A request has a place for which it asked with its own pin; or it is refused so, for another
  -- cause than want of places; or there is no place for the first one, or nobody was asked.
  abbrev pub Admits : Terms → Setup → Admission → Option (List (Notice C S)) → Option (List (Notice C S)) → Type 0
  Admits terms setup (Admitted outsider at owed) before after =
      (deferred : Deferred) × (deferred.pin ≡ outsider.pin) × IsAdmittedLate terms setup deferred at × AsksPlace terms setup deferred (Ok at) before after
  Admits terms setup (Refused outsider owed) before after =
      (deferred : Deferred) × (refusal : Refusal) × (deferred.pin ≡ outsider.pin) × (refusal ≡ PlacesFull → ⊥) × AsksPlace terms setup deferred (Err refusal) before after
  Admits terms setup (Rests nothing) before after = (after ≡ before) ⊎ ((deferred : Deferred) × AsksPlace terms setup deferred (Err PlacesFull) before after)
