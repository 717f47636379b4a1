-- What a gate was told of calls of the desk, one after the other.
use Rattle.std.proofs.Common.{◌≡◌, ℕ, List, Option, Result, Ok, Err, refl, subst, sym, ap, ◌∙◌, inl, inr}
use Rattle.std.specs.declared.alloc.AllocError.{AllocError}
use Rattle.dispatch_reports.specs.declared.reporting.EndedWindow.{EndedWindow}
use Rattle.grant_board.specs.Views.{Terms}
use Rattle.log_entries.specs.declared.refusal.Refusal.{Refusal}
use Rattle.log_entries.specs.declared.refusal.Refusal.TheVariants.{LogFull}
use Rattle.log_entries.specs.declared.setup.Setup.{Setup}
use Rattle.relay_workers.specs.Gates.{Notice, noted}
use Rattle.relay_workers.specs.Gates.Notice.{Now, Told}
use Rattle.relay_workers.specs.Turning.{IsAnswered, WasTold, with_room}
use Rattle.shared_desk.specs.Answers.{MakesRoom}
use Rattle.shared_desk.specs.Changes.{Change}

-- a gate gave a moment, and then it was told
pub answered : {C S T : Type 0} (terms : Terms) (setup : Setup) (Answers : ℕ → Result T Refusal → Change → Type 0) (moment : ℕ) (result : Result T Refusal)
    (before between after : Option (List (Notice C S))) → between ≡ noted (Now moment) before
    → WasTold (λ (it : Change). it) terms setup (Answers moment) result between after → IsAnswered terms setup Answers result before after
answered {C} {S} {T} terms setup Answers moment result before between after is told =
    (moment, subst (λ (it : Option (List (Notice C S))). WasTold (λ (change : Change). change) terms setup (Answers moment) result it after) is told)

module _ {C S T E : Type 0} (change_of : E → Change) (terms : Terms) (setup : Setup) (Answers : Result T Refusal → E → Type 0) where
  -- the call was made once more, where room was found
  pub told_again : (answer result : Result T Refusal) (earlier later : E) (found : Option EndedWindow) (room : Change)
      (before between after last : Option (List (Notice C S))) → answer ≡ Err LogFull → Answers answer earlier
      → between ≡ noted (Told (change_of earlier)) before → MakesRoom terms setup (Ok found) room → after ≡ with_room found room between
      → Answers result later → last ≡ noted (Told (change_of later)) after → WasTold change_of terms setup Answers result before last
  told_again answer result earlier later found room before between after last is answers told makes roomy again told_later = inr (
    earlier,
    subst (λ (it : Result T Refusal). Answers it earlier) is answers,
    room,
    inl (
      found,
      later,
      makes,
      again,
      told_later ∙ ap (noted (Told (change_of later))) (roomy ∙ ap (with_room found room) told),
    ),
  )

  -- there was no memory for room
  pub told_of_none : (answer : Result T Refusal) (earlier : E) (fault : AllocError) (room : Change)
      (before between after : Option (List (Notice C S))) → answer ≡ Err LogFull → Answers answer earlier
      → between ≡ noted (Told (change_of earlier)) before → MakesRoom terms setup (Err fault) room → after ≡ noted (Told room) between
      → WasTold change_of terms setup Answers (Err LogFull) before after
  told_of_none answer earlier fault room before between after is answers told makes last = inr (
    earlier,
    subst (λ (it : Result T Refusal). Answers it earlier) is answers,
    room,
    inr (fault, makes, refl, last ∙ ap (noted (Told room)) told),
  )

  -- what holds of each answer of a call holds of the result
  pub of_each : (Is : Result T Refusal → Type 0) (result : Result T Refusal) (before after : Option (List (Notice C S)))
      → ((answer : Result T Refusal) (it : E) → Answers answer it → Is answer) → WasTold change_of terms setup Answers result before after → Is result
  of_each Is result before after each (inl once) = each result once.0 once.1
  of_each Is result before after each (inr (earlier, refused, room, inl again)) = each result again.1 again.3
  of_each Is result before after each (inr (earlier, refused, room, inr none)) = subst Is (sym none.2) (each (Err LogFull) earlier refused)
