-- What a gate notes, one step after the other.
use Rattle.std.proofs.Common.{◌≡◌, ◌∷◌, ◌++◌, [], ℕ, Bool, List, Option, Result, Ok, Err, IfOk, IfErr, refl, subst, ◌<◌, zero, suc, length, slice_index_or, arith}
use Rattle.grant_board.specs.Views.{Terms}
use Rattle.log_entries.specs.declared.refusal.Refusal.{Refusal}
use Rattle.log_entries.specs.declared.setup.Setup.{Setup}
use Rattle.relay_workers.specs.Gates.{Notice}
use Rattle.relay_workers.specs.Tallies.{tally_noted, all_noted}
use Rattle.relay_workers.specs.Turning.{IsAnswered, HasTurned, GivesUp, Reports}
use Rattle.shared_desk.specs.Answers.{AnswersAbort, AnswersCheck, AnswersTurn}
use Rattle.relay_workers.specs.declared.outcome.Outcome.{Outcome}
use Rattle.relay_workers.specs.declared.tally.Tally.{Tally}

-- two things that are known, one of them of an Ok
pub known_both : {A E : Type 0} {P : Type 0} (Q : A → Type 0) (answer : Result A E) → P → IfOk answer Q → IfOk answer (λ it. P × Q it)
known_both Q (Ok it) p q = (p, q)
known_both Q (Err error) p q = tt

-- the same of an Err
pub known_both_err : {A E : Type 0} {P : Type 0} (Q : E → Type 0) (answer : Result A E) → P → IfErr answer Q → IfErr answer (λ it. P × Q it)
known_both_err Q (Ok it) p q = tt
known_both_err Q (Err error) p q = (p, q)

-- what is read where there is something is the same, whatever else would be
pub same_read : (xs : List ℕ) (i a b : ℕ) → i < length xs → slice_index_or xs i a ≡ slice_index_or xs i b
same_read [] i a b inside = let none : i < 0 = inside in omega arith
same_read (x ∷ xs) zero a b inside = refl
same_read (x ∷ xs) (suc i) a b inside = same_read xs i a b (omega (arith, inside))

-- one more outcome at the end
pub noted_more : (t : Tally) (outcomes : List Outcome) (outcome : Outcome) → all_noted t (outcomes ++ outcome ∷ []) ≡ tally_noted outcome (all_noted t outcomes)
noted_more t [] outcome = refl
noted_more t (first ∷ outcomes) outcome = noted_more (tally_noted first t) outcomes outcome

module _ {C S : Type 0} (terms : Terms) (setup : Setup) where
  -- a call that was made where a gate had noted this, whatever it answered
  pub turned_from : {first before : Option (List (Notice C S))} (answer : Result (Unit {0}) Refusal) (after : Option (List (Notice C S))) → before ≡ first
      → IsAnswered terms setup (AnswersTurn terms setup) answer before after → HasTurned terms setup first after
  turned_from answer after same is =
      (answer, subst (λ (it : Option (List (Notice C S))). IsAnswered terms setup (AnswersTurn terms setup) answer it after) same is)

  pub gave_up_from : (ticket : ℕ) {first before : Option (List (Notice C S))} (answer : Result (Unit {0}) Refusal) (after : Option (List (Notice C S)))
      → before ≡ first → IsAnswered terms setup (AnswersAbort terms setup ticket) answer before after → GivesUp terms setup ticket first after
  gave_up_from ticket answer after same is =
      (answer, subst (λ (it : Option (List (Notice C S))). IsAnswered terms setup (AnswersAbort terms setup ticket) answer it after) same is)

  pub reported_from : (server : ℕ) (ok : Bool) {first before : Option (List (Notice C S))} (answer : Result (Unit {0}) Refusal)
      (after : Option (List (Notice C S))) → before ≡ first → IsAnswered terms setup (AnswersCheck terms setup server ok) answer before after
      → Reports terms setup server ok first after
  reported_from server ok answer after same is =
      (answer, subst (λ (it : Option (List (Notice C S))). IsAnswered terms setup (AnswersCheck terms setup server ok) answer it after) same is)
