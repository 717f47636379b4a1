-- What the desk's answer to an arrival says of a request.
use Rattle.std.proofs.Common.{ℕ, Option, Result, Ok, Err, IfOk, IfErr}
use Rattle.dispatch_state.specs.declared.position.Ticketed.{Ticketed}
use Rattle.grant_board.specs.Views.{Terms}
use Rattle.locked_book.specs.declared.book.Deferred.{Deferred}
use Rattle.log_entries.specs.declared.entry.Entry.{Entry}
use Rattle.log_entries.specs.declared.refusal.Refusal.{Refusal}
use Rattle.log_entries.specs.declared.setup.Setup.{Setup}
use Rattle.prio_rules.specs.declared.wish.Wish.{Wish}
use Rattle.relay_workers.specs.Admissions.{arrival, late_arrival, IsAdmittedAs, IsAdmittedLate, IsRefusedFor}
use Rattle.shared_desk.specs.Answers.{AnswersArrival}
use Rattle.shared_desk.specs.Changes.{Change}

module _ (terms : Terms) (setup : Setup) (moment : ℕ) where
  -- it has its place, and arrived with its wish
  pub admitted_as : (wished : Wish) (answer : Result Ticketed Refusal) (change : Change)
      → AnswersArrival terms setup (arrival wished) wished.pin moment answer change → IfOk answer (IsAdmittedAs terms setup wished)
  admitted_as wished (Ok it) change is = record { place = is.1; arrives = (moment, (change.old, change.new, is.0, is.2)) }
  admitted_as wished (Err refusal) change is = tt

  -- the same of one that waited elsewhere
  pub admitted_late : (deferred : Deferred) (answer : Result Ticketed Refusal) (change : Change)
      → AnswersArrival terms setup (late_arrival deferred) deferred.pin moment answer change → IfOk answer (IsAdmittedLate terms setup deferred)
  admitted_late deferred (Ok it) change is = record { place = is.1; arrives = (moment, (change.old, change.new, is.0, is.2)) }
  admitted_late deferred (Err refusal) change is = tt

  -- or the log that the lock held refuses it
  pub refused_for : (event : Ticketed → ℕ → Entry) (pin : Option ℕ) (answer : Result Ticketed Refusal) (change : Change)
      → AnswersArrival terms setup event pin moment answer change → IfErr answer (IsRefusedFor terms setup pin)
  refused_for event pin (Ok it) change is = tt
  refused_for event pin (Err refusal) change is = (change.old, is.0, is.1)
