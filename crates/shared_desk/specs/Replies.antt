-- What a call through a lock can say: that its reply is one that a book gives in some state in
-- which the lock held it.
use Rattle.std.specs.Prelude.{◌≡◌}
use Rattle.grant_board.specs.Views.{Terms}
use Rattle.log_entries.specs.declared.setup.Setup.{Setup}
use Rattle.log_entries.specs.Legal.{IsLegal}
use Rattle.locked_book.specs.Books.{IsBook}
use Rattle.locked_book.specs.Calls.{Booked}

-- the invariant of the lock between two calls: a legal log of this setup, beside a board of these
-- terms at which exactly the log's outstanding verdicts are out
pub record IsHeld (terms : Terms) (setup : Setup) (held : Booked) : Type 0 where
  pub of_terms : held.view.terms ≡ terms
  pub of_setup : held.history.setup ≡ setup
  pub legal : IsLegal held.history
  pub book : IsBook held.history held.view

-- a fact holds of some state that the lock may hold
abbrev pub SomeHeld : Terms → Setup → (Booked → Type 0) → Type 0
SomeHeld terms setup is_so = (held : Booked) × IsHeld terms setup held × is_so held

-- a relation holds of a step from some state that the lock may hold
abbrev pub SomeStep : Terms → Setup → (Booked → Booked → Type 0) → Type 0
SomeStep terms setup is_so = (old : Booked) × (new : Booked) × IsHeld terms setup old × is_so old new
