-- Requests that have waited as long as they may.
use Rattle.std.specs.Prelude.{◌≡◌, ℕ, ◌↔◌, List, Contains}
use Rattle.log_entries.specs.declared.row.Row.{Row}
use Rattle.log_entries.specs.Histories.{History, state_of}
use Rattle.log_entries.specs.Judgement.{HasExpired}
use Rattle.log_entries.specs.Rows.{StandsAt}

-- a place has a request
abbrev pub HasRowAt : History → ℕ → Type 0
HasRowAt history place = (row : Row) × StandsAt (state_of history).rows place row

-- the request at a place has waited, at this moment, as long as it may
abbrev pub ExpiresAt : History → ℕ → ℕ → Type 0
ExpiresAt history now place = (row : Row) × StandsAt (state_of history).rows place row × HasExpired history.setup now row.phase

-- these tickets with their places are exactly those of the expired requests
abbrev pub AreExpired : History → List (ℕ × ℕ) → Type 0
AreExpired history tickets =
    (ticket place : ℕ)
    → Contains tickets (ticket, place) ↔
    ((row : Row) × StandsAt (state_of history).rows place row × HasExpired history.setup (state_of history).moment row.phase × (row.key.ticket ≡ ticket))
