-- The outstanding verdicts: place by place, the requests that have a slot or were told why not, until they end.
use Rattle.std.specs.Prelude.{ℕ, suc, List, [], ◌∷◌, ◌++◌, Option, None, Some, map, if◌then◌else◌}
use Rattle.base_verdict.specs.declared.Verdict.{Verdict}
use Rattle.base_verdict.specs.declared.Verdict.TheVariants as verdict
use Rattle.grant_board.specs.Views.{Grant, grant}
use Rattle.log_entries.specs.declared.row.Phase.{Phase}
use Rattle.log_entries.specs.declared.row.Phase.TheVariants.{Loose, Waiting, Serving, Told}
use Rattle.log_entries.specs.declared.row.Row.{Row}
use Rattle.log_entries.specs.Rows.{Rows, has_ticket}

-- the verdict that a request in this phase was given; none yet where it waits or has no phase
abbrev pub verdict_at : Phase → Option Verdict
verdict_at (Serving server) = Some (verdict.Serve server)
verdict_at (Told cause) = Some (verdict.Told cause)
verdict_at (Waiting queue since) = None
verdict_at Loose = None

abbrev pub grant_at : ℕ → ℕ → Option Verdict → List Grant
grant_at place ticket None = []
grant_at place ticket (Some it) = grant place ticket it ∷ []

-- the verdict that is outstanding at a place
abbrev pub grants_at : ℕ → Option Row → List Grant
grants_at place None = []
grants_at place (Some row) = grant_at place row.key.ticket (verdict_at row.phase)

-- the verdicts that are outstanding at places, the first of which has this number
abbrev pub outstanding_from : ℕ → Rows → List Grant
outstanding_from place [] = []
outstanding_from place (cell ∷ rows) = grants_at place cell ++ outstanding_from (suc place) rows

abbrev pub outstanding : Rows → List Grant
outstanding rows = outstanding_from 0 rows

-- the place of a ticket's row: the first one that has it
abbrev pub place_in : ℕ → Rows → ℕ
place_in ticket [] = 0
place_in ticket (cell ∷ rows) = if has_ticket ticket cell then 0 else suc (place_in ticket rows)

-- verdicts with the places of their rows
abbrev pub grants_of : Rows → List (ℕ × Verdict) → List Grant
grants_of rows verdicts = map (λ it. grant (place_in it.0 rows) it.0 it.1) verdicts
