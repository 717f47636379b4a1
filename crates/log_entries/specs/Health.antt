-- The servers that are up.
use Rattle.std.specs.Prelude.{ℕ, Bool, true, List, [], ◌∷◌, ◌++◌, Option, None, Some, slice_index_or, slice_set}
use Rattle.check_state.specs.Results.{is_up_after}
use Rattle.check_state.specs.Shortened.{shortened}
use Rattle.log_entries.specs.declared.setup.ServerSet.{ServerSet}

-- a server that isn't checked is up; one that is checked with rise and fall is up by its results
abbrev pub is_up_by : Option (ℕ × ℕ) → List Bool → Bool
is_up_by None results = true
is_up_by (Some it) results = is_up_after it.0 it.1 results

-- which servers are up, by the results of their checks
abbrev pub ups_of : List ServerSet → List (List Bool) → List Bool
ups_of [] results = []
ups_of (server ∷ servers) [] = is_up_by server.rise_fall [] ∷ ups_of servers []
ups_of (server ∷ servers) (of_it ∷ results) = is_up_by server.rise_fall of_it ∷ ups_of servers results

-- the results of a server's checks, the oldest first
abbrev pub results_of : List (List Bool) → ℕ → List Bool
results_of results server = slice_index_or results server []

-- the results with one more result of a server
abbrev pub with_result : ℕ → Bool → List (List Bool) → List (List Bool)
with_result server ok results = slice_set results server (results_of results server ++ ok ∷ [])

-- a list without its last element
abbrev pub without_last : List Bool → List Bool
without_last [] = []
without_last (first ∷ []) = []
without_last (first ∷ second ∷ rest) = first ∷ without_last (second ∷ rest)

-- the shortest results that have the effect of a server's results; none for a server that isn't checked
abbrev pub shortened_by : Option (ℕ × ℕ) → List Bool → List Bool
shortened_by None results = []
shortened_by (Some it) results = shortened it.0 it.1 results

-- the same for each server
abbrev pub shortened_all : List ServerSet → List (List Bool) → List (List Bool)
shortened_all [] results = []
shortened_all (server ∷ servers) [] = shortened_by server.rise_fall [] ∷ shortened_all servers []
shortened_all (server ∷ servers) (of_it ∷ results) = shortened_by server.rise_fall of_it ∷ shortened_all servers results
