-- What a checker asks a gate for, and reports: server after server, and round after round.
use Rattle.std.specs.Prelude.{◌≡◌, ◌⊎◌, ℕ, ◌+◌, ◌-◌, ◌^◌, ◌<◌, ◌≤◌, min, Bool, List, Option, None, Some, replicate, slice_get, slice_index, slice_set}
use Rattle.grant_board.specs.Views.{Terms}
use Rattle.log_entries.specs.declared.setup.Setup.{Setup}
use Rattle.proxy_config.specs.declared.parts.Checks.{Checks}
use Rattle.proxy_config.specs.declared.parts.Server.{Server}
use Rattle.relay_workers.specs.Gates.{Notice, noted}
use Rattle.relay_workers.specs.Gates.Notice.{Now, Found, NotYet}
use Rattle.relay_workers.specs.Turning.{Reports}

-- a check of the server of this number is due now, by these checks; or none is due: there is no such
-- server, it has no checks, or its next one is later
abbrev pub IsDue : List Server → ℕ → ℕ → ℕ → Option Checks → Type 0
IsDue servers number next now (Some checks) =
    (server : Server) × (slice_get servers number ≡ Some server) × (server.check ≡ Some checks) × (next ≤ now)
IsDue servers number next now None =
    (slice_get servers number ≡ None)
    ⊎ ((server : Server) × (slice_get servers number ≡ Some server) × ((server.check ≡ None) ⊎ (now < next)))

-- a moment this number of milliseconds later, or the last moment
abbrev pub later_by : ℕ → ℕ → ℕ
later_by millis moment = min (moment + millis) (2 ^ 62 - 1)

-- What is done at one server in a round: nothing where no check is due; else the gate was asked for
-- the result, which isn't there yet, or was reported, and then the next check is due later.
abbrev pub Looks : {C S : Type 0} → Terms → Setup → ℕ → ℕ → Option Checks → ℕ → ℕ → Option (List (Notice C S)) → Option (List (Notice C S)) → Type 0
Looks terms setup now number None next next_then before after = (next_then ≡ next) × (after ≡ before)
Looks terms setup now number (Some checks) next next_then before after =
    ((next_then ≡ next) × (after ≡ noted (NotYet number) before))
    ⊎ ((ok : Bool) × (next_then ≡ later_by checks.inter now) × Reports terms setup number ok (noted (Found number ok) before) after)

-- the first servers of a round that began at this moment, by rising number, and when the next check of each is due
pub data HasLooked {C S : Type 0} (terms : Terms) (setup : Setup) (servers : List Server) (now : ℕ) (nexts : List ℕ) (before : Option (List (Notice C S)))
    : ℕ → List ℕ → Option (List (Notice C S)) → Type 0 where
  at_none : HasLooked terms setup servers now nexts before 0 nexts before
  at_one : (count : ℕ) (so_far : List ℕ) (between after : Option (List (Notice C S))) (checks : Option Checks) (next : ℕ)
      → HasLooked terms setup servers now nexts before count so_far between → IsDue servers count (slice_index so_far count) now checks
      → Looks terms setup now count checks (slice_index so_far count) next between after
      → HasLooked terms setup servers now nexts before (count + 1) (slice_set so_far count next) after

-- a round: the gate gave a moment, and then each number below 64 was looked at
abbrev pub IsRound : {C S : Type 0} → Terms → Setup → List Server → List ℕ → List ℕ → Option (List (Notice C S)) → Option (List (Notice C S)) → Type 0
IsRound terms setup servers nexts nexts_then before after =
    (now : ℕ) × HasLooked terms setup servers now nexts (noted (Now now) before) 64 nexts_then after

-- round after round, each check being due at once, and one pause less is left for each
pub data HasChecked {C S : Type 0} (terms : Terms) (setup : Setup) (servers : List Server) (first : Option (List (Notice C S))) (most : ℕ)
    : Option (List (Notice C S)) → List ℕ → ℕ → Type 0 where
  began : HasChecked terms setup servers first most first (replicate 64 0) most
  round : (before after : Option (List (Notice C S))) (nexts nexts_then : List ℕ) (left left_then : ℕ)
      → HasChecked terms setup servers first most before nexts left → IsRound terms setup servers nexts nexts_then before after → left ≡ left_then + 1
      → HasChecked terms setup servers first most after nexts_then left_then

-- a checker ended: it was told to stop, before a round; or it made one round more, and no pause is left
abbrev pub HasEndedChecks : {C S : Type 0} → Type 0 → Terms → Setup → List Server → Option (List (Notice C S)) → ℕ → Option (List (Notice C S)) → ℕ → Type 0
HasEndedChecks {C} {S} IsTold terms setup servers first most last left =
    (before : Option (List (Notice C S))) × (nexts : List ℕ) × (left_before : ℕ)
    × HasChecked terms setup servers first most before nexts left_before
    × ((IsTold × (last ≡ before) × (left ≡ left_before))
    ⊎ ((nexts_then : List ℕ) × IsRound terms setup servers nexts nexts_then before last × (left_before ≡ 0) × (left ≡ 0)))
