-- The order of a trace's entries.
use Rattle.std.specs.Prelude.{◌≡◌, ◌≤◌, List, [], ◌∷◌, ◌++◌, IsSome, length}
use Rattle.std.specs.Option.{IfSome}
use Rattle.log_entries.specs.declared.entry.Entry.{Entry}
use Rattle.log_reading.specs.Grants.{moment_in, moment_of}

-- an entry may stand after others: the first one is an event, and no event's moment is before the last one's
pub record MayStand (past : List Entry) (entry : Entry) : Type 0 where
  pub begins : length past ≡ 0 → IsSome (moment_in entry)
  pub later : IfSome (moment_in entry) (λ moment. moment_of past ≤ moment)

-- each entry may stand after those before it
abbrev pub AllStand : List Entry → List Entry → Type 0
AllStand past [] = Unit {0}
AllStand past (entry ∷ entries) = MayStand past entry × AllStand (past ++ entry ∷ []) entries

-- timed: the entries begin with an event, and moments never fall
abbrev pub IsTimed : List Entry → Type 0
IsTimed entries = AllStand [] entries
