-- Tables of values by token, as contracts see them.
use Rattle.std.specs.Prelude.{◌≡◌, ℕ, zero, suc, ◌+◌, ◌<◌, ◌^◌, ltb, List, [], ◌∷◌, ◌++◌, Option, Some, None, length, replicate, slice_get, slice_set, Contains, if◌then◌else◌}
use Rattle.queue_waits.specs.Order.{Order, places_without}
use Rattle.loop_table.specs.declared.token.Token.{Token}

-- the value in each cell, how often each cell was closed, and the free cells, the next one at the front
pub record Table (T : Type 0) : Type 0 where
  pub values : List (Option T)
  pub generations : List ℕ
  pub free : List ℕ

-- the cell of a token has been closed as often as when the token was given
abbrev pub IsNow : {T : Type 0} → Table T → Token → Type 0
IsNow table token = slice_get table.generations token.index ≡ Some token.generation

-- a token has a value
pub record HasValue {T : Type 0} (table : Table T) (token : Token) (value : T) : Type 0 where
  pub now : IsNow table token
  pub there : slice_get table.values token.index ≡ Some (Some value)

-- a token that the next value may get
pub record IsVacantToken {T : Type 0} (table : Table T) (token : Token) : Type 0 where
  pub now : IsNow table token
  pub free : Contains table.free token.index

-- a token whose value is lent out
pub record IsOut {T : Type 0} (table : Table T) (token : Token) : Type 0 where
  pub now : IsNow table token
  pub there : slice_get table.values token.index ≡ Some None
  pub taken : ¬ (Contains table.free token.index)

-- a token whose cell was closed after the token was given
pub record IsGone {T : Type 0} (table : Table T) (token : Token) : Type 0 where
  pub times : ℕ
  pub now : slice_get table.generations token.index ≡ Some times
  pub since : token.generation < times

-- the numbers below a number
abbrev pub below : ℕ → List ℕ
below zero = []
below (suc n) = below n ++ n ∷ []

abbrev pub fresh : {T : Type 0} → ℕ → Table T
fresh room = record { values = replicate room None; generations = replicate room 0; free = below room }

abbrev pub given : {T : Type 0} → Table T → Token → T → Table T
given table token value = record {
  values = slice_set table.values token.index (Some value);
  generations = table.generations;
  free = places_without token.index table.free;
}

abbrev pub table_with_open : {T : Type 0} → Table T → Token → Table T
table_with_open table token = record { values = table.values; generations = table.generations; free = places_without token.index table.free }

abbrev pub lent : {T : Type 0} → Table T → Token → Table T
lent table token = record { values = slice_set table.values token.index None; generations = table.generations; free = table.free }

abbrev pub filled : {T : Type 0} → Table T → Token → T → Table T
filled table token value = record {
  values = slice_set table.values token.index (Some value);
  generations = table.generations;
  free = table.free;
}

-- a cell that was given out 2 ^ 40 times isn't given again
abbrev pub closed : {T : Type 0} → Table T → Token → Table T
closed table token = record {
  values = table.values;
  generations = slice_set table.generations token.index (token.generation + 1);
  free = if ltb (token.generation + 1) (2 ^ 40) then table.free ++ token.index ∷ [] else table.free;
}

-- the lists have the same length, and each free cell is empty and may be given out once more
pub record IsTokenTable {T : Type 0} (values : List (Option T)) (generations : List ℕ) (free : Order) : Type 0 where
  pub few : free.room < 2 ^ 20 + 1
  pub values_room : length values ≡ free.room
  pub generations_room : length generations ≡ free.room
  pub free_below : (index : ℕ) → Contains free.places index → index < free.room
  pub free_empty : (index : ℕ) → Contains free.places index → slice_get values index ≡ Some None
  pub free_young : (index times : ℕ) → Contains free.places index → slice_get generations index ≡ Some times → times < 2 ^ 40
