-- A table without a row, and a row that is put where there was none.
use Rattle.std.proofs.Common.{◌≡◌, ℕ, ◌<◌, ◌≤◌, ◌==◌, Bool, true, false, not, cond, zero, suc, List, length, replicate, is_some, Option, Some, None, ℤ}
use Rattle.std.proofs.Common.{refl, sym, ap, ◌∙◌, arith, get_or}
use Rattle.std.specs.Option.{option_and_then, unwrap_or}
use Rattle.std.specs.Bool.{IsTrue}
use Rattle.std.proofs.Math.ListN.{set, length-set, length-replicate}
use Rattle.std.proofs.lemmas.Bool.Decides.{Decides-eqb}
use Rattle.std.proofs.lemmas.Option.{same_Some, slice_get_read}
use Rattle.base_lists.proofs.Places.{got_set}
use Rattle.log_entries.specs.declared.queue.Queue.{Queue}
use Rattle.late_cert.specs.Table.{row_at, worst_of, IsTable}
use Rattle.late_cert.specs.declared.worsts.Worsts.{Worsts}

-- no place of a table without a row has one
no_row : (n at : ℕ) → row_at (replicate n None) at ≡ None
no_row zero at = refl
no_row (suc n) zero = refl
no_row (suc n) (suc at) = no_row n at

-- a table of this many cells without a row
module _ (table : List (Option Worsts)) (n : ℕ) (is : table ≡ replicate n None) where
  none_there : (at : ℕ) → row_at table at ≡ None
  none_there at = ap (λ (l : List (Option Worsts)). row_at l at) is ∙ no_row n at

  pub empty_table : (servers : ℕ) → n ≤ 4095 → 4095 ≤ n → IsTable servers table
  empty_table servers most least = record {
    long = let len : length table ≡ n = ap length is ∙ length-replicate n None in omega arith;
    rows = λ at row stands. let none : None ≡ Some row = sym (none_there at) ∙ stands in cc;
  }

  pub empty_worst : (at : ℕ) (queue : Queue) → option_and_then (λ row. worst_of row queue) (row_at table at) ≡ None
  empty_worst at queue = ap (option_and_then (λ row. worst_of row queue)) (none_there at)

-- what a read at a place tells of its row
row_read : (table : List (Option Worsts)) (at : ℕ) (read : Option Worsts) → at < length table → read ≡ get_or table at read → row_at table at ≡ read
row_read table at read there is = ap (λ (o : Option (Option Worsts)). unwrap_or o None) (slice_get_read table (length table) at read refl there is)

pub row_in : (servers : ℕ) (table : List (Option Worsts)) (at : ℕ) (read : Option Worsts) → IsTable servers table → at < 4095 → read ≡ get_or table at read
    → row_at table at ≡ read
row_in servers table at read is within value = row_read table at read (let long = is.long in omega arith) value

missing : (row : Option Worsts) (test : Bool) → is_some row ≡ not test → test ≡ true → row ≡ None
missing None test told is = refl
missing (Some row) true told is = cc
missing (Some row) false told is = cc

found : (row : Option Worsts) (test : Bool) → is_some row ≡ not test → test ≡ false → IsTrue (is_some row)
found row true told is = cc
found row false told is = told

-- what a test of a row that was read tells of its place
module _ (servers : ℕ) (table : List (Option Worsts)) (at : ℕ) (read : Option Worsts) (test : Bool) (is : IsTable servers table) (within : at < 4095)
    (value : read ≡ get_or table at read) (told : is_some read ≡ not test) where
  there : at < length table
  there = let long = is.long in omega arith

  pub row_missing : test ≡ true → (at < length table) × (row_at table at ≡ None)
  row_missing empty = (there, row_read table at read there value ∙ missing read test told empty)

  pub row_found : (place : ℕ) → at ≡ place → test ≡ false → IsTrue (is_some (row_at table place))
  row_found place same full =
      ap (λ (k : ℕ). is_some (row_at table k)) (sym same) ∙ ap is_some (row_read table at read there value) ∙ found read test told full

-- a table stays one with another row of so many servers at a place
pub table_with : (servers : ℕ) (table : List (Option Worsts)) (at : ℕ) (fresh : Worsts) → at < length table → IsTable servers table
    → length fresh.servers.items ≡ servers → IsTable servers (set table at (Some fresh))
table_with servers table at fresh there is long = record {
  long = length-set table at (Some fresh) ∙ is.long;
  rows = λ place row stands. go place row (place == at) (sym (got_set table at (Some fresh) None there place) ∙ stands);
}
  where
    go : (place : ℕ) (row : Worsts) (here : Bool) → cond here (Some fresh) (row_at table place) ≡ Some row → length row.servers.items ≡ servers
    go place row true e = ap (λ (r : Worsts). length r.servers.items) (sym (same_Some fresh row e)) ∙ long
    go place row false e = is.rows place row e

-- a row is put at a place without one
module _ (table : List (Option Worsts)) (at : ℕ) (fresh : Worsts) (there : at < length table) (none : row_at table at ≡ None) where
  put_here : (place : ℕ) → row_at (set table at (Some fresh)) place ≡ cond (place == at) (Some fresh) (row_at table place)
  put_here = got_set table at (Some fresh) None there

  pub table_kept : (servers : ℕ) → IsTable servers table → length fresh.servers.items ≡ servers → IsTable servers (set table at (Some fresh))
  table_kept servers is long = table_with servers table at fresh there is long

  pub room_made : (place : ℕ) → at ≡ place → IsTrue (is_some (row_at (set table at (Some fresh)) place))
  room_made place same =
      ap is_some (put_here place ∙ ap (λ (b : Bool). cond b (Some fresh) (row_at table place)) ((Decides-eqb place at).1 (sym same)))

  pub room_left : (place : ℕ) → IsTrue (is_some (row_at table place)) → IsTrue (is_some (row_at (set table at (Some fresh)) place))
  room_left place room = ap is_some (put_here place) ∙ go (place == at)
    where
      go : (here : Bool) → is_some (cond here (Some fresh) (row_at table place)) ≡ true
      go true = refl
      go false = room

  pub same_worst : ((queue : Queue) → worst_of fresh queue ≡ None) → (queue : Queue) (place : ℕ)
      → option_and_then (λ row. worst_of row queue) (row_at (set table at (Some fresh)) place)
      ≡ option_and_then (λ row. worst_of row queue) (row_at table place)
  same_worst bare queue place = ap worst (put_here place) ∙ go (place == at) refl
    where
      worst : Option Worsts → Option ℤ
      worst = option_and_then (λ row. worst_of row queue)

      go : (here : Bool) → (place == at) ≡ here → worst (cond here (Some fresh) (row_at table place)) ≡ worst (row_at table place)
      go true e = bare queue ∙ sym (ap worst (ap (row_at table) ((Decides-eqb place at).0 e) ∙ none))
      go false e = refl
