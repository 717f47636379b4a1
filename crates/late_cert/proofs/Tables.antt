-- Rows of the worst of each queue, and the table of these.
use Rattle.std.proofs.Common.{◌≡◌, ℕ, ◌<◌, ◌==◌, Bool, true, false, cond, List, length, is_some}
use Rattle.std.proofs.Common.{Option, Some, None, ℤ, refl, sym, ap, ◌∙◌, arith}
use Rattle.std.proofs.Common.{pos, negsuc, ◌-ℤ◌, ◌≤ℤ◌, ◌&&◌}
use Rattle.std.specs.Int.{int_max}
use Rattle.std.specs.Ordering.{int_eq}
use Rattle.std.proofs.lemmas.Int.{ints}
use Rattle.due_key.specs.Range.{IsBetween}
use Rattle.due_key.specs.declared.class.TheConstants.{LOWEST_CLASS, HIGHEST_CLASS}
use Rattle.std.specs.Option.{option_and_then, option_map_or}
use Rattle.std.specs.Vec.{with_item}
use Rattle.std.proofs.Math.ListN.{set}
use Rattle.std.proofs.lemmas.Bool.Decides.{Decides-eqb, Decides-int_eq}
use Rattle.base_lists.proofs.Places.{got_set}
use Rattle.log_entries.specs.declared.queue.Queue.{Queue}
use Rattle.log_entries.specs.declared.queue.Queue.TheVariants.{Backend, Server}
use Rattle.log_entries.specs.Rows.{same_queue}
use Rattle.late_cert.specs.Table.{row_at, worst_of, worst_at}
use Rattle.late_cert.specs.Running.{worst_with}
use Rattle.late_cert.specs.declared.worsts.Worsts.{Worsts}
use Rattle.late_cert.proofs.ClassRows.{row_of-at}

-- what a row says once the worst of a server's queue was set
pub server_set : (row : Worsts) (s : ℕ) (x : Option ℤ) → s < length row.servers.items → (other : Queue)
    → worst_of (record { backend = row.backend; servers = with_item row.servers s x }) other ≡ cond (same_queue other (Server s)) x (worst_of row other)
server_set row s x there Backend = refl
server_set row s x there (Server o) = got_set row.servers.items s x None there o

-- the number of a class's row
abbrev pub at_least_zero : ℤ → ℕ
at_least_zero (pos number) = number
at_least_zero (negsuc number) = 0

abbrev pub row_number : ℤ → ℕ
row_number class = at_least_zero (class -ℤ LOWEST_CLASS)

at_its_number : (c : ℤ) → IsBetween LOWEST_CLASS HIGHEST_CLASS c → pos (row_number c) ≡ c -ℤ LOWEST_CLASS
at_its_number c range = from_zero (c -ℤ LOWEST_CLASS) (let low = range.lower in grind (arith, ints))
  where
    from_zero : (z : ℤ) → pos 0 ≤ℤ z → pos (at_least_zero z) ≡ z
    from_zero (pos n) above = refl
    from_zero (negsuc n) above = absurd (grind (arith, ints))

-- two classes of one row are one
pub same_row : (class other : ℤ) → IsBetween LOWEST_CLASS HIGHEST_CLASS class → IsBetween LOWEST_CLASS HIGHEST_CLASS other
    → row_number class ≡ row_number other → class ≡ other
same_row class other in_range other_in_range same =
    let own : pos (row_number class) ≡ class -ℤ LOWEST_CLASS = at_its_number class in_range in
    let its : pos (row_number other) ≡ other -ℤ LOWEST_CLASS = at_its_number other other_in_range in
    let one_number : pos (row_number class) ≡ pos (row_number other) = ap pos same in
    grind (arith, ints)

-- what a class's row says of a queue
abbrev worst_in : List (Option Worsts) → Queue → ℤ → Option ℤ
worst_in table queue class = option_and_then (λ row. worst_of row queue) (row_at table (row_number class))

worst_there : (table : List (Option Worsts)) (queue : Queue) (class : ℤ) → IsBetween LOWEST_CLASS HIGHEST_CLASS class
    → worst_at table queue class ≡ worst_in table queue class
worst_there table queue class in_range = ap (option_and_then (λ row. worst_of row queue)) (row_of-at class (row_number class) (at_its_number class in_range) table)

-- the worst of each queue and class once a row was told of a grant
noted_in : (table : List (Option Worsts)) (at : ℕ) (row new : Worsts) (queue : Queue) (class late : ℤ) → at ≡ row_number class → at < length table
    → row_at table at ≡ Some row → IsBetween LOWEST_CLASS HIGHEST_CLASS class
    → ((other : Queue) → worst_of new other ≡ cond (same_queue other queue) (Some (option_map_or (int_max late) (worst_of row queue) late))
    (worst_of row other))
    → (other : Queue) (number : ℤ) → IsBetween LOWEST_CLASS HIGHEST_CLASS number
    → worst_in (set table at (Some new)) other number ≡ worst_with (worst_in table) queue class late other number
noted_in table at row new queue class late numbered there stands in_range told other number number_in_range = go (int_eq number class) refl
  where
    seen : worst_in (set table at (Some new)) other number
        ≡ option_and_then (λ r. worst_of r other) (cond (row_number number == at) (Some new) (row_at table (row_number number)))
    seen = ap (option_and_then (λ r. worst_of r other)) (got_set table at (Some new) None there (row_number number))

    by_queue : (b : Bool) → worst_in table other number ≡ worst_of row other → worst_in table queue class ≡ worst_of row queue
        → cond b (Some (option_map_or (int_max late) (worst_of row queue) late)) (worst_of row other)
        ≡ cond (b && true) (Some (option_map_or (int_max late) (worst_in table queue class) late)) (worst_in table other number)
    by_queue true own its = ap (λ o. Some (option_map_or (int_max late) o late)) (sym its)
    by_queue false own its = sym own

    go : (b : Bool) → int_eq number class ≡ b → worst_in (set table at (Some new)) other number
        ≡ cond (same_queue other queue && b) (Some (option_map_or (int_max late) (worst_in table queue class) late)) (worst_in table other number)
    go true e =
        let one_class : class ≡ number = sym ((Decides-int_eq number class).0 e) in
        let here : row_at table (row_number number) ≡ Some row = ap (row_at table) (sym (numbered ∙ ap row_number one_class)) ∙ stands in
        let same_at : (row_number number == at) ≡ true = (Decides-eqb (row_number number) at).1 (sym (numbered ∙ ap row_number one_class)) in
        let own : worst_in table other number ≡ worst_of row other = ap (option_and_then (λ r. worst_of r other)) here in
        let its : worst_in table queue class ≡ worst_of row queue =
        ap (option_and_then (λ r. worst_of r queue)) (ap (row_at table) (sym numbered) ∙ stands) in
        seen ∙ ap (λ b. option_and_then (λ r. worst_of r other) (cond b (Some new) (row_at table (row_number number)))) same_at ∙ told other
        ∙ by_queue (same_queue other queue) own its
    go false e =
        let apart : (row_number number == at) ≡ false = other_row (row_number number == at) refl in
        seen ∙ ap (λ b. option_and_then (λ r. worst_of r other) (cond b (Some new) (row_at table (row_number number)))) apart
        ∙ by_none (same_queue other queue)
      where
        other_row : (b : Bool) → (row_number number == at) ≡ b → b ≡ false
        other_row true is =
            let one_class : class ≡ number = same_row class number in_range number_in_range (sym ((Decides-eqb (row_number number) at).0 is ∙ numbered)) in
            let equal : int_eq number class ≡ true = (Decides-int_eq number class).1 (sym one_class) in cc
        other_row false is = refl

        by_none : (b : Bool) → worst_in table other number
            ≡ cond (b && false) (Some (option_map_or (int_max late) (worst_in table queue class) late)) (worst_in table other number)
        by_none true = refl
        by_none false = refl

pub noted : (table : List (Option Worsts)) (at : ℕ) (row new : Worsts) (queue : Queue) (class late : ℤ) → pos at ≡ class -ℤ LOWEST_CLASS → at < length table
    → row_at table at ≡ Some row → IsBetween LOWEST_CLASS HIGHEST_CLASS class
    → ((other : Queue) → worst_of new other ≡ cond (same_queue other queue) (Some (option_map_or (int_max late) (worst_of row queue) late))
    (worst_of row other))
    → (other : Queue) (number : ℤ) → IsBetween LOWEST_CLASS HIGHEST_CLASS number
    → worst_at (set table at (Some new)) other number ≡ worst_with (worst_at table) queue class late other number
noted table at row new queue class late numbered there stands in_range told other number number_in_range =
    worst_there (set table at (Some new)) other number number_in_range
    ∙ noted_in table at row new queue class late (number_is at class numbered in_range) there stands in_range told other number number_in_range
    ∙ ap (λ o. cond its (Some (option_map_or (int_max late) o late)) (worst_in table other number)) (sym (worst_there table queue class in_range))
    ∙ ap (λ o. cond its (Some (option_map_or (int_max late) (worst_at table queue class) late)) o) (sym (worst_there table other number number_in_range))
  where
    its : Bool
    its = same_queue other queue && int_eq number class

    number_is : (at : ℕ) (class : ℤ) → pos at ≡ class -ℤ LOWEST_CLASS → IsBetween LOWEST_CLASS HIGHEST_CLASS class → at ≡ row_number class
    number_is at class is range = let own = at_its_number class range in grind (arith, ints)

-- for which classes there is room once a row was written
pub room_kept : (table : List (Option Worsts)) (at : ℕ) (row new : Worsts) → at < length table → row_at table at ≡ Some row
    → (place : ℕ) → is_some (row_at (set table at (Some new)) place) ≡ is_some (row_at table place)
room_kept table at row new there stands place = ap is_some (got_set table at (Some new) None there place) ∙ go (place == at) refl
  where
    go : (b : Bool) → (place == at) ≡ b → is_some (cond b (Some new) (row_at table place)) ≡ is_some (row_at table place)
    go true e = ap is_some (sym stands) ∙ ap (λ k. is_some (row_at table k)) (sym ((Decides-eqb place at).0 e))
    go false e = refl
