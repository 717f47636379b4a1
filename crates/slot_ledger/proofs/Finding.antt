-- What a ledger's cells and its index tell of tickets.
use Rattle.std.proofs.Common.{◌≡◌, ◌≢◌, ℕ, ◌+◌, ◌^◌, ◌<◌, List, Option, None, Some, length, All, Contains, MatchOption, option_map, refl, ap, sym, ◌∙◌}
use Rattle.std.proofs.Common.{subst, get_or, slice_get}
use Rattle.std.proofs.Math.ListN.{set}
use Rattle.std.proofs.lemmas.Option.{same_Some, slice_get_within, slice_get_read, slice_get-map, get_or_from_slice_get}
use Rattle.std.proofs.lemmas.List.Elements.{All-contains, Contains-get_or}
use Rattle.base_lists.proofs.Never.{none_some}
use Rattle.slot_ledger.specs.declared.places.Cell.{Cell}
use Rattle.slot_ledger.specs.Places.{PlacesAreKept}
use Rattle.slot_ledger.specs.Cells.{StandsIn, HasRow, HasNode, HasCountable, HasTicketAt, HasNoTicket, AreBelow, rows_in, with_cell}
use Rattle.slot_ledger.specs.Tickets.{Indexed, TicketIsAbsent}

module _ {H : Type 0} where
  -- a place with a row is among the places
  pub row_within : (cells now : List (Option (Cell H))) (p : ℕ) → cells ≡ now → HasRow now p → p < length cells
  row_within cells now p same has =
      slice_get_within cells p (Some has.0) (subst (λ (l : List (Option (Cell H))). StandsIn l p has.0) (sym same) has.1)

  -- a read at a place with a row finds some row
  pub row_missed : {P : Type 0} (cells now : List (Option (Cell H))) (p : ℕ) (x : Option (Cell H)) → cells ≡ now → HasRow now p → x ≡ get_or cells p x
      → x ≡ None → P
  row_missed cells now p x same has read is =
      let row : StandsIn cells p has.0 = subst (λ (l : List (Option (Cell H))). StandsIn l p has.0) (sym same) has.1 in
      none_some (sym is ∙ read ∙ get_or_from_slice_get cells p (Some has.0) x row)

  -- the cells with a row written over another, as clauses say it
  pub row_changed : (change : Cell H → Cell H) (cells now : List (Option (Cell H))) (p : ℕ) (s : Cell H) → cells ≡ now → StandsIn cells p s
      → set cells p (Some (change s)) ≡ with_cell change now p
  row_changed change cells now p s same stands =
      ap (λ (o : Option (Cell H)). set cells p (option_map change o)) (sym (get_or_from_slice_get cells p (Some s) None stands))
      ∙ ap (λ (l : List (Option (Cell H))). with_cell change l p) same

  -- two rows at one place are one
  one_row : (cells now : List (Option (Cell H))) (p : ℕ) (s t : Cell H) → cells ≡ now → StandsIn cells p s → StandsIn now p t → t ≡ s
  one_row cells now p s t same stands there =
      same_Some t s (same_Some (Some t) (Some s) (sym there ∙ sym (ap (λ (l : List (Option (Cell H))). slice_get l p) same) ∙ stands))

  -- the row that stands at a place has what is said of the place's row
  pub countable_read : (cells now : List (Option (Cell H))) (p : ℕ) (s : Cell H) → cells ≡ now → HasCountable now p → StandsIn cells p s
      → s.row.failures + 1 < 2 ^ 32
  countable_read cells now p s same has stands =
      subst (λ (u : Cell H). u.row.failures + 1 < 2 ^ 32) (one_row cells now p s has.0 same stands has.1) has.2

  pub node_missed : {P : Type 0} (cells now : List (Option (Cell H))) (p : ℕ) (s : Cell H) → cells ≡ now → HasNode now p → StandsIn cells p s
      → s.node ≡ None → P
  node_missed cells now p s same has stands is =
      none_some (sym is ∙ ap (λ (u : Cell H). u.node) (sym (one_row cells now p s has.0 same stands has.2)) ∙ has.3)

  -- the row that a read found
  pub stands_read : (cells now : List (Option (Cell H))) (p : ℕ) (x : Option (Cell H)) (s : Cell H) → cells ≡ now → HasRow now p → x ≡ get_or cells p x
      → x ≡ Some s → StandsIn cells p s
  stands_read cells now p x s same has read is =
      let row : StandsIn cells p has.0 = subst (λ (l : List (Option (Cell H))). StandsIn l p has.0) (sym same) has.1 in
      let there : p < length cells = slice_get_within cells p (Some has.0) row in
      slice_get_read cells (length cells) p x refl there read ∙ ap Some is

  -- what a look-up of a ticket tells
  pub find_tells : (cells now : List (Option (Cell H))) (vacant : List ℕ) (capacity : ℕ) (index : Indexed) (ticket : ℕ) (r : Option ℕ) → cells ≡ now
      → PlacesAreKept cells vacant capacity index
      → MatchOption r (TicketIsAbsent ticket index.pairs) (λ place. Contains index.pairs (ticket, place))
      → MatchOption r (HasNoTicket ticket now) (λ place. HasTicketAt ticket now place)
  find_tells cells now vacant capacity index ticket None same is tells = λ place cell stands own.
      let among : Contains index.pairs (cell.row.key.ticket, place) =
      is.complete place cell (subst (λ (l : List (Option (Cell H))). StandsIn l place cell) (sym same) stands) in
      All-contains (λ pair. pair.0 ≢ ticket) index.pairs (cell.row.key.ticket, place) tells among own
  find_tells cells now vacant capacity index ticket (Some place) same is tells =
      subst (λ (l : List (Option (Cell H))). HasTicketAt ticket l place) same (is.indexed ticket place tells)

  -- a ticket above all others is above those of the index
  pub above_index : (cells now : List (Option (Cell H))) (vacant : List ℕ) (capacity : ℕ) (index : Indexed) (ticket : ℕ) → cells ≡ now
      → PlacesAreKept cells vacant capacity index → AreBelow ticket now → All (λ pair. pair.0 < ticket) index.pairs
  above_index cells now vacant capacity index ticket same is below k d within =
      let pair = get_or index.pairs k d in
      let has = is.indexed pair.0 pair.1 (Contains-get_or index.pairs k d within) in
      subst (λ n. n < ticket) has.2 (below pair.1 has.0 (subst (λ (l : List (Option (Cell H))). StandsIn l pair.1 has.0) same has.1))

  -- the row at a place is in the index
  pub stands_indexed : (cells : List (Option (Cell H))) (vacant : List ℕ) (capacity : ℕ) (index : Indexed) (p : ℕ) (s : Cell H)
      → PlacesAreKept cells vacant capacity index → StandsIn cells p s → (place : ℕ) × Contains index.pairs (s.row.key.ticket, place)
  stands_indexed cells vacant capacity index p s is stands = (p, is.complete p s stands)

  -- what the rows tell of a place that was read
  pub cell_read : (cells now : List (Option (Cell H))) (p : ℕ) (x y : Option (Cell H)) → cells ≡ now → p < length now → x ≡ get_or cells p x → x ≡ y
      → slice_get (rows_in now) p ≡ Some (option_map (λ cell. cell.row) y)
  cell_read cells now p x y same within read is =
      let there : slice_get now p ≡ Some y = slice_get_read now (length now) p x refl within (read ∙ ap (λ (l : List (Option (Cell H))). get_or l p x) same)
      ∙ ap Some is in
      slice_get-map (option_map (λ cell. cell.row)) now p ∙ ap (option_map (option_map (λ cell. cell.row))) there
