-- The board's rule and the book read together.
use Rattle.std.proofs.Common.{◌≡◌, ℕ, ◌+◌, ◌≤◌, Option, None, Some, IfSome, List, Contains, slice_get, slice_index, refl, ap, ◌∙◌, arith}
use Rattle.std.specs.Option.{option_map_or}
use Rattle.log_entries.specs.declared.allowance.Allowance.{Allowance}
use Rattle.log_entries.specs.Dispatch.{bound_by}
use Rattle.log_entries.specs.Histories.{History, state_of}
use Rattle.base_lists.specs.Weights.{total, AreIn}
use Rattle.base_lists.proofs.Each.{index-map}
use Rattle.base_lists.proofs.Ones.{AreIn-Contains}
use Rattle.base_lists.proofs.Positions.{item_stands}
use Rattle.base_lists.proofs.Totals.{term_le, has_le}
use Rattle.grant_board.specs.Places.{HasKeeper, HasRelay, ByPlaces}
use Rattle.grant_board.specs.Rule.{BoardState, of_keepers, Orderly}
use Rattle.grant_board.specs.Views.{Grant, Terms, KeeperPart, RelayView, mark_of, at_place, serves_at, count_at}
use Rattle.grant_board.proofs.Finding.{keeper_alone, relays_le, passes_out}
use Rattle.grant_board.proofs.Grants.{same_grant, grants_tell, at_place-yes}
use Rattle.grant_board.proofs.Reading.{rule_by_places}
use Rattle.locked_book.specs.Books.{IsBook, mark_by}
use Rattle.locked_book.specs.Outstanding.{outstanding}
use Rattle.exchange_laws.specs.Passes.{passes_of, IsTruePass, PassesAreTrue, PassesKeepBounds}

module _ (t : Terms) (s : BoardState) (k : KeeperPart) (h : History) (o : Orderly t s) (at : HasKeeper s k) (book : IsBook h k.view) where
  -- what weighs so much with all keepers weighs so much with this one
  out_weighs : (weight : Grant → ℕ) → of_keepers (λ x. total weight x.view.out) s.views ≡ total weight k.view.out
  out_weighs weight = keeper_alone t s o at.0 k at.1 at.2 (λ x. total weight x.view.out)

  outstanding_passes : (j i : ℕ) (r : RelayView) → HasRelay s j i r → AreIn r.passes (outstanding (state_of h).rows)
  outstanding_passes j i r has weight =
      let f : RelayView → ℕ = λ x. total weight x.passes in
      omega (arith, term_le f has.0.relays i r has.2, relays_le t s o j has.0 has.1 f, passes_out t s o weight, out_weighs weight, book.out weight)

  true_pass : (j i : ℕ) (r : RelayView) (pass : Grant) → HasRelay s j i r → Contains r.passes pass → IsTruePass h s j i r pass
  true_pass j i r pass has mine =
      let by : ByPlaces t s k.view = rule_by_places t s k o at in
      let here : count_at pass.place r.passes ≡ 1 =
      omega (arith, by.once j i r pass.place has, has_le (at_place pass.place) r.passes pass mine, at_place-yes pass.place pass refl) in
      record {
        given = AreIn-Contains same_grant grants_tell r.passes (outstanding (state_of h).rows) pass (outstanding_passes j i r has) mine;
        once = here;
        alone = λ m n other there apart. omega (arith, by.apart j i r m n other pass.place has there apart, here);
      }

  few_passes : (server bound : ℕ) → slice_index k.view.bounds server ≡ bound + 1 → passes_of server s ≤ bound
  few_passes server bound marked =
      let by : ByPlaces t s k.view = rule_by_places t s k o at in
      let weight : Grant → ℕ = λ g. serves_at server g.verdict in
      omega (arith, passes_out t s o weight, out_weighs weight, by.bounded server (omega (arith, marked)), marked)

  by_bound : (server : ℕ) (mark : ℕ) (bound : Option ℕ) → slice_index k.view.bounds server ≡ mark → mark ≡ mark_of bound
      → IfSome bound (λ most. passes_of server s ≤ most)
  by_bound server mark None marked is = tt
  by_bound server mark (Some bound) marked is = few_passes server bound (marked ∙ is)

  by_allowance : (server : ℕ) (found : Option Allowance) → slice_get (state_of h).limits server ≡ found
      → IfSome (option_map_or bound_by found None) (λ bound. passes_of server s ≤ bound)
  by_allowance server None is = tt
  by_allowance server (Some it) is =
      let marked : slice_index k.view.bounds server ≡ mark_by it =
      ap (λ (marks : List ℕ). slice_index marks server) book.bounds ∙ index-map mark_by (state_of h).limits server it (item_stands (state_of h).limits server it is) in
      by_bound server (mark_by it) (bound_by it) marked refl

pub passes_are_true : PassesAreTrue
passes_are_true t s k h o at book = true_pass t s k h o at book

pub passes_keep_bounds : PassesKeepBounds
passes_keep_bounds t s k h o at book server = by_allowance t s k h o at book server (slice_get (state_of h).limits server) refl
