-- Worked rows for the definitions: what must hold, and what must not.
use Rattle.std.proofs.Common.{◌≡◌, ℕ, ◌<◌, zero, suc, List, [], ◌∷◌, slice_index, refl, ap, sym, subst, true, arith}
use mathlib.Core.Option.{some, some-injective, some-ne-none}
use lib.ListN.{get_elem?}
use Rattle.base_verdict.specs.declared.cause.Cause.TheVariants.{Aborted, NoServer}
use Rattle.base_verdict.specs.declared.Verdict.TheVariants.{Serve, Told}
use Rattle.base_verdict.specs.declared.Ending.TheVariants.{Done, Failed}
use Rattle.grant_board.specs.declared.laws.Word.TheVariants.{Empty, Offered, Taken, Posted}
use Rattle.grant_board.specs.declared.view.View.{View}
use Rattle.grant_board.specs.BoardWords.{encode_of, IsWord, nonzero}
use Rattle.base_lists.specs.Weights.{total}
use Rattle.grant_board.specs.Views.{Grant, grant, Terms, terms, KeeperView, RelayView, count_at, count_of, grants_without}
use Rattle.grant_board.specs.Rule.{BoardState, Agrees, Orderly}
use Rattle.grant_board.specs.Ruled.{view, at_rest}
use Rattle.grant_board.specs.KeeperCalls.{new_keeper, offer_after, HasRoom, collect_after, MayLimit, limit_after}
use Rattle.grant_board.specs.RelayCalls.{new_relay, take_after, post_after}
use Rattle.grant_board.proofs.Grants.{serves_at-one}
use Rattle.grant_board.proofs.Finding.{passes_room, bound_at}
use Rattle.grant_board.proofs.Ending.{nonzero-words, places_words}

-- ticket 7 at server 0, and the last ticket of all, told that there is no server
pub offered_7 : encode_of (Offered 7 (Serve 0)) ≡ 7169
offered_7 = refl

pub taken_7 : encode_of (Taken 7 (Serve 0)) ≡ 7170
taken_7 = refl

pub posted_7 : encode_of (Posted 7 (Serve 0) Done) ≡ 7171
posted_7 = refl

pub failed_7 : encode_of (Posted 7 (Serve 0) Failed) ≡ 7683
failed_7 = refl

pub last_word : encode_of (Posted 1099511627775 (Told NoServer) Done) ≡ 1125899906841871
last_word = refl

-- a request that was only told of its end can't fail
pub told_fails_not : ¬ IsWord (Posted 7 (Told Aborted) Failed)
told_fails_not word = word.2

-- three grants, two of them at server 0
abbrev three : List Grant
three = grant 0 7 (Serve 0) ∷ grant 1 8 (Serve 1) ∷ grant 2 9 (Serve 0) ∷ []

pub two_of_server_0 : count_of 0 three ≡ 2
two_of_server_0 = refl

pub none_at_place_3 : count_at 3 three ≡ 0
none_at_place_3 = refl

pub without_place_1 : grants_without 1 three ≡ grant 0 7 (Serve 0) ∷ grant 2 9 (Serve 0) ∷ []
without_place_1 = refl

-- a board of one place and one server of limit 1
abbrev one_place : Terms
one_place = terms 1 (1 ∷ [])

abbrev offered : KeeperView
offered = offer_after (new_keeper one_place) (grant 0 7 (Serve 0))

-- with these words, and one seat
abbrev with_words : KeeperView → RelayView → List ℕ → BoardState
with_words k r words = record { words = words; homes = []; views = view (at_rest k ∷ []) (r ∷ []) ∷ [] }

only_view : (t : Terms) (bounds : List ℕ) (v : View) → Agrees t bounds v → (j : ℕ) (u : View) → get_elem? (v ∷ []) j ≡ some u → Agrees t bounds u
only_view t bounds v agrees zero u e = subst (Agrees t bounds) (some-injective v u e) agrees
only_view t bounds v agrees (suc j) u e = absurd (some-ne-none u (sym e))

-- the one mark
one_mark : (m n : ℕ) → 0 < slice_index (m ∷ []) n → slice_index (m ∷ []) n ≡ m
one_mark m zero marked = refl
one_mark m (suc n) marked = absurd (omega (arith, marked))

-- where ticket 7 is offered, its keeper knows that it is out
pub knows_what_is_out : Orderly one_place (with_words offered (new_relay one_place true) (7169 ∷ 2 ∷ []))
knows_what_is_out = record {
  cells = Offered 7 (Serve 0) ∷ [];
  bounds = 2 ∷ [];
  words = refl;
  long = refl;
  servers = refl;
  valid = ((omega arith, omega arith), tt);
  among = (omega arith, tt);
  one_keeper = refl;
  one_first = refl;
  others = refl;
  out = λ h. omega arith;
  passes = λ h. refl;
  offers = λ h. omega arith;
  posts = λ h. refl;
  bounded = λ n some_bound. omega (arith, serves_at-one n (Serve 0), one_mark 2 n some_bound);
  sight = λ h. omega arith;
  agree = only_view one_place (2 ∷ []) (view (at_rest offered ∷ []) (new_relay one_place true ∷ [])) (((refl, refl), tt), (refl, tt));
}

-- no word is offered that the keeper doesn't know of
pub unknown_offer : (r : RelayView) → ¬ Orderly one_place (with_words (new_keeper one_place) r (7169 ∷ 2 ∷ []))
unknown_offer r o =
    let s = with_words (new_keeper one_place) r (7169 ∷ 2 ∷ []) in
    omega (arith, o.out (λ _. 1), ap (total nonzero) (places_words one_place s o), nonzero-words o.cells 0)

-- a place that is out has no empty word
pub forgotten_offer : (r : RelayView) → ¬ Orderly one_place (with_words offered r (0 ∷ 2 ∷ []))
forgotten_offer r o = omega (arith, o.out (λ _. 1), ap (total nonzero) (places_words one_place (with_words offered r (0 ∷ 2 ∷ [])) o), nonzero-words o.cells 0)

-- no two passes are taken at one place
pub two_passes : (k : KeeperView) (r : RelayView) (words : List ℕ) → r.passes ≡ grant 0 7 (Serve 0) ∷ grant 0 7 (Serve 0) ∷ []
    → ¬ Orderly one_place (with_words k r words)
two_passes k r words two o = omega (arith, passes_room one_place (with_words k r words) o, ap (total (λ (g : Grant). 1)) two)

-- a board of two places and one server of limit 2, whose tickets 7 and 8 are out
abbrev two_places : Terms
two_places = terms 2 (2 ∷ [])

abbrev two_out : KeeperView
two_out = offer_after (offer_after (new_keeper two_places) (grant 0 7 (Serve 0))) (grant 1 8 (Serve 0))

-- the bound may rise, and end; it can't be set to 1
pub bound_rises : MayLimit two_out 0 4
bound_rises = (omega arith, λ some_bound. omega arith)

pub bound_ends : MayLimit two_out 0 0
bound_ends = (omega arith, λ some_bound. omega arith)

pub bound_below_what_is_out : ¬ MayLimit two_out 0 2
bound_below_what_is_out may = omega (arith, may.1 (omega arith))

-- no server but the board's has one
pub bound_of_no_server : ¬ MayLimit two_out 1 4
bound_of_no_server may = omega (arith, may.0)

-- with a bound of 2 a third verdict has no room, with 3 it has, and without a bound
pub no_room_at_2 : ¬ HasRoom two_out (Serve 0)
no_room_at_2 room = omega (arith, room.1 (omega arith))

pub room_at_3 : HasRoom (limit_after two_out 0 4) (Serve 0)
room_at_3 = (omega arith, λ some_bound. omega arith)

pub room_without_bound : HasRoom (limit_after two_out 0 0) (Serve 0)
room_without_bound = (omega arith, λ some_bound. omega arith)

-- the word behind the places is the bound: no rule has a lower one than what is out, even where the keeper knows it
pub word_below_what_is_out : (r : RelayView) → ¬ Orderly two_places (with_words (limit_after two_out 0 2) r (7169 ∷ 8193 ∷ 2 ∷ []))
word_below_what_is_out r o =
    let s = with_words (limit_after two_out 0 2) r (7169 ∷ 8193 ∷ 2 ∷ []) in
    omega (arith, o.bounded 0 (omega (arith, bound_at two_places s o 0)), bound_at two_places s o 0)

-- and none another one than the keeper knows
pub unknown_bound : (r : RelayView) → ¬ Orderly two_places (with_words two_out r (7169 ∷ 8193 ∷ 4 ∷ []))
unknown_bound r o =
    let s = with_words two_out r (7169 ∷ 8193 ∷ 4 ∷ []) in
    omega (arith, bound_at two_places s o 0, ap (λ (bs : List ℕ). slice_index bs 0) (o.agree 0 (view (at_rest two_out ∷ []) (r ∷ [])) refl).0.0.1)

-- ticket 7 came back, ticket 8 is taken, and then the bound is 1
abbrev one_back : KeeperView
one_back = limit_after (collect_after two_out (grant 0 7 (Serve 0)) Done) 0 2

abbrev one_taken : RelayView
one_taken = post_after (take_after (take_after (new_relay two_places true) (grant 0 7 (Serve 0))) (grant 1 8 (Serve 0))) (grant 0 7 (Serve 0)) Done

pub lowered_bound : Orderly two_places (with_words one_back one_taken (0 ∷ 8194 ∷ 2 ∷ []))
lowered_bound = record {
  cells = Empty ∷ Taken 8 (Serve 0) ∷ [];
  bounds = 2 ∷ [];
  words = refl;
  long = refl;
  servers = refl;
  valid = (tt, ((omega arith, omega arith), tt));
  among = (tt, (omega arith, tt));
  one_keeper = refl;
  one_first = refl;
  others = refl;
  out = λ h. omega arith;
  passes = λ h. omega arith;
  offers = λ h. omega arith;
  posts = λ h. omega arith;
  bounded = λ n some_bound. omega (arith, serves_at-one n (Serve 0), one_mark 2 n some_bound);
  sight = λ h. omega arith;
  agree = only_view two_places (2 ∷ []) (view (at_rest one_back ∷ []) (one_taken ∷ [])) (((refl, refl), tt), (refl, tt));
}
