-- The results of a crew's threads, member after member, the seats that are joined after them, and its checks.
use Rattle.std.proofs.Common.{◌≡◌, ◌<◌, ℕ, suc, ◌+◌, All, List, [], ◌∷◌, ◌++◌, map, length, Option, Some, Result, Ok, Err, IfOk, ap, append-nil, arith, inl, refl, replicate, sym, subst, ◌∙◌}
use Rattle.std.proofs.lemmas.List.{length-map}
use Rattle.std.proofs.lemmas.List.Elements.{All-map}
use Rattle.std.specs.List.{AllZip, flat_map}
use Rattle.std.specs.Result.{result_ok}
use Rattle.grant_board.specs.RelayCalls.{Relay}
use Rattle.grant_board.specs.Views.{RelayView, Terms}
use Rattle.log_entries.specs.declared.setup.Setup.{Setup}
use Rattle.proxy_config.specs.declared.parts.Server.{Server}
use Rattle.relay_workers.specs.Checks.HasChecked.{began}
use Rattle.relay_workers.specs.Crews.{CrewHasChecked, EndsAs, IsMemberSeat, IsOfAll, JoinsSeats}
use Rattle.relay_workers.specs.Gates.{Notice}
use Rattle.relay_workers.specs.declared.finished.Finished.{Finished}
use Rattle.relay_workers.specs.Tallies.{no_clients, of_both}
use Rattle.relay_workers.specs.declared.stopping.Stopped.{Stopped}
use Rattle.relay_workers.specs.declared.tally.Tally.{Tally}

module _ {C S G P : Type 0} (Worked : Result Tally Stopped → Option (List (Notice C S)) → Option (List (Notice C S)) → Type 0)
    (notes : G → Option (List (Notice C S))) where
  pub nobody : (members : List (G × P)) (tally : Tally) → members ≡ [] → tally ≡ no_clients → IsOfAll Worked notes members (Ok tally)
  nobody members tally none zero =
      ([], subst (λ (them : List (G × P)). AllZip (λ member. EndsAs Worked notes member.0) them []) (sym none) tt, ap Ok zero)

  pub one_more : (gate : G) (pause : P) (members rest : List (G × P)) (one : Result Tally Stopped × Finished G) (others all : Result Tally Stopped)
      → members ≡ (gate, pause) ∷ rest → EndsAs Worked notes gate one → IsOfAll Worked notes rest others → all ≡ of_both one.0 others
      → IsOfAll Worked notes members all
  one_more gate pause members rest one others all are end is both = (
    one ∷ is.0,
    subst (λ (them : List (G × P)). AllZip (λ member. EndsAs Worked notes member.0) them (one ∷ is.0)) (sym are) (end, is.1),
    both ∙ ap (of_both one.0) is.2,
  )

flat_map_of : {M R A : Type 0} (h : R → List A) (f : M → R) (them : List M) → flat_map (λ m. h (f m)) them ≡ flat_map h (map f them)
flat_map_of h f [] = refl
flat_map_of h f (m ∷ them) = ap (λ rest. h (f m) ++ rest) (flat_map_of h f them)

-- what may have been done with each of these seats is in its type M
pub joined_seats : {C S M : Type 0} (terms : Terms) (Left : RelayView → Result Tally Stopped → Option (List (Notice C S)) → Option (List (Notice C S)) → Type 0)
    (seat_of : M → Relay) → ((m : M) → ∥ IsMemberSeat terms Left (seat_of m) ∥₁) → (them : List M) (old new : RelayView)
    → new.joined ≡ old.joined + length them → new.takes ≡ old.takes ++ flat_map (λ m. (seat_of m).view.takes) them
    → new.posts ≡ old.posts ++ flat_map (λ m. (seat_of m).view.posts) them → JoinsSeats terms Left old new
joined_seats terms Left seat_of each them old new joined takes posts = record {
  seats = map seat_of them;
  each = All-map (λ seat. ∥ IsMemberSeat terms Left seat ∥₁) seat_of them (λ k m inside. each _);
  joined = joined ∙ ap (λ n. old.joined + n) (sym (length-map them seat_of));
  takes = takes ∙ ap (λ more. old.takes ++ more) (flat_map_of (λ (seat : Relay). seat.view.takes) seat_of them);
  posts = posts ∙ ap (λ more. old.posts ++ more) (flat_map_of (λ (seat : Relay). seat.view.posts) seat_of them);
}

-- what is known of an `Ok` is known of what `ok` gives
pub of_ok : {A E : Type 0} (Known : A → Type 0) (result : Result A E) (it : A) → Some it ≡ result_ok result → IfOk result Known → Known it
of_ok Known (Ok other) it is known = let same : it ≡ other = cc in subst Known (sym same) known
of_ok Known (Err error) it is known = cc

-- where no seat was split off, none is joined
pub joins_none : {C S : Type 0} (terms : Terms) (Left : RelayView → Result Tally Stopped → Option (List (Notice C S)) → Option (List (Notice C S)) → Type 0)
    (old new : RelayView) → new ≡ old → JoinsSeats terms Left old new
joins_none terms Left old new same = subst (λ (it : RelayView). JoinsSeats terms Left old it) (sym same) (record {
  seats = [];
  each = λ k seat inside. absurd (omega arith);
  joined = omega arith;
  takes = sym (append-nil old.takes);
  posts = sym (append-nil old.posts);
})

-- what holds of each holds of each behind the first
pub behind_first : {A : Type 0} (P : A → Type 0) (items rest : List A) (first : A) → items ≡ first ∷ rest → All P items → All P rest
behind_first {A = A} P items rest first is all = λ k default inside. subst (λ (them : List A). All P them) is all (suc k) default (omega arith)

-- checks that were told to stop before their first round
pub not_begun : {C S : Type 0} (terms : Terms) (setup : Setup) (servers : List Server) (first : Option (List (Notice C S))) (most : ℕ)
    (last : Option (List (Notice C S))) → last ≡ first → CrewHasChecked terms setup servers first most last
not_begun terms setup servers first most last same = (most, (first, replicate 64 0, most, began, inl (tt, same, refl)))
