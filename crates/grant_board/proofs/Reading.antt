-- The rule of the board, read place by place.
use Rattle.std.proofs.Common.{◌≡◌, ℕ, ◌+◌, ◌<◌, ◌≤◌, ◌⊎◌, inl, inr, ⊎_elim, List, [], ◌∷◌, length, slice_index, Contains, sym, ap, ◌∙◌, subst, arith}
use native.Mathlib.Decide.{ℕ_discrete}
use mathlib.Core.Option.{some, some-injective}
use lib.ListN.{get_elem?}
use Rattle.base_verdict.specs.declared.Ending.{Ending}
use Rattle.grant_board.specs.declared.laws.Word.{Word}
use Rattle.grant_board.specs.declared.laws.Word.TheVariants.{Empty, Offered, Taken, Posted}
use Rattle.grant_board.specs.declared.view.View.{View}
use Rattle.grant_board.specs.BoardWords.{encode_of, IsWord, IsAmong, IsWordAmong}
use Rattle.base_lists.specs.Weights.{total}
use Rattle.grant_board.specs.Views.{Grant, grant, Terms, KeeperPart, RelayView, at_place, count_at, count_of}
use Rattle.grant_board.specs.Rule.{BoardState, standing_weight, taken, of_relays, Orderly}
use Rattle.grant_board.specs.Ruled.{view}
use Rattle.grant_board.specs.Places.{HasKeeper, HasRelay, HasItsWord, ByPlaces, RuleByPlaces}
use Rattle.base_lists.proofs.Totals.{term_le, terms_le, has_le, found_at}
use Rattle.base_lists.proofs.Positions.{along_le, along_found}
use Rattle.base_lists.proofs.Each.{item_at, item_in, all_at}
use Rattle.grant_board.proofs.Grants as grants
use Rattle.grant_board.proofs.Codes.{same_word}
use Rattle.grant_board.proofs.Finding.{one, one-is, one-same, has_one, empty_there, keeper_alone}
use Rattle.grant_board.proofs.Finding.{relays_le, number_at, bound_at, taken_there, out_at, passes_once}

-- a word with a grant
abbrev Has : Grant → Word → Type 0
Has g c = (c ≡ Offered g.ticket g.verdict) ⊎ ((c ≡ Taken g.ticket g.verdict) ⊎ ((e : Ending) × (c ≡ Posted g.ticket g.verdict e)))

standing-case : (g : Grant) (p : ℕ) (c : Word) → 0 < standing_weight (one g) p c → (p ≡ g.place) × Has g c
standing-case g p Empty h = absurd (omega arith)
standing-case g p (Offered t d) h = let e = one-is g (grant p t d) h in (ap (λ (x : Grant). x.place) e, inl (λ i. Offered (e i).ticket (e i).verdict))
standing-case g p (Taken t d) h = let e = one-is g (grant p t d) h in (ap (λ (x : Grant). x.place) e, inr (inl (λ i. Taken (e i).ticket (e i).verdict)))
standing-case g p (Posted t d x) h = let e = one-is g (grant p t d) h in
    (ap (λ (y : Grant). y.place) e, inr (inr (x, λ i. Posted (e i).ticket (e i).verdict x)))

said : (words : List ℕ) (g : Grant) (c : Word) → slice_index words g.place ≡ encode_of c → Has g c → HasItsWord words g
said words g c is has = ⊎_elim
    (λ (e : c ≡ Offered g.ticket g.verdict). inl (is ∙ ap encode_of e))
    (λ rest. ⊎_elim
    (λ (e : c ≡ Taken g.ticket g.verdict). inr (inl (is ∙ ap encode_of e)))
    (λ (x : (e : Ending) × (c ≡ Posted g.ticket g.verdict e)). inr (inr (x.0, is ∙ ap encode_of x.1))) rest) has

-- where a word with a grant has an encoding and its server is one of this many, the same holds of the grant
has_word : (g : Grant) (c : Word) → Has g c → IsWord c → IsWord (Offered g.ticket g.verdict)
has_word g c has word = ⊎_elim
    (λ (e : c ≡ Offered g.ticket g.verdict). subst IsWord e word)
    (λ rest. ⊎_elim
    (λ (e : c ≡ Taken g.ticket g.verdict). subst IsWord e word)
    (λ (x : (e : Ending) × (c ≡ Posted g.ticket g.verdict e)). let w = subst IsWord x.1 word in (w.0, w.1)) rest) has

has_among : (servers : ℕ) (g : Grant) (c : Word) → Has g c → IsWordAmong servers c → IsAmong servers g.verdict
has_among servers g c has among = ⊎_elim
    (λ (e : c ≡ Offered g.ticket g.verdict). subst (IsWordAmong servers) e among)
    (λ rest. ⊎_elim
    (λ (e : c ≡ Taken g.ticket g.verdict). subst (IsWordAmong servers) e among)
    (λ (x : (e : Ending) × (c ≡ Posted g.ticket g.verdict e)). subst (IsWordAmong servers) x.1 among) rest) has

module _ (t : Terms) (s : BoardState) (o : Orderly t s) where
  -- what is out has a word, at its place
  out_there : (k : KeeperPart) → HasKeeper s k → (g : Grant) → Contains k.view.out g → (c : Word) × (get_elem? o.cells g.place ≡ some c) × Has g c
  out_there k at g has =
      let all = keeper_alone t s o at.0 k at.1 at.2 in
      let f = along_found (standing_weight (one g)) o.cells 0
      (omega (arith, has_le (one g) k.view.out g has, one-same g, all (λ x. total (one g) x.view.out), o.out (one g))) in
      let is = standing-case g f.1 f.2 f.5 in
      let place : f.0 ≡ g.place = omega (arith, f.3, is.0) in
      (f.2, ap (λ (i : ℕ). get_elem? o.cells i) (sym place) ∙ f.4, is.1)

  -- a relay's part weighs at most what all do
  part_le : (j i : ℕ) (r : RelayView) → HasRelay s j i r → (f : RelayView → ℕ) → f r ≤ of_relays f s.views
  part_le j i r at f = omega (arith, term_le f at.0.relays i r at.2, relays_le t s o j at.0 at.1 f)

  parts_by : (j i : ℕ) (r : RelayView) (m n : ℕ) (q : RelayView) (a : HasRelay s j i r) (b : HasRelay s m n q) → ¬ ((m ≡ j) × (n ≡ i)) → (f : RelayView → ℕ)
      → Dec (m ≡ j) → f r + f q ≤ of_relays f s.views
  parts_by j i r m n q a b other f (yes same) =
      let v : b.0 ≡ a.0 = some-injective b.0 a.0 (sym b.1 ∙ (ap (λ (x : ℕ). get_elem? s.views x) same ∙ a.1)) in
      let there : get_elem? a.0.relays n ≡ some q = subst (λ (u : View). get_elem? u.relays n ≡ some q) v b.2 in
      omega (arith, terms_le f a.0.relays i n r q (λ e. other (same, e)) a.2 there, relays_le t s o j a.0 a.1 f)
  parts_by j i r m n q a b other f (no apart) =
      omega (arith, term_le f a.0.relays i r a.2, term_le f b.0.relays n q b.2, terms_le (λ (u : View). total f u.relays) s.views j m a.0 b.0 apart a.1 b.1)

  reads : (k : KeeperPart) → HasKeeper s k → ByPlaces t s k.view
  reads k at =
      let all = keeper_alone t s o at.0 k at.1 at.2 in
      let agree = (o.agree at.0 (view (k ∷ []) at.1) at.2).0.0 in
      record {
        empty = λ place near.
            let there = item_at o.cells place (omega (arith, o.long)) in
            let c : Word = there.0 in
            let valid : IsWord c = all_at IsWord o.cells place c o.valid there.1 in
            let n = number_at t s o place c there.1 in
            let counted : count_at place k.view.out ≡ standing_weight (at_place place) place c = sym (all (λ x. total (at_place place) x.view.out))
            ∙ out_at t s o place c there.1 (at_place place) (λ g ne. grants.at_place-no place g ne) in (
              (λ none. counted ∙ ap (standing_weight (at_place place) place) (same_word c Empty valid tt (sym n ∙ none))),
              λ none. n ∙ ap encode_of (empty_there place c (sym counted ∙ none)),
            );
        out = λ g has. let w = out_there k at g has in said s.words g w.0 (number_at t s o g.place w.0 w.1) w.2;
        on_board = λ g has.
            let w = out_there k at g has in
            let near : g.place < t.places = omega (arith, item_in o.cells g.place w.0 w.1, o.long) in (
              near,
              has_word g w.0 w.2 (all_at IsWord o.cells g.place w.0 o.valid w.1),
              has_among (length t.limits) g w.0 w.2 (all_at (IsWordAmong (length t.limits)) o.cells g.place w.0 o.among w.1),
            );
        taken = λ g near word is.
            let there = item_at o.cells g.place (omega (arith, o.long)) in
            let valid : IsWord there.0 = all_at IsWord o.cells g.place there.0 o.valid there.1 in
            let c = same_word there.0 (Taken g.ticket g.verdict) valid word (sym (number_at t s o g.place there.0 there.1) ∙ is) in
            let weighs = along_le (taken (one g)) o.cells 0 g.place g.place (Taken g.ticket g.verdict) (omega arith) (there.1 ∙ ap (λ (x : Word). some x) c) in
            let v = found_at (λ (u : View). total (λ (r : RelayView). total (one g) r.passes) u.relays) s.views
            (omega (arith, weighs, one-same g, o.passes (one g))) in
            let r = found_at (λ (x : RelayView). total (one g) x.passes) v.1.relays v.3 in
            (v.0, r.0, r.1, (v.1, v.2, r.2), has_one r.1.passes g r.3);
        pass = λ j i r g a has.
            let there = taken_there t s o g (omega (arith, part_le j i r a (λ x. total (one g) x.passes), has_le (one g) r.passes g has, one-same g)) in
            number_at t s o g.place (Taken g.ticket g.verdict) there;
        once = λ j i r place a. omega (arith, part_le j i r a (λ x. count_at place x.passes), passes_once t s o place);
        apart = λ j i r m n q place a b other. omega (
          arith,
          parts_by j i r m n q a b other (λ x. count_at place x.passes) (ℕ_discrete m j),
          passes_once t s o place,
        );
        bounds = λ server near. bound_at t s o server ∙ sym (ap (λ (bs : List ℕ). slice_index bs server) agree.1);
        servers = ap (λ (bs : List ℕ). length bs) agree.1 ∙ o.servers;
        bounded = λ server some_bound.
            let same : slice_index k.view.bounds server ≡ slice_index o.bounds server = ap (λ (bs : List ℕ). slice_index bs server) agree.1 in
            omega (arith, all (λ x. count_of server x.view.out), o.bounded server (omega arith));
      }

pub rule_by_places : RuleByPlaces
rule_by_places t s k o at = reads t s o k at
