-- What the rule says of one grant, one place, one server and one part.
use Rattle.std.proofs.Common.{◌≡◌, ℕ, ◌+◌, ◌<◌, ◌≤◌, ◌≢◌, Bool, true, false, cond, List, []}
use Rattle.std.proofs.Common.{◌∷◌, ◌++◌, map, length, get_or, slice_index, Contains, sym, refl, ap, ◌∙◌, arith}
use Rattle.std.proofs.lemmas.List.{get_or_append_left, get_or-append-add, length-map}
use mathlib.Core.Option.{some}
use lib.ListN.{get_elem?}
use Rattle.base_verdict.specs.declared.Ending.{Ending}
use Rattle.base_verdict.specs.declared.Ending.TheVariants.{Done, Failed}
use Rattle.grant_board.specs.declared.laws.Word.{Word}
use Rattle.grant_board.specs.declared.laws.Word.TheVariants.{Empty, Offered, Taken, Posted}
use Rattle.grant_board.specs.declared.view.View.{View}
use Rattle.grant_board.specs.BoardWords.{encode_of}
use Rattle.base_lists.specs.Weights.{total}
use Rattle.grant_board.specs.Views.{Grant, grant, Terms, KeeperPart, RelayView, Sighting, at_place, serves_at, count_of}
use Rattle.grant_board.specs.Rule.{BoardState, standing_weight, taken, posted_weight, of_keepers, of_relays, Orderly}
use Rattle.grant_board.specs.Ruled.{view}
use Rattle.base_lists.proofs.Totals.{term_le, terms_le, total-one, weightless, alone}
use Rattle.base_lists.proofs.Positions.{along_mono, along_found, along_at, along_once, along_length}
use Rattle.base_lists.proofs.Each.{index-map, item_in}
use Rattle.base_lists.proofs.Ones as members
use Rattle.grant_board.proofs.Grants as grants

-- 1 at this grant alone
abbrev pub one : Grant → Grant → ℕ
one = members.one grants.same_grant

pub one-is : (g x : Grant) → 0 < one g x → x ≡ g
one-is g x h = members.one-is grants.same_grant grants.grants_tell g x h

pub one-same : (g : Grant) → one g g ≡ 1
one-same g = members.one-same grants.same_grant grants.grants_tell g

pub has_one : (xs : List Grant) (g : Grant) → 0 < total (one g) xs → Contains xs g
has_one xs g h = members.has_one grants.same_grant grants.grants_tell xs g h

pub same_ending : Ending → Ending → Bool
same_ending Done Done = true
same_ending Failed Failed = true
same_ending _ _ = false

same_ending-is : (a b : Ending) → same_ending a b ≡ true → a ≡ b
unfolding same_ending
same_ending-is Done Done e = refl
same_ending-is Failed Failed e = refl
same_ending-is _ _ e = absurd (cc)

same_ending-same : (a : Ending) → same_ending a a ≡ true
unfolding same_ending
same_ending-same Done = refl
same_ending-same Failed = refl

pub same_sighting : Sighting → Sighting → Bool
same_sighting x y = cond (same_ending x.ending y.ending) (grants.same_grant x.pass y.pass) false

sightings_tell : members.TellsEqual same_sighting
unfolding same_sighting
sightings_tell = record {
  is = λ x y e.
      let p = members.both_true (same_ending x.ending y.ending) (grants.same_grant x.pass y.pass) e in
      let ending = same_ending-is x.ending y.ending p.0 in
      let pass = grants.grants_tell.is x.pass y.pass p.1 in
      λ i. record { pass = pass i; ending = ending i };
  itself = λ x. ap (λ (b : Bool). cond b (grants.same_grant x.pass x.pass) false) (same_ending-same x.ending) ∙ grants.grants_tell.itself x.pass;
}

-- 1 at this sighting alone
abbrev pub one_sight : Sighting → Sighting → ℕ
one_sight = members.one same_sighting

one_sight-is : (s x : Sighting) → 0 < one_sight s x → x ≡ s
one_sight-is s x h = members.one-is same_sighting sightings_tell s x h

pub one_sight-same : (s : Sighting) → one_sight s s ≡ 1
one_sight-same s = members.one-same same_sighting sightings_tell s

-- a word with a weight
taken-case : (g : Grant) (k : ℕ) (c : Word) → 0 < taken (one g) k c → (k ≡ g.place) × (c ≡ Taken g.ticket g.verdict)
taken-case g k Empty h = absurd (omega arith)
taken-case g k (Offered t d) h = absurd (omega arith)
taken-case g k (Posted t d e) h = absurd (omega arith)
taken-case g k (Taken t d) h = let e = one-is g (grant k t d) h in (ap (λ (x : Grant). x.place) e, λ i. Taken (e i).ticket (e i).verdict)

posted-case : (s : Sighting) (k : ℕ) (c : Word) → 0 < posted_weight (one_sight s) k c → (k ≡ s.pass.place) × (c ≡ Posted s.pass.ticket s.pass.verdict s.ending)
posted-case s k Empty h = absurd (omega arith)
posted-case s k (Offered t d) h = absurd (omega arith)
posted-case s k (Taken t d) h = absurd (omega arith)
posted-case s k (Posted t d e) h =
    let same = one_sight-is s (record { pass = grant k t d; ending = e }) h in
    (ap (λ (x : Sighting). x.pass.place) same, λ i. Posted (same i).pass.ticket (same i).pass.verdict (same i).ending)

taken_le : (h : Grant → ℕ) (k : ℕ) (c : Word) → taken h k c ≤ standing_weight h k c
taken_le h k Empty = omega arith
taken_le h k (Offered t d) = omega arith
taken_le h k (Taken t d) = omega arith
taken_le h k (Posted t d e) = omega arith

taken_small : (h : Grant → ℕ) → ((g : Grant) → h g ≤ 1) → (k : ℕ) (c : Word) → taken h k c ≤ 1
taken_small h small k Empty = omega arith
taken_small h small k (Offered t d) = omega arith
taken_small h small k (Taken t d) = small (grant k t d)
taken_small h small k (Posted t d e) = omega arith

taken_else : (h : Grant → ℕ) (p : ℕ) → ((g : Grant) → g.place ≢ p → h g ≡ 0) → (k : ℕ) (c : Word) → k ≢ p → taken h k c ≡ 0
taken_else h p none k Empty n = refl
taken_else h p none k (Offered t d) n = refl
taken_else h p none k (Taken t d) n = none (grant k t d) n
taken_else h p none k (Posted t d e) n = refl

standing_else : (h : Grant → ℕ) (p : ℕ) → ((g : Grant) → g.place ≢ p → h g ≡ 0) → (k : ℕ) (c : Word) → k ≢ p → standing_weight h k c ≡ 0
standing_else h p none k Empty n = refl
standing_else h p none k (Offered t d) n = none (grant k t d) n
standing_else h p none k (Taken t d) n = none (grant k t d) n
standing_else h p none k (Posted t d e) n = none (grant k t d) n

pub empty_there : (p : ℕ) (c : Word) → standing_weight (at_place p) p c ≡ 0 → c ≡ Empty
empty_there p Empty e = refl
empty_there p (Offered t d) e = absurd (omega (arith, grants.at_place-yes p (grant p t d) refl))
empty_there p (Taken t d) e = absurd (omega (arith, grants.at_place-yes p (grant p t d) refl))
empty_there p (Posted t d x) e = absurd (omega (arith, grants.at_place-yes p (grant p t d) refl))

module _ (t : Terms) (s : BoardState) (o : Orderly t s) where
  -- the seat with the keeper has all that the keeper knows
  pub keeper_alone : (j : ℕ) (k : KeeperPart) (relays : List RelayView) → get_elem? s.views j ≡ some (view (k ∷ []) relays) → (f : KeeperPart → ℕ)
      → of_keepers f s.views ≡ f k
  keeper_alone j k relays me f =
      let none : (u : View) → total (λ (x : KeeperPart). 1) u.keepers ≡ 0
      → total f u.keepers ≡ 0 = λ u e. weightless f u.keepers (omega (arith, total-one u.keepers)) in
      let o1 = o.one_keeper in
      omega (
        arith,
        alone (λ (u : View). total (λ (x : KeeperPart). 1) u.keepers) (λ (u : View). total f u.keepers) none s.views j (view (k ∷ []) relays) me
            (omega arith),
      )

  pub relays_le : (j : ℕ) (v : View) → get_elem? s.views j ≡ some v → (f : RelayView → ℕ) → total f v.relays ≤ of_relays f s.views
  relays_le j v me f = term_le (λ (u : View). total f u.relays) s.views j v me

  -- the number in a place's word
  pub number_at : (p : ℕ) (c : Word) → get_elem? o.cells p ≡ some c → get_or s.words p 0 ≡ encode_of c
  number_at p c there =
      ap (λ (ws : List ℕ). get_or ws p 0) o.words
      ∙ (get_or_append_left (map encode_of o.cells) o.bounds 0 p (omega (arith, item_in o.cells p c there, length-map o.cells encode_of))
      ∙ index-map encode_of o.cells p c there)

  -- the number in a server's word
  pub bound_at : (server : ℕ) → get_or s.words (t.places + server) 0 ≡ slice_index o.bounds server
  bound_at server =
      let long : length (map encode_of o.cells) ≡ t.places = length-map o.cells encode_of ∙ o.long in
      ap (λ (ws : List ℕ). get_or ws (t.places + server) 0) o.words
      ∙ (ap (λ (i : ℕ). get_or (map encode_of o.cells ++ o.bounds) i 0) (omega (arith, long)) ∙ get_or-append-add (map encode_of o.cells) o.bounds server 0)

  -- no other view has the keeper
  pub keeper_nowhere : (j : ℕ) (k : KeeperPart) (relays : List RelayView) → get_elem? s.views j ≡ some (view (k ∷ []) relays) → (i : ℕ) (v : View) → i ≢ j
      → get_elem? s.views i ≡ some v → length v.keepers ≡ 0
  keeper_nowhere j k relays me i v other them =
      omega (
        arith,
        terms_le (λ (u : View). total (λ (x : KeeperPart). 1) u.keepers) s.views j i (view (k ∷ []) relays) v other me them,
        o.one_keeper,
        total-one v.keepers,
      )

  -- a pass that a seat has stands taken at its place
  pub taken_there : (g : Grant) → 0 < of_relays (λ r. total (one g) r.passes) s.views → get_elem? o.cells g.place ≡ some (Taken g.ticket g.verdict)
  taken_there g h =
      let f = along_found (taken (one g)) o.cells 0 (omega (arith, o.passes (one g))) in
      let is = taken-case g f.1 f.2 f.5 in
      let at : f.0 ≡ g.place = omega (arith, f.3, is.0) in
      ap (λ (i : ℕ). get_elem? o.cells i) (sym at) ∙ (f.4 ∙ ap (λ (c : Word). some c) is.1)

  -- what the keeper has in sight stands posted at its place
  pub posted_there : (x : Sighting) → 0 < of_keepers (λ k. total (one_sight x) k.sight) s.views
      → get_elem? o.cells x.pass.place ≡ some (Posted x.pass.ticket x.pass.verdict x.ending)
  posted_there x h =
      let f = along_found (posted_weight (one_sight x)) o.cells 0 (omega (arith, o.sight (one_sight x))) in
      let is = posted-case x f.1 f.2 f.5 in
      let at : f.0 ≡ x.pass.place = omega (arith, f.3, is.0) in
      ap (λ (i : ℕ). get_elem? o.cells i) (sym at) ∙ (f.4 ∙ ap (λ (c : Word). some c) is.1)

  -- the grants of one place weigh what its word does
  pub out_at : (p : ℕ) (c : Word) → get_elem? o.cells p ≡ some c → (h : Grant → ℕ) → ((g : Grant) → g.place ≢ p → h g ≡ 0)
      → of_keepers (λ k. total h k.view.out) s.views ≡ standing_weight h p c
  out_at p c there h none = omega (arith, o.out h, along_at (standing_weight h) p (standing_else h p none) o.cells 0 p c (omega arith) there)

  pub passes_at : (p : ℕ) (c : Word) → get_elem? o.cells p ≡ some c → (h : Grant → ℕ) → ((g : Grant) → g.place ≢ p → h g ≡ 0)
      → of_relays (λ r. total h r.passes) s.views ≡ taken h p c
  passes_at p c there h none = omega (arith, o.passes h, along_at (taken h) p (taken_else h p none) o.cells 0 p c (omega arith) there)

  -- passes are out
  pub passes_out : (h : Grant → ℕ) → of_relays (λ r. total h r.passes) s.views ≤ of_keepers (λ k. total h k.view.out) s.views
  passes_out h = omega (arith, o.passes h, o.out h, along_mono (taken h) (standing_weight h) (taken_le h) o.cells 0)

  -- no two of them are of one place
  pub passes_once : (p : ℕ) → of_relays (λ r. total (at_place p) r.passes) s.views ≤ 1
  passes_once p = omega (
    arith,
    o.passes (at_place p),
    along_once (taken (at_place p)) p (taken_else (at_place p) p (λ g n. grants.at_place-no p g n))
        (taken_small (at_place p) (grants.at_place-one p)) o.cells 0,
  )

  -- and no more than places
  pub passes_room : of_relays (λ r. total (λ (g : Grant). 1) r.passes) s.views ≤ t.places
  passes_room = omega (arith, o.passes (λ _. 1), o.long, along_length (taken (λ _. 1)) (taken_small (λ _. 1) (λ g. omega arith)) o.cells 0)

  -- and fewer of a server than its mark
  pub passes_bounded : (n : ℕ) → 0 < slice_index o.bounds n → of_relays (λ r. count_of n r.passes) s.views < slice_index o.bounds n
  passes_bounded n some_bound = omega (arith, passes_out (λ g. serves_at n g.verdict), o.bounded n some_bound)
