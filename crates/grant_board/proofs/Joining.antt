-- Views that are cut in two or made one keep the rule.
use Rattle.std.proofs.Common.{◌≡◌, ℕ, ◌+◌, ◌≢◌, Bool, true, false, List, [], ◌∷◌, ◌++◌, set, sym, refl, ◌∙◌, subst, ⊎_elim, arith}
use Rattle.std.proofs.lemmas.Bool.{cond-true, cond-false}
use Rattle.std.specs.List.{AllByRecursion}
use mathlib.Core.Option.{some}
use lib.ListN.{get_elem?}
use Rattle.atomic_table.specs.Table.{Splits, Joins}
use Rattle.atomic_table.proofs.Lists.{at_set, at_snoc, set_else}
use Rattle.grant_board.specs.declared.returned.Return.{Return}
use Rattle.grant_board.specs.declared.view.View.{View}
use Rattle.base_lists.specs.Weights.{total}
use Rattle.grant_board.specs.Views.{Grant, Terms, KeeperPart, RelayView, count_of}
use Rattle.grant_board.specs.Rule.{BoardState, of_keepers, of_relays, is_first, is_other, split_off, joined_in, KeeperAgrees, RelayAgrees, Agrees, Orderly}
use Rattle.grant_board.specs.Ruled.{view}
use Rattle.grant_board.specs.Plays.{blank, beside, but_last, last_alone, aside, cut_off, parent, child, views_joined}
use Rattle.base_lists.proofs.Places.{tally}
use Rattle.base_lists.proofs.Totals.{total-append, total-set, terms_le}
use Rattle.base_lists.proofs.Members.{all_append}
use Rattle.grant_board.proofs.Moving.{board}

-- other views of the same words keep the rule, where they weigh the same
resettled : (t : Terms) (s : BoardState) (o : Orderly t s) (views : List View)
    → ((f : KeeperPart → ℕ) → of_keepers f views ≡ of_keepers f s.views)
    → of_relays is_first views ≡ 1
    → of_relays is_other views + of_relays joined_in views ≡ of_relays split_off views
    → ((h : Grant → ℕ) → of_relays (λ r. total h r.passes) views ≡ of_relays (λ r. total h r.passes) s.views)
    → ((h : Grant → ℕ) → of_relays (λ r. total h r.takes) views ≡ of_relays (λ r. total h r.takes) s.views)
    → ((h : Return → ℕ) → of_relays (λ r. total h r.posts) views ≡ of_relays (λ r. total h r.posts) s.views)
    → ((j : ℕ) (v : View) → get_elem? views j ≡ some v → Agrees t o.bounds v)
    → Orderly t (board s.words s.homes views)
resettled t s o views keepers one_first others passes takes posts agree = record {
  cells = o.cells;
  bounds = o.bounds;
  words = o.words;
  long = o.long;
  servers = o.servers;
  valid = o.valid;
  among = o.among;
  one_keeper = keepers (λ _. 1) ∙ o.one_keeper;
  one_first = one_first;
  others = others;
  out = λ h. keepers (λ k. total h k.view.out) ∙ o.out h;
  passes = λ h. passes h ∙ o.passes h;
  offers = λ h. omega (arith, takes h, keepers (λ k. total h k.view.offers), o.offers h);
  posts = λ h. omega (arith, posts h, keepers (λ k. total h k.view.returns), o.posts h);
  bounded = λ n some_bound. omega (arith, keepers (λ k. count_of n k.view.out), o.bounded n some_bound);
  sight = λ h. omega (arith, keepers (λ k. total h k.sight), o.sight h);
  agree = agree;
}

module _ (s : BoardState) (id : ℕ) (v left right : View) (me : get_elem? s.views id ≡ some v) where
  -- what views weigh once one of them is cut
  cut-keepers : (f : KeeperPart → ℕ) → of_keepers f (set s.views id left ++ right ∷ []) + total f v.keepers
      ≡ of_keepers f s.views + total f left.keepers + total f right.keepers
  cut-keepers f = let g : View → ℕ = λ u. total f u.keepers in
      omega (arith, total-append g (set s.views id left) (right ∷ []), total-set g s.views id v left me)

  cut-relays : (f : RelayView → ℕ) → of_relays f (set s.views id left ++ right ∷ []) + total f v.relays
      ≡ of_relays f s.views + total f left.relays + total f right.relays
  cut-relays f = let g : View → ℕ = λ u. total f u.relays in omega (arith, total-append g (set s.views id left) (right ∷ []), total-set g s.views id v left me)

  cut-agree : (P : View → Type 0) → ((j : ℕ) (u : View) → get_elem? s.views j ≡ some u → P u) → P left → P right → (j : ℕ) (u : View)
      → get_elem? (set s.views id left ++ right ∷ []) j ≡ some u → P u
  cut-agree P all p q j u e = ⊎_elim
      (λ (h : get_elem? (set s.views id left) j ≡ some u).
      ⊎_elim (λ (x : (j ≡ id) × (left ≡ u)). subst P x.1 p) (λ (x : (j ≢ id) × (get_elem? s.views j ≡ some u)). all j u x.1) (at_set s.views id j left u h))
      (λ (h : right ≡ u). subst P h q) (at_snoc (set s.views id left) right u j e)

module _ (s : BoardState) (id : ℕ) (v : View) (other : ℕ) (w both : View) (me : get_elem? s.views id ≡ some v) (apart : ¬ (other ≡ id))
    (them : get_elem? (set s.views id both) other ≡ some w) where
  -- what views weigh once two of them are one
  join-keepers : (f : KeeperPart → ℕ) → of_keepers f (set (set s.views id both) other blank) + total f w.keepers + total f v.keepers
      ≡ of_keepers f s.views + total f both.keepers
  join-keepers f = let g : View → ℕ = λ u. total f u.keepers in
      omega (arith, total-set g (set s.views id both) other w blank them, total-set g s.views id v both me)

  join-relays : (f : RelayView → ℕ) → of_relays f (set (set s.views id both) other blank) + total f w.relays + total f v.relays
      ≡ of_relays f s.views + total f both.relays
  join-relays f = let g : View → ℕ = λ u. total f u.relays in
      omega (arith, total-set g (set s.views id both) other w blank them, total-set g s.views id v both me)

  join-there : get_elem? s.views other ≡ some w
  join-there = sym (set_else s.views id other both apart) ∙ them

  join-agree : (P : View → Type 0) → ((j : ℕ) (u : View) → get_elem? s.views j ≡ some u → P u) → P both → P blank → (j : ℕ) (u : View)
      → get_elem? (set (set s.views id both) other blank) j ≡ some u → P u
  join-agree P all p q j u e = ⊎_elim (λ (x : (j ≡ other) × (blank ≡ u)). subst P x.1 q)
      (λ (x : (j ≢ other) × (get_elem? (set s.views id both) j ≡ some u)).
      ⊎_elim (λ (y : (j ≡ id) × (both ≡ u)). subst P y.1 p) (λ (y : (j ≢ id) × (get_elem? s.views j ≡ some u)). all j u y.1)
      (at_set s.views id j both u x.1))
      (at_set (set s.views id both) other j blank u e)

total-but_last : (f : RelayView → ℕ) (l : List RelayView) → total f (but_last l) + total f (last_alone l) ≡ total f l
total-but_last f [] = refl
total-but_last f (r ∷ []) = omega arith
total-but_last f (r ∷ q ∷ relays) = omega (arith, total-but_last f (q ∷ relays))

all_but_last : (P : RelayView → Type 0) (l : List RelayView) → AllByRecursion P l → AllByRecursion P (but_last l) × AllByRecursion P (last_alone l)
all_but_last P [] h = (tt, tt)
all_but_last P (r ∷ []) h = (tt, h)
all_but_last P (r ∷ q ∷ relays) h = let t = all_but_last P (q ∷ relays) h.1 in ((h.0, t.0), t.1)

-- a seat's last relay is cut off
pub cut_kept : (t : Terms) (id : ℕ) (v : View) → Splits (Orderly t) id v (aside v) (cut_off v)
cut_kept t id v s o me =
    let l : View = aside v in
    let r : View = cut_off v in
    let ks : (f : KeeperPart → ℕ) → of_keepers f (set s.views id l ++ r ∷ []) ≡ of_keepers f s.views = λ f. omega (arith, cut-keepers s id v l r me f) in
    let rs : (f : RelayView → ℕ) → of_relays f (set s.views id l ++ r ∷ []) ≡ of_relays f s.views = λ f.
    omega (arith, cut-relays s id v l r me f, total-but_last f v.relays) in
    let mine = o.agree id v me in
    let relays = all_but_last (RelayAgrees t) v.relays mine.1 in
    resettled t s o (set s.views id l ++ r ∷ []) ks (rs is_first ∙ o.one_first) (omega (arith, rs is_other, rs joined_in, rs split_off, o.others))
    (λ h. rs (λ x. total h x.passes)) (λ h. rs (λ x. total h x.takes)) (λ h. rs (λ x. total h x.posts))
    (cut-agree s id v l r me (Agrees t o.bounds) o.agree (mine.0, relays.0) (tt, relays.1))

-- two seats' parts are put side by side
pub beside_kept : (t : Terms) (id : ℕ) (v : View) (other : ℕ) (w : View) → Joins (Orderly t) id v other w (beside v w) blank
beside_kept t id v other w s o me apart them =
    let b : View = beside v w in
    let views : List View = set (set s.views id b) other blank in
    let ks : (f : KeeperPart → ℕ) → of_keepers f views ≡ of_keepers f s.views = λ f.
    omega (arith, join-keepers s id v other w b me apart them f, total-append f v.keepers w.keepers) in
    let rs : (f : RelayView → ℕ) → of_relays f views ≡ of_relays f s.views = λ f.
    omega (arith, join-relays s id v other w b me apart them f, total-append f v.relays w.relays) in
    let mine = o.agree id v me in
    let theirs = o.agree other w (join-there s id v other w b me apart them) in
    resettled t s o views ks (rs is_first ∙ o.one_first) (omega (arith, rs is_other, rs joined_in, rs split_off, o.others))
    (λ h. rs (λ x. total h x.passes)) (λ h. rs (λ x. total h x.takes)) (λ h. rs (λ x. total h x.posts))
    (join-agree s id v other w b me apart them (Agrees t o.bounds) o.agree
    (all_append (KeeperAgrees t o.bounds) v.keepers w.keepers mine.0 theirs.0, all_append (RelayAgrees t) v.relays w.relays mine.1 theirs.1) (tt, tt))

is_false : (b : Bool) → tally b ≡ 0 → b ≡ false
is_false true e = absurd (omega arith)
is_false false e = refl

-- the first seat splits a new one off
pub branch_kept : (t : Terms) (id : ℕ) (r : RelayView) → r.first ≡ true
    → Splits (Orderly t) id (view [] (r ∷ [])) (parent (view [] (r ∷ []))) (child (view [] (r ∷ [])))
branch_kept t id r first s o me =
    let v : View = view [] (r ∷ []) in
    let l : View = parent v in
    let c : View = child v in
    let rs = cut-relays s id v l c me in
    let mine = o.agree id v me in
    resettled t s o (set s.views id l ++ c ∷ []) (λ f. omega (arith, cut-keepers s id v l c me f)) (omega (arith, rs is_first, o.one_first))
    (omega (
      arith,
      rs is_other,
      rs joined_in,
      rs split_off,
      o.others,
      cond-true {A = ℕ} r.first (r.split + 1) 0 first,
      cond-true {A = ℕ} r.first r.split 0 first,
    ))
    (λ h. omega (arith, rs (λ x. total h x.passes))) (λ h. omega (arith, rs (λ x. total h x.takes))) (λ h. omega (arith, rs (λ x. total h x.posts)))
    (cut-agree s id v l c me (Agrees t o.bounds) o.agree mine mine)

-- the first seat joins another in
pub gathered_kept : (t : Terms) (id : ℕ) (r : RelayView) (other : ℕ) (q : RelayView) → r.first ≡ true
    → Joins (Orderly t) id (view [] (r ∷ [])) other (view [] (q ∷ [])) (views_joined (view [] (r ∷ [])) (view [] (q ∷ []))) blank
gathered_kept t id r other q first s o me apart them =
    let v : View = view [] (r ∷ []) in
    let w : View = view [] (q ∷ []) in
    let b : View = views_joined v w in
    let views : List View = set (set s.views id b) other blank in
    let rs = join-relays s id v other w b me apart them in
    let mine = o.agree id v me in
    let there = join-there s id v other w b me apart them in
    let r1 = cond-true {A = ℕ} r.first 1 0 first in
    let q0 : is_first q ≡ 0 = omega (arith, terms_le (λ (u : View). total is_first u.relays) s.views id other v w apart me there, o.one_first) in
    let later = is_false q.first q0 in
    resettled t s o views (λ f. omega (arith, join-keepers s id v other w b me apart them f)) (omega (arith, rs is_first, o.one_first))
    (omega (
      arith,
      rs is_other,
      rs joined_in,
      rs split_off,
      o.others,
      cond-true {A = ℕ} r.first (r.joined + 1) 0 first,
      cond-true {A = ℕ} r.first r.joined 0 first,
      cond-false {A = ℕ} q.first 0 1 later,
      cond-false {A = ℕ} q.first q.joined 0 later,
      cond-false {A = ℕ} q.first q.split 0 later,
    ))
    (λ h. omega (arith, rs (λ x. total h x.passes), total-append h r.passes q.passes))
    (λ h. omega (arith, rs (λ x. total h x.takes), total-append h r.takes q.takes))
    (λ h. omega (arith, rs (λ x. total h x.posts), total-append h r.posts q.posts))
    (join-agree s id v other w b me apart them (Agrees t o.bounds) o.agree mine (tt, tt))
