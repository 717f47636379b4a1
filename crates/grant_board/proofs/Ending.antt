-- The board at its opening, and once all seats are joined.
use Rattle.std.proofs.Common.{◌≡◌, ℕ, zero, suc, ◌+◌, ◌*◌, ◌≢◌, Bool, true, false, cond, List, [], ◌∷◌}
use Rattle.std.proofs.Common.{◌++◌, map, take, replicate, length, sym, refl, ap, ◌∙◌, subst, arith, ne_eqb, add-one}
use Rattle.std.proofs.lemmas.Bool.{cond-true}
use Rattle.std.proofs.lemmas.List.{length-map, length-replicate}
use Rattle.std.proofs.Math.Seq.{take-append_seam}
use Rattle.std.specs.List.{AllByRecursion}
use mathlib.Core.Option.{some, some-injective, some-ne-none}
use lib.ListN.{get_elem?}
use Rattle.atomic_table.specs.Table.{opening}
use Rattle.grant_board.specs.declared.laws.Word.{Word}
use Rattle.grant_board.specs.declared.laws.Word.TheVariants.{Empty, Offered, Taken, Posted}
use Rattle.base_verdict.specs.declared.Ending.TheVariants.{Done, Failed}
use Rattle.grant_board.specs.declared.view.View.{View}
use Rattle.grant_board.specs.BoardWords.{code_of, encode_of, IsWord, IsWordAmong, nonzero}
use Rattle.base_lists.specs.Weights.{total, along}
use Rattle.grant_board.specs.Views.{first_mark, Terms, KeeperView, KeeperPart, RelayView}
use Rattle.grant_board.specs.Rule.{BoardState, standing_weight, offered, taken, posted_weight, as_return, of_relays}
use Rattle.grant_board.specs.Rule.{is_first, is_other, split_off, joined_in, Agrees, Orderly}
use Rattle.grant_board.specs.Ruled.{view, at_rest}
use Rattle.grant_board.specs.KeeperCalls.{new_keeper, IsClosed}
use Rattle.grant_board.specs.RelayCalls.{new_relay}
use Rattle.grant_board.specs.Plays.{Seated, seated, opened}
use Rattle.base_lists.proofs.Totals.{total-one, total-take, weightless, alone}
use Rattle.grant_board.proofs.Finding.{keeper_alone}

all_empty : ℕ → List Word
all_empty n = replicate n Empty

along-empty : (f : ℕ → Word → ℕ) → ((k : ℕ) → f k Empty ≡ 0) → (n j : ℕ) → along f j (replicate n Empty) ≡ 0
along-empty f none zero j = refl
along-empty f none (suc n) j = omega (arith, none j, along-empty f none n (suc j))

words-empty : (n : ℕ) → replicate n 0 ≡ map encode_of (replicate n Empty)
words-empty zero = refl
words-empty (suc n) = ap (λ (ns : List ℕ). 0 ∷ ns) (words-empty n)

each_empty : (P : Word → Type 0) → P Empty → (n : ℕ) → AllByRecursion P (replicate n Empty)
each_empty P p zero = tt
each_empty P p (suc n) = (p, each_empty P p n)

-- a board with empty words, the limits for bounds, one keeper and its first seat
pub opens : (t : Terms) → Orderly t (opening (replicate t.places 0 ++ map first_mark t.limits) [] (view (at_rest (new_keeper t) ∷ []) (new_relay t true ∷ [])))
opens t =
    let cells : List Word = replicate t.places Empty in record {
      cells = cells;
      bounds = map first_mark t.limits;
      words = ap (λ (ws : List ℕ). ws ++ map first_mark t.limits) (words-empty t.places);
      long = length-replicate t.places Empty;
      servers = length-map t.limits first_mark;
      valid = each_empty IsWord tt t.places;
      among = each_empty (IsWordAmong (length t.limits)) tt t.places;
      one_keeper = refl;
      one_first = refl;
      others = refl;
      out = λ h. sym (along-empty (standing_weight h) (λ k. refl) t.places 0);
      passes = λ h. sym (along-empty (taken h) (λ k. refl) t.places 0);
      offers = λ h. omega (arith, along-empty (offered h) (λ k. refl) t.places 0);
      posts = λ h. omega (arith, along-empty (posted_weight (as_return h)) (λ k. refl) t.places 0);
      bounded = λ n some_bound. omega arith;
      sight = λ h. omega arith;
      agree = first_agrees;
    }
  where
    first_agrees : (j : ℕ) (v : View) → get_elem? (view (at_rest (new_keeper t) ∷ []) (new_relay t true ∷ []) ∷ []) j ≡ some v → Agrees t (map first_mark t.limits) v
    first_agrees zero v e = subst (Agrees t (map first_mark t.limits)) (some-injective (view (at_rest (new_keeper t) ∷ []) (new_relay t true ∷ [])) v e) (
      ((refl, refl), tt),
      (refl, tt),
    )
    first_agrees (suc j) v e = absurd (some-ne-none v (sym e))

abbrev tally : Bool → ℕ → ℕ
tally b n = cond b n 0

later_by : (b : Bool) (n : ℕ) → tally b 1 ≡ 0 → tally b n ≡ 0
later_by true n e = absurd (omega arith)
later_by false n e = refl

-- relays that aren't the first count none
later_split : (l : List RelayView) → total is_first l ≡ 0 → total split_off l ≡ 0
later_split [] e = refl
later_split (r ∷ rs) e = omega (arith, later_by r.first r.split (omega arith), later_split rs (omega arith))

later_joined : (l : List RelayView) → total is_first l ≡ 0 → total joined_in l ≡ 0
later_joined [] e = refl
later_joined (r ∷ rs) e = omega (arith, later_by r.first r.joined (omega arith), later_joined rs (omega arith))

each_one : (b : Bool) → cond b 1 0 + cond b 0 1 ≡ 1
each_one true = refl
each_one false = refl

in_view : (l : List RelayView) → total is_first l + total is_other l ≡ total (λ (r : RelayView). 1) l
in_view [] = refl
in_view (r ∷ rs) = omega (arith, each_one r.first, in_view rs)

in_views : (views : List View) → of_relays is_first views + of_relays is_other views ≡ of_relays (λ (r : RelayView). 1) views
in_views [] = refl
in_views (v ∷ views) = omega (arith, in_view v.relays, in_views views)

-- where the first seat has joined as many as it split off, no other is left
pub first_alone : (t : Terms) (s : BoardState) (o : Orderly t s) (j : ℕ) (keepers : List KeeperPart) (r : RelayView)
    → get_elem? s.views j ≡ some (view keepers (r ∷ [])) → r.first ≡ true → r.split ≡ r.joined
    → (f : RelayView → ℕ) → of_relays f s.views ≡ f r
first_alone t s o j keepers r me first settled f =
    let v : View = view keepers (r ∷ []) in
    let firsts : View → ℕ = λ u. total is_first u.relays in
    let one : is_first r ≡ 1 = cond-true {A = ℕ} r.first 1 0 first in
    let split : of_relays split_off s.views ≡ r.split =
    omega (
      arith,
      alone firsts (λ (u : View). total split_off u.relays) (λ u e. later_split u.relays e) s.views j v me (omega (arith, o.one_first)),
      cond-true {A = ℕ} r.first r.split 0 first,
    ) in
    let joined : of_relays joined_in s.views ≡ r.joined =
    omega (
      arith,
      alone firsts (λ (u : View). total joined_in u.relays) (λ u e. later_joined u.relays e) s.views j v me (omega (arith, o.one_first)),
      cond-true {A = ℕ} r.first r.joined 0 first,
    ) in
    let all : of_relays (λ _. 1) s.views ≡ 1 = omega (arith, in_views s.views, o.one_first, o.others) in
    omega (
      arith,
      alone (λ (u : View). total (λ (x : RelayView). 1) u.relays) (λ (u : View). total f u.relays)
          (λ u e. weightless f u.relays (omega (arith, total-one u.relays))) s.views j v me (omega arith),
    )

closes_at : (k : KeeperPart) (s : BoardState) (o : Orderly k.view.terms s) (j : ℕ) (r : RelayView) (left : ℕ)
    → get_elem? s.views j ≡ some (view (k ∷ []) (r ∷ [])) → r.first ≡ true → r.split ≡ r.joined
    → left ≡ along (standing_weight (λ _. 1)) 0 o.cells → IsClosed k.view r left
closes_at k s o j r left me first settled is =
    let ks = keeper_alone k.view.terms s o j k (r ∷ []) me in
    let rs = first_alone k.view.terms s o j (k ∷ []) r me first settled in record {
      state = s;
      rule = o;
      bounds = sym (o.agree j (view (k ∷ []) (r ∷ [])) me).0.0.1;
      out = λ h. sym (ks (λ x. total h x.view.out)) ∙ o.out h;
      passes = λ h. sym (rs (λ x. total h x.passes)) ∙ o.passes h;
      takes = λ h. omega (arith, rs (λ x. total h x.takes), ks (λ x. total h x.view.offers), o.offers h);
      posts = λ h. omega (arith, rs (λ x. total h x.posts), ks (λ x. total h x.view.returns), o.posts h);
      left_over = is;
    }

-- the last state of the board, of whose words this many aren't empty
pub closes : (t : Terms) (s : BoardState) (o : Orderly t s) (j : ℕ) (k : KeeperPart) (r : RelayView) (left : ℕ)
    → get_elem? s.views j ≡ some (view (k ∷ []) (r ∷ [])) → r.first ≡ true → r.split ≡ r.joined
    → left ≡ along (standing_weight (λ _. 1)) 0 o.cells → IsClosed k.view r left
closes t s o j k r left me first settled is =
    let same : k.view.terms ≡ t = (o.agree j (view (k ∷ []) (r ∷ [])) me).0.0.0 in
    subst (λ (x : Terms). (y : Orderly x s) → left ≡ along (standing_weight (λ _. 1)) 0 y.cells
    → IsClosed k.view r left) same (λ y at. closes_at k s y j r left me first settled at) o is

pub opens_at : (t : Terms) (words : List ℕ) → words ≡ replicate t.places 0 ++ map first_mark t.limits → Orderly t (opening words [] (opened t))
opens_at t words is = subst (λ (ws : List ℕ). Orderly t (opening ws [] (opened t))) (sym is) (opens t)

pub nonzero-no : (n : ℕ) → n ≡ 0 → nonzero n ≡ 0
nonzero-no n none = ap nonzero none

pub nonzero-yes : (n : ℕ) → n ≢ 0 → nonzero n ≡ 1
nonzero-yes n more = ap {B = ℕ} (λ (b : Bool). cond b 0 1) (ne_eqb n 0 more)

-- how many words aren't empty
nonzero-word : (k : ℕ) (c : Word) → nonzero (encode_of c) ≡ standing_weight (λ _. 1) k c
nonzero-word k Empty = refl
nonzero-word k (Offered t d) = nonzero-yes (1024 * t + 4 * code_of d + 1) (omega arith)
nonzero-word k (Taken t d) = nonzero-yes (1024 * t + 4 * code_of d + 2) (omega arith)
nonzero-word k (Posted t d Done) = nonzero-yes (1024 * t + 4 * code_of d + 3) (omega arith)
nonzero-word k (Posted t d Failed) = nonzero-yes (1024 * t + 512 + 4 * code_of d + 3) (omega arith)

pub nonzero-words : (cells : List Word) (j : ℕ) → total nonzero (map encode_of cells) ≡ along (standing_weight (λ _. 1)) j cells
nonzero-words [] j = refl
nonzero-words (c ∷ cells) j = omega (arith, nonzero-word j c, nonzero-words cells (suc j))

-- one word more is counted
pub counts_on : (words : List ℕ) (i n left : ℕ) → get_elem? words i ≡ some n → left ≡ total nonzero (take i words)
    → total nonzero (take (i + 1) words) ≡ left + nonzero n
counts_on words i n left there before = rw (add-one) (omega (arith, total-take nonzero words i n there, before))

-- the places' words are the first of all
pub places_words : (t : Terms) (s : BoardState) (o : Orderly t s) → take t.places s.words ≡ map encode_of o.cells
places_words t s o =
    let long : t.places ≡ length (map encode_of o.cells) = omega (arith, length-map o.cells encode_of, o.long) in
    ap (λ (ws : List ℕ). take t.places ws) o.words
    ∙ (ap (λ (n : ℕ). take n (map encode_of o.cells ++ o.bounds)) long ∙ take-append_seam (map encode_of o.cells) o.bounds)

-- the board as it ended, as contracts see its two seats
pub ends : (t : Terms) (id : ℕ) (m : Seated) (k : KeeperView) (r : RelayView) (left : ℕ) (s : BoardState) (words : List ℕ) → Orderly t s
    → get_elem? s.views id ≡ some m.0 → m ≡ seated (at_rest k ∷ []) (r ∷ [])
    → s.words ≡ words → left ≡ total nonzero (take k.terms.places words) → r.first ≡ true → r.split ≡ r.joined → IsClosed k r left
ends t id m k r left s words o at is same counted first settled =
    let me : get_elem? s.views id ≡ some (view (at_rest k ∷ []) (r ∷ [])) = at ∙ ap (λ (x : Seated). some x.0) is in
    let terms : k.terms ≡ t = (o.agree id (view (at_rest k ∷ []) (r ∷ [])) me).0.0.0 in
    let row : take k.terms.places words ≡ map encode_of o.cells = ap (λ (x : Terms). take x.places words) terms
    ∙ (ap (take t.places) (sym same) ∙ places_words t s o) in
    closes t s o id (at_rest k) r left me first settled (counted ∙ (ap (total nonzero) row ∙ nonzero-words o.cells 0))
