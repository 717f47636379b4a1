-- One seat's view and one word change: what keeps the rule.
use Rattle.std.proofs.Common.{◌≡◌, ℕ, ◌+◌, ◌-◌, ◌<◌, ◌≤◌, ◌≢◌, List, [], ◌∷◌, ◌++◌, map}
use Rattle.std.proofs.Common.{length, get_or, set, slice_index, sym, refl, ap, ◌∙◌, subst, ⊎_elim, arith, length-set}
use Rattle.std.proofs.lemmas.List.{length-map, map-set, set-append_left, set-append_right}
use Rattle.std.specs.List.{AllByRecursion}
use mathlib.Core.Option.{Option, some}
use lib.ListN.{get_elem?}
use lib.Seq.{set-get_or}
use Rattle.atomic_table.proofs.Lists.{at_set}
use Rattle.grant_board.specs.declared.laws.Word.{Word}
use Rattle.grant_board.specs.declared.returned.Return.{Return}
use Rattle.grant_board.specs.declared.view.View.{View}
use Rattle.grant_board.specs.BoardWords.{encode_of, IsWord, IsWordAmong}
use Rattle.base_lists.specs.Weights.{total, along}
use Rattle.grant_board.specs.Views.{Grant, Terms, KeeperPart, RelayView, Sighting, count_of}
use Rattle.grant_board.specs.Rule.{NoTableSlots, BoardState, standing_weight, offered, taken, posted_weight, as_return, of_keepers}
use Rattle.grant_board.specs.Rule.{of_relays, is_first, is_other, split_off, joined_in, KeeperAgrees, Agrees, Orderly}
use Rattle.base_lists.proofs.Totals.{total-set}
use Rattle.base_lists.proofs.Positions.{along-set}
use Rattle.base_lists.proofs.Each.{all_set, item_in}

abbrev pub board : List ℕ → List (Option NoTableSlots) → List View → BoardState
board words homes views = record { words = words; homes = homes; views = views }

-- a weighing of words, with their places
abbrev pub Weighing : Type 0
Weighing = ℕ → Word → ℕ

-- The view v becomes w, the servers' bounds become these, and of the words of each weighing as much goes and comes: what that owes to each clause of the rule
pub record Owes (t : Terms) (s : BoardState) (o : Orderly t s) (bounds : List ℕ) (v w : View) (gone come : Weighing → ℕ) : Type 0 where
  pub one_keeper : total (λ (k : KeeperPart). 1) w.keepers ≡ total (λ (k : KeeperPart). 1) v.keepers
  pub one_first : total is_first w.relays ≡ total is_first v.relays
  pub others : total is_other w.relays + total joined_in w.relays + total split_off v.relays
      ≡ total is_other v.relays + total joined_in v.relays + total split_off w.relays
  pub out : (h : Grant → ℕ) → total (λ (k : KeeperPart). total h k.view.out) w.keepers + gone (standing_weight h)
      ≡ total (λ (k : KeeperPart). total h k.view.out) v.keepers + come (standing_weight h)
  pub passes : (h : Grant → ℕ) → total (λ (r : RelayView). total h r.passes) w.relays + gone (taken h)
      ≡ total (λ (r : RelayView). total h r.passes) v.relays + come (taken h)
  pub offers : (h : Grant → ℕ) → total (λ (r : RelayView). total h r.takes) w.relays + come (offered h) + total
      (λ (k : KeeperPart). total h k.view.offers) v.keepers
      ≡ total (λ (r : RelayView). total h r.takes) v.relays + gone (offered h) + total (λ (k : KeeperPart). total h k.view.offers) w.keepers
  pub posts : (h : Return → ℕ) → total (λ (k : KeeperPart). total h k.view.returns) w.keepers + come (posted_weight (as_return h)) + total
      (λ (r : RelayView). total h r.posts) v.relays
      ≡ total (λ (k : KeeperPart). total h k.view.returns) v.keepers + gone (posted_weight (as_return h)) + total (λ (r : RelayView). total h r.posts) w.relays
  pub bounded : (n : ℕ) → 0 < slice_index bounds n
      → of_keepers (λ k. count_of n k.view.out) s.views + total (λ (k : KeeperPart). count_of n k.view.out) w.keepers < slice_index bounds n + total
      (λ (k : KeeperPart). count_of n k.view.out) v.keepers
  pub sight : (h : Sighting → ℕ) → of_keepers (λ k. total h k.sight) s.views + total (λ (k : KeeperPart). total h k.sight) w.keepers + gone (posted_weight h)
      ≤ along (posted_weight h) 0 o.cells + come (posted_weight h) + total (λ (k : KeeperPart). total h k.sight) v.keepers
  pub agree : Agrees t bounds w

-- the words, as they are afterwards
pub record IsRow (t : Terms) (numbers : List ℕ) (cells : List Word) (bounds : List ℕ) : Type 0 where
  pub words : numbers ≡ map encode_of cells ++ bounds
  pub long : length cells ≡ t.places
  pub servers : length bounds ≡ length t.limits
  pub valid : AllByRecursion IsWord cells
  pub among : AllByRecursion (IsWordAmong (length t.limits)) cells

shifted : (t : Terms) (s : BoardState) (o : Orderly t s) (j : ℕ) (v w : View) (homes : List (Option NoTableSlots)) (cells : List Word) (bounds words : List ℕ)
    (gone come : Weighing → ℕ)
    → get_elem? s.views j ≡ some v → IsRow t words cells bounds
    → ((f : Weighing) → along f 0 cells + gone f ≡ along f 0 o.cells + come f)
    → ((i : ℕ) (u : View) → i ≢ j → get_elem? s.views i ≡ some u → Agrees t bounds u)
    → Owes t s o bounds v w gone come → Orderly t (board words homes (set s.views j w))
shifted t s o j v w homes cells bounds words gone come me row turns others owes =
    let kt : (f : KeeperPart → ℕ) → of_keepers f (set s.views j w) + total f v.keepers ≡ of_keepers f s.views + total f w.keepers = λ f.
    total-set (λ (u : View). total f u.keepers) s.views j v w me in
    let rt : (f : RelayView → ℕ) → of_relays f (set s.views j w) + total f v.relays ≡ of_relays f s.views + total f w.relays = λ f.
    total-set (λ (u : View). total f u.relays) s.views j v w me in
    record {
      cells = cells;
      bounds = bounds;
      words = row.words;
      long = row.long;
      servers = row.servers;
      valid = row.valid;
      among = row.among;
      one_keeper = omega (arith, kt (λ _. 1), o.one_keeper, owes.one_keeper);
      one_first = omega (arith, rt is_first, o.one_first, owes.one_first);
      others = omega (arith, rt is_other, rt joined_in, rt split_off, o.others, owes.others);
      out = λ h. omega (arith, kt (λ k. total h k.view.out), turns (standing_weight h), o.out h, owes.out h);
      passes = λ h. omega (arith, rt (λ r. total h r.passes), turns (taken h), o.passes h, owes.passes h);
      offers = λ h. omega (arith, rt (λ r. total h r.takes), kt (λ k. total h k.view.offers), turns (offered h), o.offers h, owes.offers h);
      posts = λ h. omega (arith, rt (λ r. total h r.posts), kt (λ k. total h k.view.returns), turns (posted_weight (as_return h)), o.posts h, owes.posts h);
      bounded = λ n some_bound. omega (arith, kt (λ k. count_of n k.view.out), owes.bounded n some_bound);
      sight = λ h. omega (arith, kt (λ k. total h k.sight), turns (posted_weight h), owes.sight h);
      agree = λ i u e. ⊎_elim (λ (q : (i ≡ j) × (w ≡ u)). subst (Agrees t bounds) q.1 owes.agree)
          (λ (q : (i ≢ j) × (get_elem? s.views i ≡ some u)). others i u q.0 q.1) (at_set s.views j i w u e);
    }

-- the word of the place p goes from c to d
pub moved : (t : Terms) (s : BoardState) (o : Orderly t s) (j p new : ℕ) (v w : View) (homes : List (Option NoTableSlots)) (c d : Word)
    → get_elem? s.views j ≡ some v → get_elem? o.cells p ≡ some c → new ≡ encode_of d → IsWord d → IsWordAmong (length t.limits) d
    → Owes t s o o.bounds v w (λ f. f p c) (λ f. f p d) → Orderly t (board (set s.words p new) homes (set s.views j w))
moved t s o j p new v w homes c d me there is valid among owes =
    let near : p < length (map encode_of o.cells) = omega (arith, item_in o.cells p c there, length-map o.cells encode_of) in
    let words : set s.words p new ≡ map encode_of (set o.cells p d) ++ o.bounds =
    ap (λ (n : ℕ). set s.words p n) is
    ∙ (ap (λ (ws : List ℕ). set ws p (encode_of d)) o.words
    ∙ (set-append_left (map encode_of o.cells) o.bounds p (encode_of d) near ∙ ap (λ (ws : List ℕ). ws ++ o.bounds) (sym (map-set encode_of o.cells p d)))) in
    shifted t s o j v w homes (set o.cells p d) o.bounds (set s.words p new) (λ f. f p c) (λ f. f p d) me
    (record {
      words = words;
      long = length-set o.cells p d ∙ o.long;
      servers = o.servers;
      valid = all_set IsWord o.cells p d o.valid valid;
      among = all_set (IsWordAmong (length t.limits)) o.cells p d o.among among;
    })
    (λ f. along-set f o.cells 0 p p c d (omega arith) there) (λ i u other. o.agree i u) owes

-- a word is loaded, and no word changes
pub unmoved : (t : Terms) (s : BoardState) (o : Orderly t s) (j i : ℕ) (v w : View) (homes : List (Option NoTableSlots))
    → get_elem? s.views j ≡ some v → Owes t s o o.bounds v w (λ f. 0) (λ f. 0) → Orderly t (board (set s.words i (get_or s.words i 0)) homes (set s.views j w))
unmoved t s o j i v w homes me owes =
    shifted t s o j v w homes o.cells o.bounds (set s.words i (get_or s.words i 0)) (λ f. 0) (λ f. 0) me
    (record { words = set-get_or s.words i 0 ∙ o.words; long = o.long; servers = o.servers; valid = o.valid; among = o.among }) (λ f. refl)
    (λ j u other. o.agree j u) owes

-- a server's word is set, which the keeper alone has to agree with
pub rebounded : (t : Terms) (s : BoardState) (o : Orderly t s) (j server new : ℕ) (v w : View) (homes : List (Option NoTableSlots))
    → get_elem? s.views j ≡ some v → ((i : ℕ) (u : View) → i ≢ j → get_elem? s.views i ≡ some u → length u.keepers ≡ 0)
    → Owes t s o (set o.bounds server new) v w (λ f. 0) (λ f. 0) → Orderly t (board (set s.words (t.places + server) new) homes (set s.views j w))
rebounded t s o j server new v w homes me alone owes =
    let long : length (map encode_of o.cells) ≡ t.places = length-map o.cells encode_of ∙ o.long in
    let here : t.places + server - t.places ≡ server = omega arith in
    let words : set s.words (t.places + server) new ≡ map encode_of o.cells ++ set o.bounds server new =
    ap (λ (ws : List ℕ). set ws (t.places + server) new) o.words
    ∙ (set-append_right (map encode_of o.cells) o.bounds t.places (t.places + server) new long (omega arith)
    ∙ ap (λ (i : ℕ). map encode_of o.cells ++ set o.bounds i new) here) in
    shifted t s o j v w homes o.cells (set o.bounds server new) (set s.words (t.places + server) new) (λ f. 0) (λ f. 0) me
    (record { words = words; long = o.long; servers = length-set o.bounds server new ∙ o.servers; valid = o.valid; among = o.among }) (λ f. refl)
    (λ i u other them. (no_keeper u.keepers (alone i u other them), (o.agree i u them).1)) owes
  where
    no_keeper : (keepers : List KeeperPart) → length keepers ≡ 0 → AllByRecursion (KeeperAgrees t (set o.bounds server new)) keepers
    no_keeper [] none = tt
    no_keeper (k ∷ keepers) some_keeper = absurd (omega arith)
