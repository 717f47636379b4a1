-- Each step keeps the rule.
use Rattle.std.proofs.Common.{◌≡◌, ℕ, ◌+◌, ◌<◌, ◌≤◌, ◌≢◌, ◌==◌, List, [], ◌∷◌, length, get_or, set, slice_index, Contains, sym, refl, ap, ◌∙◌, subst, arith}
use mathlib.Core.Logic.{dite}
use native.Mathlib.Decide.{ℕ_discrete}
use mathlib.Core.Option.{none, some}
use lib.ListN.{get_elem?}
use lib.Seq.{set-get_or}
use prog.Atomic.{either}
use Rattle.std.proofs.lemmas.List.{get_or-set_same, get_or-set_other, length-append}
use Rattle.atomic_table.specs.Table.{step, Act, keeps, Valid, carried_after, stepped, Allows}
use Rattle.atomic_table.proofs.Lists.{set_here, exchanged}
use Rattle.base_verdict.specs.declared.cause.Cause.TheVariants.{Aborted}
use Rattle.base_verdict.specs.declared.Verdict.{Verdict}
use Rattle.base_verdict.specs.declared.Verdict.TheVariants.{Told}
use Rattle.base_verdict.specs.declared.Ending.{Ending}
use Rattle.base_verdict.specs.declared.Ending.TheVariants.{Done}
use Rattle.grant_board.specs.declared.laws.Word.{Word}
use Rattle.grant_board.specs.declared.laws.Word.TheVariants.{Empty, Offered, Taken, Posted}
use Rattle.grant_board.specs.declared.view.View.{View}
use Rattle.grant_board.specs.BoardWords.{encode_of, IsWord, IsAmong, IsWordAmong}
use Rattle.base_lists.specs.Weights.{total}
use Rattle.grant_board.specs.Views.{Grant, grant, Terms, KeeperView, KeeperPart, RelayView, Sighting}
use Rattle.grant_board.specs.Views.{return_of, at_place, serves_at, count_at, count_of, grants_without}
use Rattle.grant_board.specs.Rule.{NoTableSlots, BoardState, standing_weight, posted_weight, of_keepers, of_relays, Orderly}
use Rattle.grant_board.specs.Ruled.{view, at_rest}
use Rattle.grant_board.specs.KeeperCalls.{keeper_looked, offer_after, collect_after, MayLimit, limit_after}
use Rattle.grant_board.specs.RelayCalls.{relay_looked, take_after, post_after}
use Rattle.grant_board.specs.Plays.{Seated, seated, keeper_seat, relay_seat, offers, sees, clears, limits, vouches, glances, takes, posts, meets, counts}
use Rattle.base_lists.proofs.Totals as sums
use Rattle.base_lists.proofs.Positions.{along_le}
use Rattle.base_lists.proofs.Each as items
use Rattle.grant_board.proofs.Grants as grants
use Rattle.grant_board.proofs.Codes.{same_word}
use Rattle.grant_board.proofs.Moving.{moved, unmoved, rebounded}
use Rattle.grant_board.proofs.Finding.{one, one-same, has_one, one_sight, one_sight-same, empty_there, keeper_alone, keeper_nowhere, relays_le, number_at}
use Rattle.grant_board.proofs.Finding.{bound_at, taken_there, posted_there, out_at, passes_at, passes_out, passes_once, passes_room, passes_bounded}

abbrev Goes : Terms → BoardState → ℕ → ℕ → Seated → (ℕ → Seated → Type 0) → ℕ → Type 0
Goes t s i id m then n = (w : View) × (a : Act NoTableSlots) × Valid s.homes m.1 a × Orderly t (stepped s i n id m.1 w a)
    × then (get_or s.words i 0) (w, carried_after m.1 a)

-- the grant of a word, and its sighting
grant_in : ℕ → Word → Grant
grant_in p Empty = grant p 0 (Told Aborted)
grant_in p (Offered t d) = grant p t d
grant_in p (Taken t d) = grant p t d
grant_in p (Posted t d e) = grant p t d

ending_in : Word → Ending
ending_in (Posted t d e) = e
ending_in _ = Done

-- the grant may be offered
pub record MayOffer (k : KeeperView) (p ticket : ℕ) (verdict : Verdict) : Type 0 where
  pub place : p < k.terms.places
  pub free : count_at p k.out ≡ 0
  pub word : IsWord (Offered ticket verdict)
  pub among : IsAmong (length k.terms.limits) verdict
  pub room : (n : ℕ) → 0 < slice_index k.bounds n → 0 < serves_at n verdict → count_of n k.out + 1 < slice_index k.bounds n

pub offered_kept : (t : Terms) (slots id : ℕ) (k : KeeperPart) (p ticket : ℕ) (d : Verdict) (new : ℕ) → new ≡ encode_of (Offered ticket d)
    → MayOffer k.view p ticket d
    → Allows (Orderly t) slots id (keeper_seat k) p (λ _. new) (λ _. offers (step slots p new 0 none) (keeper_seat k) new)
unfolding grant_in
offered_kept t slots id k p ticket d new is may s o wide me _ =
    let g : Grant = grant p ticket d in
    let agree = (o.agree id (view (k ∷ []) []) me).0.0 in
    let near : p < length o.cells = omega (arith, may.place, o.long, ap (λ (x : Terms). x.places) agree.0) in
    let there = items.item_at o.cells p near in
    let c : Word = there.0 in
    let none_out : standing_weight (at_place p) p c ≡ 0 =
    omega (
      arith,
      out_at t s o p c there.1 (at_place p) (λ x n. grants.at_place-no p x n),
      keeper_alone t s o id k [] me (λ x. total (at_place p) x.view.out),
      may.free,
    ) in
    let free : get_elem? o.cells p ≡ some Empty = there.1 ∙ ap (λ (x : Word). some x) (empty_there p c none_out) in
    let bounds : (n : ℕ) → slice_index k.view.bounds n ≡ slice_index o.bounds n = λ n. ap (λ (bs : List ℕ). slice_index bs n) agree.1 in
    let w : View = view (record k { view = offer_after k.view g } ∷ []) [] in (
      w,
      keeps,
      tt,
      moved t s o id p new (view (k ∷ []) []) w s.homes Empty (Offered ticket d) me free is may.word
          (subst (λ (x : Terms). IsAmong (length x.limits) d) agree.0 may.among) (record {
            one_keeper = refl;
            one_first = refl;
            others = refl;
            out = λ h. omega (arith, sums.total-push h k.view.out g);
            passes = λ h. refl;
            offers = λ h. omega (arith, sums.total-push h k.view.offers g);
            posts = λ h. refl;
            bounded = λ n some_bound.
                let all = keeper_alone t s o id k [] me (λ x. count_of n x.view.out) in
                let more = sums.total-push (λ x. serves_at n x.verdict) k.view.out g in
                let small = grants.serves_at-one n d in
                dite (ℕ_discrete (serves_at n d) 0) (λ none_more. omega (arith, o.bounded n some_bound))
                (λ one_more. omega (arith, bounds n, may.room n (omega (arith, bounds n)) (omega arith)));
            sight = λ h. omega (arith, o.sight h);
            agree = o.agree id (view (k ∷ []) []) me;
          }),
      λ ticket' d' word' e. ap (λ (x : Word). keeper_seat (record k { view = offer_after k.view (grant_in p x) }))
          (same_word (Offered ticket d) (Offered ticket' d') may.word word' (sym is ∙ e)),
    )

-- the keeper finds nothing posted
sees_else : (t : Terms) (slots id : ℕ) (k : KeeperPart) (p : ℕ) (s : BoardState) (o : Orderly t s) (c : Word) → k.sight ≡ []
    → get_elem? s.views id ≡ some (view (k ∷ []) []) → get_elem? o.cells p ≡ some c
    → ((ticket : ℕ) (d : Verdict) (e : Ending) → c ≢ Posted ticket d e)
    → Goes t s p id (keeper_seat k) (sees (step slots p 0 0 none) (keeper_seat k)) (get_or s.words p 0)
sees_else t slots id k p s o c blind me there other =
    let v : View = view (k ∷ []) [] in
    let w : View = view (at_rest (keeper_looked k.view p (get_or s.words p 0)) ∷ []) [] in
    let n : get_or s.words p 0 ≡ encode_of c = number_at t s o p c there in
    let word : IsWord c = items.all_at IsWord o.cells p c o.valid there in (
      w,
      keeps,
      tt,
      unmoved t s o id p v w s.homes me (record {
        one_keeper = refl;
        one_first = refl;
        others = refl;
        out = λ h. refl;
        passes = λ h. refl;
        offers = λ h. refl;
        posts = λ h. refl;
        bounded = λ b some_bound. omega (arith, o.bounded b some_bound);
        sight = λ h. omega (arith, o.sight h);
        agree = o.agree id v me;
      }),
      ((λ ticket d e word' is. absurd (other ticket d e (same_word c (Posted ticket d e) word word' (sym n ∙ is)))), λ _. refl),
    )

sees_word : (t : Terms) (slots id : ℕ) (k : KeeperPart) (p : ℕ) (s : BoardState) (o : Orderly t s) (c : Word) → k.sight ≡ []
    → get_elem? s.views id ≡ some (view (k ∷ []) []) → get_elem? o.cells p ≡ some c
    → Goes t s p id (keeper_seat k) (sees (step slots p 0 0 none) (keeper_seat k)) (get_or s.words p 0)
unfolding grant_in ending_in
sees_word t slots id k p s o Empty blind me there = sees_else t slots id k p s o Empty blind me there (λ ticket d e same. cc)
sees_word t slots id k p s o (Offered u b) blind me there = sees_else t slots id k p s o (Offered u b) blind me there (λ ticket d e same. cc)
sees_word t slots id k p s o (Taken u b) blind me there = sees_else t slots id k p s o (Taken u b) blind me there (λ ticket d e same. cc)
sees_word t slots id k p s o (Posted u b x) blind me there =
    let v : View = view (k ∷ []) [] in
    let found : Sighting = record { pass = grant p u b; ending = x } in
    let w : View = view (record { view = keeper_looked k.view p (get_or s.words p 0); sight = found ∷ [] } ∷ []) [] in
    let n : get_or s.words p 0 ≡ encode_of (Posted u b x) = number_at t s o p (Posted u b x) there in
    let word : IsWord (Posted u b x) = items.all_at IsWord o.cells p (Posted u b x) o.valid there in (
      w,
      keeps,
      tt,
      unmoved t s o id p v w s.homes me (record {
        one_keeper = refl;
        one_first = refl;
        others = refl;
        out = λ h. refl;
        passes = λ h. refl;
        offers = λ h. refl;
        posts = λ h. refl;
        bounded = λ b some_bound. omega (arith, o.bounded b some_bound);
        sight = λ h. omega (
          arith,
          keeper_alone t s o id k [] me (λ y. total h y.sight),
          ap (total h) blind,
          along_le (posted_weight h) o.cells 0 p p (Posted u b x) (omega arith) there,
        );
        agree = o.agree id v me;
      }),
      (
        (λ ticket d e word' is. ap (λ (c : Word).
            keeper_seat (record { view = keeper_looked k.view p (get_or s.words p 0); sight = record { pass = grant_in p c; ending = ending_in c } ∷ [] }))
            (same_word (Posted u b x) (Posted ticket d e) word word' (sym n ∙ is))),
        λ not. absurd (not u b x word n),
      ),
    )

pub seen_kept : (t : Terms) (slots id : ℕ) (k : KeeperPart) (p : ℕ) → k.sight ≡ [] → p < k.view.terms.places
    → Allows (Orderly t) slots id (keeper_seat k) p (λ n. n) (sees (step slots p 0 0 none) (keeper_seat k))
seen_kept t slots id k p blind inside s o wide me _ =
    let agree = (o.agree id (view (k ∷ []) []) me).0.0 in
    let near : p < length o.cells = omega (arith, o.long, ap (λ (x : Terms). x.places) agree.0) in
    let there = items.item_at o.cells p near in sees_word t slots id k p s o there.0 blind me there.1

-- the keeper's seat, once what it had in sight is collected
abbrev IsCleared : KeeperView → ℕ → Seated → Sighting → Type 0
IsCleared k p n x =
    (n ≡ keeper_seat (at_rest (collect_after k x.pass x.ending))) × Contains k.out x.pass × ((h : Grant → ℕ)
    → total h (grants_without p k.out) + h x.pass ≡ total h k.out)

cleared_as : (k : KeeperView) (p : ℕ) (n : Seated) (x y : Sighting) → x ≡ y → IsCleared k p n x → IsCleared k p n y
cleared_as k p n x y same cleared = subst (IsCleared k p n) same cleared

pub cleared_kept : (t : Terms) (slots id : ℕ) (k : KeeperPart) (p ticket : ℕ) (d : Verdict) (e : Ending)
    → k.sight ≡ record { pass = grant p ticket d; ending = e } ∷ []
    → Allows (Orderly t) slots id (keeper_seat k) p (λ _. 0) (λ _. clears (step slots p 0 0 none) (keeper_seat k) 0)
unfolding grant_in ending_in
cleared_kept t slots id k p ticket d e seen s o wide me _ =
    let g : Grant = grant p ticket d in
    let x : Sighting = record { pass = g; ending = e } in
    let v : View = view (k ∷ []) [] in
    let w : View = view (at_rest (collect_after k.view g e) ∷ []) [] in
    let has : 0 < of_keepers (λ y. total (one_sight x) y.sight) s.views =
    omega (arith, keeper_alone t s o id k [] me (λ y. total (one_sight x) y.sight), ap (total (one_sight x)) seen, one_sight-same x) in
    let there : get_elem? o.cells p ≡ some (Posted ticket d e) = posted_there t s o x has in
    let weighs : (h : Grant → ℕ) → total h (grants_without p k.view.out) + h g ≡ total h k.view.out = λ h.
    omega (
      arith,
      grants.without-total p h k.view.out,
      keeper_alone t s o id k [] me (λ y. total (grants.here p h) y.view.out),
      out_at t s o p (Posted ticket d e) there (grants.here p h) (λ y n. grants.here-no p h y n),
      grants.here-yes p h g refl,
    ) in
    let is_out : Contains k.view.out g = has_one k.view.out g (omega (arith, weighs (one g), one-same g)) in (
      w,
      keeps,
      tt,
      moved t s o id p 0 v w s.homes (Posted ticket d e) Empty me there refl tt tt (record {
        one_keeper = refl;
        one_first = refl;
        others = refl;
        out = λ h. omega (arith, weighs h);
        passes = λ h. refl;
        offers = λ h. refl;
        posts = λ h. omega (arith, sums.total-append h k.view.returns (return_of g e ∷ []));
        bounded = λ n some_bound. omega (arith, o.bounded n some_bound, grants.without_le p (λ y. serves_at n y.verdict) k.view.out);
        sight = λ h. omega (arith, o.sight h, ap (total h) seen);
        agree = o.agree id v me;
      }),
      λ ticket' d' e' word' seen'. cleared_as k.view p (w, []) x (record { pass = grant p ticket' d'; ending = e' })
          (ap (λ (xs : List Sighting). get_or xs 0 x) (sym seen ∙ seen')) (refl, is_out, weighs),
    )

pub limited_kept : (t : Terms) (slots id : ℕ) (k : KeeperPart) (server i new : ℕ) → i ≡ k.view.terms.places + server → MayLimit k.view server new
    → Allows (Orderly t) slots id (keeper_seat k) i (λ _. new) (λ _. limits (step slots i new 0 none) (keeper_seat k) new)
limited_kept t slots id k server i new at may s o wide me _ =
    let v : View = view (k ∷ []) [] in
    let w : View = view (record k { view = limit_after k.view server new } ∷ []) [] in
    let agree = (o.agree id v me).0.0 in
    let here : t.places + server ≡ i = omega (arith, at, ap (λ (x : Terms). x.places) agree.0) in
    let all : (n : ℕ) → of_keepers (λ x. count_of n x.view.out) s.views ≡ count_of n k.view.out = λ n.
    keeper_alone t s o id k [] me (λ x. count_of n x.view.out) in
    let near : server < length o.bounds = omega (arith, may.0, o.servers, ap (λ (x : Terms). length x.limits) agree.0) in
    let bounded : (n : ℕ) → 0 < slice_index (set o.bounds server new) n → count_of n k.view.out < slice_index (set o.bounds server new) n =
    λ n some_bound. dite (ℕ_discrete n server)
    (λ e.
    let now : slice_index (set o.bounds server new) n ≡ new = ap (λ (m : ℕ). slice_index (set o.bounds server new) m) e
    ∙ get_or-set_same o.bounds server new 0 near in
    let counted : count_of n k.view.out ≡ count_of server k.view.out = ap (λ (m : ℕ). count_of m k.view.out) e in
    omega (arith, may.1 (omega arith)))
    (λ ne. let now : slice_index (set o.bounds server new) n ≡ slice_index o.bounds n = get_or-set_other o.bounds server n new 0 ne in
    omega (arith, all n, o.bounded n (omega arith))) in
    let after : Orderly t (stepped s (t.places + server) new id [] w keeps) =
    rebounded t s o id server new v w s.homes me (keeper_nowhere t s o id k [] me) (record {
      one_keeper = refl;
      one_first = refl;
      others = refl;
      out = λ h. refl;
      passes = λ h. refl;
      offers = λ h. omega arith;
      posts = λ h. omega arith;
      bounded = λ n some_bound. omega (arith, all n, bounded n some_bound);
      sight = λ h. omega (arith, o.sight h);
      agree = (((agree.0, ap (λ (bs : List ℕ). set bs server new) agree.1), tt), tt);
    }) in (
      w,
      keeps,
      tt,
      subst (λ (m : ℕ). Orderly t (stepped s m new id [] w keeps)) here after,
      λ server' near' at'. ap (λ (m : ℕ). keeper_seat (record k { view = limit_after k.view m new })) (omega arith),
    )

pub vouched_kept : (t : Terms) (slots id : ℕ) (k : KeeperPart) (q : RelayView) (i : ℕ)
    → Allows (Orderly t) slots id (seated (k ∷ []) (q ∷ [])) i (λ n. n) (vouches (step slots i 0 0 none) (seated (k ∷ []) (q ∷ [])))
vouched_kept t slots id k q i s o wide me _ =
    let v : View = view (k ∷ []) (q ∷ []) in
    let w : View = view (record k { view = keeper_looked k.view i (get_or s.words i 0) } ∷ []) (q ∷ []) in (
      w,
      keeps,
      tt,
      unmoved t s o id i v w s.homes me (record {
        one_keeper = refl;
        one_first = refl;
        others = refl;
        out = λ h. refl;
        passes = λ h. refl;
        offers = λ h. omega arith;
        posts = λ h. omega arith;
        bounded = λ n some_bound. omega (arith, o.bounded n some_bound);
        sight = λ h. omega (arith, o.sight h);
        agree = o.agree id v me;
      }),
      (
        refl,
        λ h. omega (
          arith,
          relays_le t s o id v me (λ r. total h r.passes),
          passes_out t s o h,
          keeper_alone t s o id k (q ∷ []) me (λ x. total h x.view.out),
        ),
      ),
    )

-- a look of the first relay of a seat keeps the rule
looked_kept : (t : Terms) (s : BoardState) (o : Orderly t s) (id i : ℕ) (r : RelayView) (others : List RelayView)
    → get_elem? s.views id ≡ some (view [] (r ∷ others))
    → Orderly t (stepped s i (get_or s.words i 0) id [] (view [] (relay_looked r i (get_or s.words i 0) ∷ others)) keeps)
looked_kept t s o id i r others me =
    let v : View = view [] (r ∷ others) in
    unmoved t s o id i v (view [] (relay_looked r i (get_or s.words i 0) ∷ others)) s.homes me (record {
      one_keeper = refl;
      one_first = refl;
      others = omega arith;
      out = λ h. refl;
      passes = λ h. refl;
      offers = λ h. refl;
      posts = λ h. omega arith;
      bounded = λ n some_bound. omega (arith, o.bounded n some_bound);
      sight = λ h. omega (arith, o.sight h);
      agree = o.agree id v me;
    })

pub glanced_kept : (t : Terms) (slots id : ℕ) (r : RelayView) (i : ℕ)
    → Allows (Orderly t) slots id (relay_seat r) i (λ n. n) (glances (step slots i 0 0 none) (relay_seat r))
glanced_kept t slots id r i s o wide me _ = (view [] (relay_looked r i (get_or s.words i 0) ∷ []), keeps, tt, looked_kept t s o id i r [] me, refl)

-- a seat has no more passes than there are places
room_for : (t : Terms) (s : BoardState) (o : Orderly t s) (id : ℕ) (r : RelayView) → get_elem? s.views id ≡ some (view [] (r ∷ [])) → length r.passes ≤ t.places
room_for t s o id r me = omega (
  arith,
  relays_le t s o id (view [] (r ∷ [])) me (λ x. total (λ (g : Grant). 1) x.passes),
  sums.total-one r.passes,
  passes_room t s o,
)

pub taken_kept : (t : Terms) (slots id : ℕ) (r : RelayView) (p ticket : ℕ) (d : Verdict) (old new : ℕ) → old ≡ encode_of (Offered ticket d)
    → new ≡ encode_of (Taken ticket d) → IsWord (Offered ticket d) → p < r.terms.places
    → Allows (Orderly t) slots id (relay_seat r) p (λ n. either (n == old) new n) (takes (step slots p old new none) (relay_seat r))
unfolding grant_in
taken_kept t slots id r p ticket d old new was is word inside s o wide me _ =
    let g : Grant = grant p ticket d in
    let v : View = view [] (r ∷ []) in
    let w : View = view [] (take_after r g ∷ []) in
    let agree = (o.agree id v me).1.0 in
    let near : p < length o.cells = omega (arith, inside, o.long, ap (λ (x : Terms). x.places) agree) in
    let there = items.item_at o.cells p near in
    let c : Word = there.0 in
    let valid : IsWord c = items.all_at IsWord o.cells p c o.valid there.1 in
    let servers : IsWordAmong (length t.limits) c = items.all_at (IsWordAmong (length t.limits)) o.cells p c o.among there.1 in
    let n : get_or s.words p 0 ≡ encode_of c = number_at t s o p c there.1 in
    let G = Goes t s p id (relay_seat r) (takes (step slots p old new none) (relay_seat r)) in
    exchanged (get_or s.words p 0) old new G
    (λ hit.
    let same : c ≡ Offered ticket d = same_word c (Offered ticket d) valid word (sym n ∙ (hit ∙ was)) in
    let offered_there : get_elem? o.cells p ≡ some (Offered ticket d) = there.1 ∙ ap (λ (x : Word). some x) same in
    let among : IsAmong (length t.limits) d = subst (IsWordAmong (length t.limits)) same servers in
    let after : Orderly t (stepped s p new id [] w keeps) =
    moved t s o id p new v w s.homes (Offered ticket d) (Taken ticket d) me offered_there is word among (record {
      one_keeper = refl;
      one_first = refl;
      others = omega arith;
      out = λ h. refl;
      passes = λ h. omega (arith, sums.total-push h r.passes g);
      offers = λ h. omega (arith, sums.total-push h r.takes g);
      posts = λ h. omega arith;
      bounded = λ m some_bound. omega (arith, o.bounded m some_bound);
      sight = λ h. omega (arith, o.sight h);
      agree = o.agree id v me;
    }) in
    let room = room_for t (stepped s p new id [] w keeps) after id (take_after r g) (set_here s.views id w (items.item_in s.views id v me)) in (
      w,
      keeps,
      tt,
      after,
      λ ticket' d' word' was' is'. (
        (λ _. (
          ap (λ (x : Word). relay_seat (take_after r (grant_in p x))) (same_word (Offered ticket d) (Offered ticket' d') word word' (sym was ∙ was')),
          omega (arith, room, length-append r.passes (g ∷ []), ap (λ (x : Terms). x.places) agree),
          subst (IsWordAmong (length r.terms.limits)) (same_word (Offered ticket d) (Offered ticket' d') word word' (sym was ∙ was'))
              (subst (λ (x : Terms). IsAmong (length x.limits) d) (sym agree) among),
        )),
        λ miss. absurd (miss hit),
      ),
    ))
    (λ miss. (
      view [] (relay_looked r p (get_or s.words p 0) ∷ []),
      keeps,
      tt,
      looked_kept t s o id p r [] me,
      λ ticket' d' word' was' is'. ((λ hit. absurd (miss hit)), λ _. refl),
    ))

pub posted_kept : (t : Terms) (slots id : ℕ) (r : RelayView) (p ticket : ℕ) (d : Verdict) (e : Ending) (new : ℕ) → new ≡ encode_of (Posted ticket d e)
    → IsWord (Posted ticket d e) → Contains r.passes (grant p ticket d)
    → Allows (Orderly t) slots id (relay_seat r) p (λ _. new) (λ _. posts (step slots p new 0 none) (relay_seat r) new)
unfolding grant_in ending_in
posted_kept t slots id r p ticket d e new is word mine s o wide me _ =
    let g : Grant = grant p ticket d in
    let v : View = view [] (r ∷ []) in
    let w : View = view [] (post_after r g e ∷ []) in
    let has = sums.has_le (one g) r.passes g mine in
    let all = relays_le t s o id v me (λ x. total (one g) x.passes) in
    let there : get_elem? o.cells p ≡ some (Taken ticket d) = taken_there t s o g (omega (arith, one-same g)) in
    let among : IsAmong (length t.limits) d = items.all_at (IsWordAmong (length t.limits)) o.cells p (Taken ticket d) o.among there in
    let weighs : (h : Grant → ℕ) → total h (grants_without p r.passes) + h g ≡ total h r.passes = λ h.
    omega (
      arith,
      grants.without-total p h r.passes,
      relays_le t s o id v me (λ x. total (grants.here p h) x.passes),
      passes_at t s o p (Taken ticket d) there (grants.here p h) (λ y n. grants.here-no p h y n),
      grants.here-yes p h g refl,
      sums.has_le (grants.here p h) r.passes g mine,
    ) in (
      w,
      keeps,
      tt,
      moved t s o id p new v w s.homes (Taken ticket d) (Posted ticket d e) me there is word among (record {
        one_keeper = refl;
        one_first = refl;
        others = omega arith;
        out = λ h. refl;
        passes = λ h. omega (arith, weighs h);
        offers = λ h. refl;
        posts = λ h. omega (arith, sums.total-append h r.posts (return_of g e ∷ []));
        bounded = λ m some_bound. omega (arith, o.bounded m some_bound);
        sight = λ h. omega (arith, o.sight h);
        agree = o.agree id v me;
      }),
      λ ticket' d' e' word' is'.
          let same = same_word (Posted ticket d e) (Posted ticket' d' e') word word' (sym is ∙ is') in
          subst (λ (x : Word). ((w, []) ≡ relay_seat (post_after r (grant_in p x) (ending_in x))) × ((h : Grant → ℕ)
          → total h (grants_without p r.passes) + h (grant_in p x) ≡ total h r.passes)) {x = Posted ticket d e} same (refl, weighs),
    )

pub met_kept : (t : Terms) (slots id : ℕ) (r q : RelayView) (i : ℕ)
    → Allows (Orderly t) slots id (seated [] (r ∷ q ∷ [])) i (λ n. n) (meets (step slots i 0 0 none) (seated [] (r ∷ q ∷ [])))
met_kept t slots id r q i s o wide me _ =
    let v : View = view [] (r ∷ q ∷ []) in
    let found : ℕ = get_or s.words i 0 in
    let w : View = view [] (relay_looked r i found ∷ q ∷ []) in
    let agree = (o.agree id v me).1.0 in
    let both : (f : RelayView → ℕ) → f r + f q ≤ of_relays f s.views = λ f. omega (arith, relays_le t s o id v me f) in
    let places = ap (λ (x : Terms). x.places) agree in
    let after : Orderly t (stepped s i found id [] w keeps) = looked_kept t s o id i r (q ∷ []) me in (
      w,
      keeps,
      tt,
      after,
      λ server near at.
          let here : t.places + server ≡ i = omega (arith, at, places) in
          let bound : found ≡ slice_index o.bounds server = ap (λ (m : ℕ). get_or s.words m 0) (sym here) ∙ bound_at t s o server in
          let now : slice_index after.bounds server ≡ found =
          sym (bound_at t (stepped s i found id [] w keeps) after server)
          ∙ (ap (λ (m : ℕ). get_or (set s.words i found) m 0) here ∙ ap (λ (ws : List ℕ). get_or ws i 0) (set-get_or s.words i 0)) in (
            refl,
            record {
              different = λ p. omega (arith, both (λ x. count_at p x.passes), passes_once t s o p);
              bounded = λ some_bound. omega (arith, both (λ x. count_of server x.passes), passes_bounded t s o server (omega arith));
              room = omega (arith, places, both (λ x. total (λ (g : Grant). 1) x.passes), passes_room t s o, sums.total-one r.passes, sums.total-one q.passes);
            },
            (
              record {
                terms = t;
                state = stepped s i found id [] w keeps;
                rule = after;
                seat = id;
                seen = set_here s.views id w (items.item_in s.views id v me);
              },
              now,
            ),
          ),
    )

pub counted_kept : (t : Terms) (slots id : ℕ) (r : RelayView) (i : ℕ)
    → Allows (Orderly t) slots id (relay_seat r) i (λ n. n) (counts (step slots i 0 0 none) (relay_seat r))
counted_kept t slots id r i s o wide me _ =
    let v : View = view [] (r ∷ []) in
    let agree = (o.agree id v me).1.0 in (
      v,
      keeps,
      tt,
      unmoved t s o id i v v s.homes me (record {
        one_keeper = refl;
        one_first = refl;
        others = omega arith;
        out = λ h. refl;
        passes = λ h. refl;
        offers = λ h. refl;
        posts = λ h. omega arith;
        bounded = λ n some_bound. omega (arith, o.bounded n some_bound);
        sight = λ h. omega (arith, o.sight h);
        agree = o.agree id v me;
      }),
      (refl, omega (arith, room_for t s o id r me, ap (λ (x : Terms). x.places) agree)),
    )
