-- Verdicts that are offered one after the other.
use Rattle.std.proofs.Common.{◌≡◌, ℕ, suc, ◌+◌, ◌<◌, ◌⊎◌, ◌↔◌, inl, inr, List, [], ◌∷◌, ◌++◌}
use Rattle.std.proofs.Common.{Option, None, Some, Contains, map, drop, length, get_or, refl, ap, sym, ◌∙◌, subst, arith}
use Rattle.std.specs.List.{cons_option}
use Rattle.std.proofs.Math.Seq.{drop-cons}
use Rattle.std.proofs.lemmas.List.{append_assoc, append-nil}
use Rattle.base_lists.proofs.Members.{Contains-nil, Contains-head, Contains-tail, Contains-cases}
use Rattle.base_verdict.specs.declared.Verdict.{Verdict}
use Rattle.base_places.specs.Sets.{Has}
use Rattle.grant_board.specs.Views.{Grant, grant, KeeperView}
use Rattle.grant_board.specs.KeeperCalls.{Keeper, offer_after}
use Rattle.log_entries.specs.declared.entry.Entry.{Entry}
use Rattle.log_entries.specs.Histories.{History, state_of}
use Rattle.locked_book.specs.Books.{IsOwing}
use Rattle.locked_book.specs.Calls.{grants_in, with_offers, Wakes}
use Rattle.locked_book.specs.Outstanding.{place_in, grants_of}
use Rattle.locked_book.specs.Verdicts.{verdict_in, verdicts}
use Rattle.locked_book.proofs.Owing.{owes_rest, offered}

abbrev pub places_of : List Grant → List ℕ
places_of grants = map (λ g. g.place) grants

-- so far some of all these entries were gone through: what is left to offer makes of the seat and of the set what all makes of them
pub record IsPaying (h : History) (first : Keeper) (before : List ℕ) (all : List Entry) (now : Keeper) (places : List ℕ) (rest : List Entry) : Type 0 where
  pub owing : IsOwing h now.view rest
  pub board : now.board ≡ first.board
  pub offers : with_offers now.view (grants_in h rest) ≡ with_offers first.view (grants_in h all)
  pub woken : (p : ℕ) → (Contains (places_of (grants_in h rest)) p ⊎ Has places p) ↔ (Contains (places_of (grants_in h all)) p ⊎ Has before p)

pub begins : (h : History) (first : Keeper) (before : List ℕ) (all : List Entry) → IsOwing h first.view all → IsPaying h first before all first before all
begins h first before all owing = record { owing = owing; board = refl; offers = refl; woken = λ p. (λ x. x, λ x. x) }

module _ (h : History) (first : Keeper) (before : List ℕ) (all : List Entry) (now : Keeper) (woken : List ℕ) (e : Entry) (rest : List Entry)
    (is : IsPaying h first before all now woken (e ∷ rest)) where
  pub passes : verdict_in e ≡ None → IsPaying h first before all now woken rest
  passes none =
      let same : grants_in h (e ∷ rest) ≡ grants_in h rest =
      ap (λ (o : Option (ℕ × Verdict)). grants_of (state_of h).rows (cons_option o (verdicts rest))) none in
      record {
        owing = owes_rest h now.view e rest is.owing none;
        board = is.board;
        offers = ap (with_offers now.view) (sym same) ∙ is.offers;
        woken = λ p. subst (λ gs. (Contains (places_of gs) p ⊎ Has woken p) ↔ (Contains (places_of (grants_in h all)) p ⊎ Has before p)) same (is.woken p);
      }

  pub pays : (it : ℕ × Verdict) (place : ℕ) (next : Keeper) (now_woken : List ℕ) → verdict_in e ≡ Some it → place_in it.0 (state_of h).rows ≡ place
      → next ≡ record now { view = offer_after now.view (grant place it.0 it.1) } → Wakes (grant place it.0 it.1 ∷ []) woken now_woken
      → IsPaying h first before all next now_woken rest
  pays it place next now_woken told at offers wakes =
      let g = grant place it.0 it.1 in
      let same : grants_in h (e ∷ rest) ≡ g ∷ grants_in h rest =
      ap (λ (o : Option (ℕ × Verdict)). grants_of (state_of h).rows (cons_option o (verdicts rest))) told ∙ ap (λ p. grant p it.0 it.1 ∷ grants_in h rest) at in
      let view : next.view ≡ offer_after now.view g = ap (λ (k : Keeper). k.view) offers in
      record {
        owing = subst (λ (v : KeeperView). IsOwing h v rest) (sym view) (offered h now.view e rest it place is.owing told at);
        board = ap (λ (k : Keeper). k.board) offers ∙ is.board;
        offers = ap (λ (v : KeeperView). with_offers v (grants_in h rest)) view
            ∙ ap (λ l. record now.view { out = l; offers = (now.view.offers ++ g ∷ []) ++ grants_in h rest })
            (append_assoc now.view.out (g ∷ []) (grants_in h rest))
            ∙ ap (λ l. record now.view { out = now.view.out ++ g ∷ grants_in h rest; offers = l }) (append_assoc now.view.offers (g ∷ []) (grants_in h rest))
            ∙ ap (with_offers now.view) (sym same) ∙ is.offers;
        woken = λ p. (λ x. (is.woken p).0 (forth p same x), λ x. back p same ((is.woken p).1 x));
      }
    where
      forth : (p : ℕ) → grants_in h (e ∷ rest) ≡ grant place it.0 it.1 ∷ grants_in h rest → Contains (places_of (grants_in h rest)) p ⊎ Has now_woken p
          → Contains (places_of (grants_in h (e ∷ rest))) p ⊎ Has woken p
      forth p same (inl later) = inl (subst (λ gs. Contains (places_of gs) p) (sym same) (Contains-tail place (places_of (grants_in h rest)) p later))
      forth p same (inr has) = elim ((wakes p).0 has) [
        | inl here ↦ elim (Contains-cases place [] p here) [
          | inl it_is ↦ inl (subst (λ gs. Contains (places_of gs) p) (sym same)
              (subst (Contains (place ∷ places_of (grants_in h rest))) it_is (Contains-head place (places_of (grants_in h rest)))))
          | inr none ↦ absurd (Contains-nil p none)
        ]
        | inr had ↦ inr had
      ]

      back : (p : ℕ) → grants_in h (e ∷ rest) ≡ grant place it.0 it.1 ∷ grants_in h rest → Contains (places_of (grants_in h (e ∷ rest))) p ⊎ Has woken p
          → Contains (places_of (grants_in h rest)) p ⊎ Has now_woken p
      back p same (inl there) = elim (Contains-cases place (places_of (grants_in h rest)) p (subst (λ gs. Contains (places_of gs) p) same there)) [
        | inl it_is ↦ inr ((wakes p).1 (inl (subst (Contains (place ∷ [])) it_is (Contains-head place []))))
        | inr later ↦ inl later
      ]
      back p same (inr had) = inr ((wakes p).1 (inr had))

-- where none is left
pub paid_view : (h : History) (first : Keeper) (before : List ℕ) (all : List Entry) (now : Keeper) (woken : List ℕ) → IsPaying h first before all now woken []
    → now ≡ record first { view = with_offers first.view (grants_in h all) }
paid_view h first before all now woken is =
    let whole : with_offers now.view [] ≡ now.view =
    ap (λ l. record now.view { out = l; offers = now.view.offers ++ [] }) (append-nil now.view.out)
    ∙ ap (λ l. record now.view { offers = l }) (append-nil now.view.offers) in
    ap (λ v. record now { view = v }) (sym whole ∙ is.offers) ∙ ap (λ b. record { board = b; view = with_offers first.view (grants_in h all) }) is.board

pub paid_woken : (h : History) (first : Keeper) (before : List ℕ) (all : List Entry) (now : Keeper) (woken : List ℕ) → IsPaying h first before all now woken []
    → Wakes (grants_in h all) before woken
paid_woken h first before all now woken is p = (
  λ has. (is.woken p).0 (inr has),
  λ either. elim ((is.woken p).1 either) [
    | inl none ↦ absurd (Contains-nil p none)
    | inr has ↦ has
  ],
)

-- the next entry is the one at its number
pub next_entry : (log : List Entry) (j : ℕ) (e : Entry) → j < length log → get_or log j e ≡ e → drop j log ≡ e ∷ drop (j + 1) log
next_entry log j e low is = drop-cons log j e low ∙ ap (λ x. x ∷ drop (suc j) log) is
    ∙ ap (λ n. e ∷ drop n log) (let next : suc j ≡ j + 1 = omega arith in next)
