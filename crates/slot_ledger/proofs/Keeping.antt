-- A ledger's places stay kept when one of them is written.
use Rattle.std.proofs.Common.{◌≡◌, ◌≢◌, ℕ, ◌+◌, ◌<◌, List, [], ◌∷◌, ◌++◌, Option, None, Some, is_some}
use Rattle.std.proofs.Common.{length, count_by, slice_get, Contains, refl, ap, sym, ◌∙◌, subst, arith, ◌⊎◌, inl, inr, length-append}
use Rattle.std.proofs.Math.ListN.{set, length-set}
use Rattle.std.proofs.lemmas.Option.{same_Some, slice_get_within}
use Rattle.std.proofs.lemmas.List.Elements.{All-contains, Contains-append_left, Contains-append_right}
use Rattle.std.proofs.lemmas.List.Elements.{Contains-append_cases, Contains-push, Contains-push_cases}
use Rattle.base_lists.proofs.Members.{Contains-one}
use Rattle.base_lists.proofs.Places.{get-set_same, get-set_other, get-set_cases, count-set, same_or_other}
use Rattle.base_lists.proofs.Pushed.{get-push_cases, get-push_old, get-push_new}
use Rattle.base_lists.proofs.Never.{none_some}
use Rattle.slot_ledger.specs.declared.places.Cell.{Cell}
use Rattle.slot_ledger.specs.Places.{PlacesAreKept}
use Rattle.slot_ledger.specs.Cells.{StandsIn, HasTicketAt, AreBelow}
use Rattle.slot_ledger.specs.Tickets.{Indexed, Removes}

-- what is in a list from which a ticket's pair was taken
module _ (ticket : ℕ) (old new : List (ℕ × ℕ)) where
  pub removed_old : (x : ℕ × ℕ) → Removes ticket old new → Contains new x → Contains old x
  removed_old x is among =
      subst (λ (l : List (ℕ × ℕ)). Contains l x) (sym is.before)
      (elim (Contains-append_cases is.front is.back x (subst (λ (l : List (ℕ × ℕ)). Contains l x) is.after among)) [
        | inl first ↦ Contains-append_left is.front ((ticket, is.place) ∷ is.back) x first
        | inr second ↦ Contains-append_right is.front ((ticket, is.place) ∷ is.back) x (Contains-append_right ((ticket, is.place) ∷ []) is.back x second)
      ])

  pub removed_other : (x : ℕ × ℕ) → Removes ticket old new → Contains old x → x.0 ≢ ticket → Contains new x
  removed_other x is among other =
      subst (λ (l : List (ℕ × ℕ)). Contains l x) (sym is.after)
      (elim (Contains-append_cases is.front ((ticket, is.place) ∷ is.back) x (subst (λ (l : List (ℕ × ℕ)). Contains l x) is.before among)) [
        | inl first ↦ Contains-append_left is.front is.back x first
        | inr second ↦ elim (Contains-append_cases ((ticket, is.place) ∷ []) is.back x second) [
          | inl own ↦ absurd (other (sym (ap (λ (y : ℕ × ℕ). y.0) (Contains-one (ticket, is.place) x own))))
          | inr later ↦ Contains-append_right is.front is.back x later
        ]
      ])

  pub removed_length : Removes ticket old new → length new + 1 ≡ length old
  removed_length is =
      let before : length old ≡ length is.front + length ((ticket, is.place) ∷ is.back) = ap length is.before
      ∙ length-append is.front ((ticket, is.place) ∷ is.back) in
      let after : length new ≡ length is.front + length is.back = ap length is.after ∙ length-append is.front is.back in
      omega arith

module _ {H : Type 0} where
  free_not_taken : {P : Type 0} (cells : List (Option (Cell H))) (p : ℕ) (s : Cell H) → slice_get cells p ≡ Some None → StandsIn cells p s → P
  free_not_taken cells p s free stands = let e : Some None ≡ Some (Some s) = sym free ∙ stands in none_some (same_Some None (Some s) e)

  -- while a row stands somewhere, the list of free places has room for its place
  pub vacant_room : (cells : List (Option (Cell H))) (vacant : List ℕ) (capacity : ℕ) (index : Indexed) (p : ℕ) (s : Cell H)
      → PlacesAreKept cells vacant capacity index → StandsIn cells p s → length vacant < capacity
  vacant_room cells vacant capacity index p s is stands =
      let count : count_by is_some (set cells p None) + 1 ≡ count_by is_some cells + 0 = count-set is_some cells p (Some s) None stands in
      let all = is.all in
      let room = is.room in
      omega arith

  -- another row under the same ticket
  pub kept_change : (cells : List (Option (Cell H))) (vacant : List ℕ) (capacity : ℕ) (index : Indexed) (p : ℕ) (s t : Cell H)
      → PlacesAreKept cells vacant capacity index → StandsIn cells p s → t.row.key.ticket ≡ s.row.key.ticket → PlacesAreKept (set cells p (Some t)) vacant capacity index
  kept_change cells vacant capacity index p s t is stands same = record {
    free = λ at q e. elsewhere q (is.free at q e);
    once = is.once;
    all =
        let count : count_by is_some (set cells p (Some t)) + 1 ≡ count_by is_some cells + 1 = count-set is_some cells p (Some s) (Some t) stands in
        let len = length-set cells p (Some t) in
        let all = is.all in
        omega arith;
    room = let len = length-set cells p (Some t) in let room = is.room in omega arith;
    indexed = λ ticket q among. moved ticket q (is.indexed ticket q among);
    complete = λ q u there.
        elim (get-set_cases cells p q (Some s) (Some t) (Some u) stands there) [
          | inl e ↦ let tu : t ≡ u = same_Some t u e.1 in
              subst (λ n. Contains index.pairs (n, q)) (sym same
              ∙ ap (λ (x : Cell H). x.row.key.ticket) tu) (subst (λ n. Contains index.pairs (s.row.key.ticket, n)) (sym e.0) (is.complete p s stands))
          | inr e ↦ is.complete q u e.1
        ];
    own = λ q r u v a b e.
        let x = before q u a in
        let y = before r v b in
        is.own q r x.0 y.0 x.1 y.1 (x.2 ∙ e ∙ sym y.2);
    counted =
        let count : count_by is_some (set cells p (Some t)) + 1 ≡ count_by is_some cells + 1 = count-set is_some cells p (Some s) (Some t) stands in
        let counted = is.counted in
        omega arith;
    index_room = let len = length-set cells p (Some t) in let room = is.index_room in omega arith;
  }
    where
      elsewhere : (q : ℕ) → slice_get cells q ≡ Some None → slice_get (set cells p (Some t)) q ≡ Some None
      elsewhere q free = get-set_other cells p q (Some t) (λ e. free_not_taken cells p s (subst (λ n. slice_get cells n ≡ Some None) e free) stands) ∙ free

      before : (q : ℕ) (u : Cell H) → StandsIn (set cells p (Some t)) q u → (w : Cell H) × StandsIn cells q w × (w.row.key.ticket ≡ u.row.key.ticket)
      before q u there =
          elim (get-set_cases cells p q (Some s) (Some t) (Some u) stands there) [
            | inl e ↦ (s, subst (λ n. StandsIn cells n s) (sym e.0) stands, sym same ∙ ap (λ (x : Cell H). x.row.key.ticket) (same_Some t u e.1))
            | inr e ↦ (u, e.1, refl)
          ]

      moved : (ticket q : ℕ) → HasTicketAt ticket cells q → HasTicketAt ticket (set cells p (Some t)) q
      moved ticket q has =
          elim (same_or_other q p) [
            | inl e ↦
                let own : has.0 ≡ s = same_Some has.0 s (same_Some (Some has.0) (Some s) (sym (subst (λ n. StandsIn cells n has.0) e has.1) ∙ stands)) in (
                  t,
                  subst (λ n. StandsIn (set cells p (Some t)) n t) (sym e) (get-set_same cells p (Some s) (Some t) stands),
                  same
                      ∙ ap (λ (x : Cell H). x.row.key.ticket) (sym own) ∙ has.2,
                )
            | inr e ↦ (has.0, get-set_other cells p q (Some t) e ∙ has.1, has.2)
          ]

  -- a new row, under the highest ticket, at the free place that was the last of the list
  pub kept_admit : (cells : List (Option (Cell H))) (vacant rest : List ℕ) (capacity now : ℕ) (index new : Indexed) (p : ℕ) (t : Cell H)
      → PlacesAreKept cells vacant capacity index → vacant ≡ rest ++ p ∷ [] → now ≡ capacity → AreBelow t.row.key.ticket cells
      → new.pairs ≡ index.pairs ++ (t.row.key.ticket, p) ∷ [] → new.room ≡ index.room
      → PlacesAreKept (set cells p (Some t)) rest now new
  kept_admit cells vacant rest capacity now index new p t is parts kept below pushed room = record {
    free = λ at q e. get-set_other cells p q (Some t) (not_mine at q e) ∙ is.free at q (old at q e);
    once = λ at other q a b. is.once at other q (old at q a) (old other q b);
    all =
        let count : count_by is_some (set cells p (Some t)) + 0 ≡ count_by is_some cells + 1 = count-set is_some cells p None (Some t) free in
        let len = length-set cells p (Some t) in
        let all = is.all in
        let more : length vacant ≡ length rest + 1 = ap length parts ∙ length-append rest (p ∷ []) in
        omega arith;
    room = let len = length-set cells p (Some t) in let r = is.room in omega arith;
    indexed = λ ticket q among.
        elim (Contains-push_cases index.pairs (t.row.key.ticket, p) (ticket, q) (subst (λ (l : List (ℕ × ℕ)). Contains l (ticket, q)) pushed among)) [
          | inl e ↦
              let has = is.indexed ticket q e in (
                has.0,
                get-set_other cells p q (Some t) (λ same. free_not_taken cells q has.0 (subst (λ n. slice_get cells n ≡ Some None) (sym same) free) has.1)
                    ∙ has.1,
                has.2,
              )
          | inr e ↦
              let at : p ≡ q = ap (λ (x : ℕ × ℕ). x.1) e in
              let own : t.row.key.ticket ≡ ticket = ap (λ (x : ℕ × ℕ). x.0) e in
              (t, subst (λ n. StandsIn (set cells p (Some t)) n t) at (get-set_same cells p None (Some t) free), own)
        ];
    complete = λ q u there.
        elim (get-set_cases cells p q None (Some t) (Some u) free there) [
          | inl e ↦ subst (λ (x : Cell H). Contains new.pairs (x.row.key.ticket, q)) (same_Some t u e.1)
              (subst (λ n. Contains new.pairs (t.row.key.ticket, n)) (sym e.0) mine)
          | inr e ↦ subst (λ (l : List (ℕ × ℕ)). Contains l (u.row.key.ticket, q)) (sym pushed)
              (Contains-append_left index.pairs ((t.row.key.ticket, p) ∷ []) (u.row.key.ticket, q) (is.complete q u e.1))
        ];
    own = λ q r u v a b e.
        elim (get-set_cases cells p q None (Some t) (Some u) free a) [
          | inl x ↦ elim (get-set_cases cells p r None (Some t) (Some v) free b) [
            | inl y ↦ x.0 ∙ sym y.0
            | inr y ↦ absurd (older r v y.1 (ap (λ (w : Cell H). w.row.key.ticket) (same_Some t u x.1) ∙ e))
          ]
          | inr x ↦ elim (get-set_cases cells p r None (Some t) (Some v) free b) [
            | inl y ↦ absurd (older q u x.1 (ap (λ (w : Cell H). w.row.key.ticket) (same_Some t v y.1) ∙ sym e))
            | inr y ↦ is.own q r u v x.1 y.1 e
          ]
        ];
    counted =
        let count : count_by is_some (set cells p (Some t)) + 0 ≡ count_by is_some cells + 1 = count-set is_some cells p None (Some t) free in
        let counted = is.counted in
        let longer : length new.pairs ≡ length index.pairs + 1 = ap length pushed ∙ length-append index.pairs ((t.row.key.ticket, p) ∷ []) in
        omega arith;
    index_room = let len = length-set cells p (Some t) in let r = is.index_room in omega arith;
  }
    where
      old : (at q : ℕ) → slice_get rest at ≡ Some q → slice_get vacant at ≡ Some q
      old at q e = ap (λ (l : List ℕ). slice_get l at) parts ∙ get-push_old rest p at q e

      last : slice_get vacant (length rest) ≡ Some p
      last = ap (λ (l : List ℕ). slice_get l (length rest)) parts ∙ get-push_new rest p

      free : slice_get cells p ≡ Some None
      free = is.free (length rest) p last

      not_mine : (at q : ℕ) → slice_get rest at ≡ Some q → q ≢ p
      not_mine at q e same =
          let within : at < length rest = slice_get_within rest at q e in
          let at_end : at ≡ length rest = is.once at (length rest) p (subst (λ n. slice_get vacant at ≡ Some n) same (old at q e)) last in
          absurd (omega arith)

      mine : Contains new.pairs (t.row.key.ticket, p)
      mine = subst (λ (l : List (ℕ × ℕ)). Contains l (t.row.key.ticket, p)) (sym pushed) (Contains-push index.pairs (t.row.key.ticket, p))

      older : (k : ℕ) (u : Cell H) → StandsIn cells k u → t.row.key.ticket ≢ u.row.key.ticket
      older k u there e = let h : u.row.key.ticket < t.row.key.ticket = below k u there in absurd (omega arith)

  -- a row goes, and its place is free again
  pub kept_end : (cells : List (Option (Cell H))) (vacant more : List ℕ) (capacity now : ℕ) (index new : Indexed) (p : ℕ) (s : Cell H)
      → PlacesAreKept cells vacant capacity index → StandsIn cells p s → more ≡ vacant ++ p ∷ [] → now ≡ capacity
      → Removes s.row.key.ticket index.pairs new.pairs → new.room ≡ index.room
      → PlacesAreKept (set cells p None) more now new
  kept_end cells vacant more capacity now index new p s is stands parts kept removed room = record {
    free = λ at q e.
        elim (cases at q e) [
          | inl a ↦ get-set_other cells p q None (λ same. free_not_taken cells p s (subst (λ n. slice_get cells n ≡ Some None) same (is.free at q a)) stands)
              ∙ is.free at q a
          | inr a ↦ subst (λ n. slice_get (set cells p None) n ≡ Some None) a.1 (get-set_same cells p (Some s) None stands)
        ];
    once = λ at other q a b.
        elim (cases at q a) [
          | inl x ↦ elim (cases other q b) [
            | inl y ↦ is.once at other q x y
            | inr y ↦ absurd (taken at q x y.1)
          ]
          | inr x ↦ elim (cases other q b) [
            | inl y ↦ absurd (taken other q y x.1)
            | inr y ↦ x.0 ∙ sym y.0
          ]
        ];
    all =
        let count : count_by is_some (set cells p None) + 1 ≡ count_by is_some cells + 0 = count-set is_some cells p (Some s) None stands in
        let len = length-set cells p None in
        let all = is.all in
        let longer : length more ≡ length vacant + 1 = ap length parts ∙ length-append vacant (p ∷ []) in
        omega arith;
    room = let len = length-set cells p None in let r = is.room in omega arith;
    indexed = λ ticket q among.
        let has = is.indexed ticket q (removed_old s.row.key.ticket index.pairs new.pairs (ticket, q) removed among) in
        let other : ticket ≢ s.row.key.ticket = All-contains (λ pair. pair.0 ≢ s.row.key.ticket) new.pairs (ticket, q) removed.gone among in (
          has.0,
          get-set_other cells p q None (λ same. other (sym has.2
              ∙ ap (λ (x : Cell H). x.row.key.ticket) (same_Some has.0 s
              (same_Some (Some has.0) (Some s) (sym (subst (λ n. StandsIn cells n has.0) same has.1) ∙ stands))))) ∙ has.1,
          has.2,
        );
    complete = λ q u there.
        elim (get-set_cases cells p q (Some s) None (Some u) stands there) [
          | inl e ↦ none_some e.1
          | inr e ↦ removed_other s.row.key.ticket index.pairs new.pairs (u.row.key.ticket, q) removed (is.complete q u e.1)
              (λ same. e.0 (is.own q p u s e.1 stands same))
        ];
    own = λ q r u v a b e. is.own q r u v (there q u a) (there r v b) e;
    counted =
        let count : count_by is_some (set cells p None) + 1 ≡ count_by is_some cells + 0 = count-set is_some cells p (Some s) None stands in
        let counted = is.counted in
        let fewer = removed_length s.row.key.ticket index.pairs new.pairs removed in
        omega arith;
    index_room = let len = length-set cells p None in let r = is.index_room in omega arith;
  }
    where
      cases : (at q : ℕ) → slice_get more at ≡ Some q → (slice_get vacant at ≡ Some q) ⊎ ((at ≡ length vacant) × (p ≡ q))
      cases at q e = get-push_cases vacant p at q (ap (λ (l : List ℕ). slice_get l at) (sym parts) ∙ e)

      taken : (at q : ℕ) → slice_get vacant at ≡ Some q → p ≡ q → ⊥
      taken at q e same = free_not_taken cells p s (subst (λ n. slice_get cells n ≡ Some None) (sym same) (is.free at q e)) stands

      there : (q : ℕ) (u : Cell H) → StandsIn (set cells p None) q u → StandsIn cells q u
      there q u a = elim (get-set_cases cells p q (Some s) None (Some u) stands a) [ inl e ↦ none_some e.1 | inr e ↦ e.1 ]
