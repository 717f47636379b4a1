use Rattle.std.proofs.Common.{rules, ◌≡◌, ◌∙◌, ℕ, List, All, [], ◌∷◌, ◌++◌, false, add_assoc, ap, subst, sym}
use Rattle.std.proofs.lemmas.List.Elements.{All-append, All-cons, All-nil}
use Rattle.grant_board.specs.RelayCalls.{Relay, new_relay, split_after}
use Rattle.grant_board.specs.Views.{Terms}
use Rattle.relay_workers.specs.Seats.{IsUnused}
use Rattle.relay_workers.proofs.member_seat.split_members.Goals as goal

one_more : {A : Type 0} (P : A → Type 0) (them more : List A) (one : A) → more ≡ them ++ one ∷ [] → All P them → P one → All P more
one_more P them more one same all is = subst (All P) (sym same) (All-append P them (one ∷ []) all (All-cons P one [] is (All-nil P)))

pub loop-preserved : goal.loop-preserved
loop-preserved g c =
    let first = c.args.first.now in
    let unused : c.new-in-loop.result.idle.seat.view ≡ new_relay g.N.BoardName.terms false =
    ap (λ idle. idle.seat.view) c.new-in-loop.ensures ∙ ap (λ (seat : Relay). seat.view) (c.new.ensures ∙ c.split.ensures.child)
    ∙ ap (λ (terms : Terms). new_relay terms false) (ap (λ (seat : Relay). seat.view.terms) c.loop.invariant.3 ∙ c.requires.named.1) in (
      search rules,
      search rules,
      one_more (λ seat. IsUnused g.N.BoardName.terms seat.idle.seat) c.loop.seats.items c.push_reserved.new.self.items c.new-in-loop.result
          c.push_reserved.ensures.items c.loop.invariant.2 unused,
      c.split.ensures.parent ∙ ap (λ (it : Relay). record it { view = split_after it.view }) c.loop.invariant.3
          ∙ ap (λ (n : ℕ). record first { view = record first.view { split = n } }) (add_assoc first.view.split c.loop.counter 1),
    )
