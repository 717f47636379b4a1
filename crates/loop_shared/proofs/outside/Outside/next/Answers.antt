use Rattle.std.proofs.Common.{◌≡◌, ◌∙◌, ℕ, Some, sym, ap}
use Rattle.loop_shared.specs.declared.outside.Standing.{Standing}
use Rattle.locked_book.specs.declared.book.Deferred.{Deferred}
use Rattle.loop_shared.proofs.outside.Outside.next.Goals as goal

pub returns-clause-some : goal.returns-clause-some
returns-clause-some c =
    let asked : Standing → Deferred = λ it. record { class = c.in_ok-key.key.class; due = c.in_ok-key.key.due; pin = it.outsider.pin } in
    record {
      key = c.in_ok-key.key;
      first = sym c.in_ok-key.ensures.first ∙ ap (λ (number : ℕ). Some (c.in_ok-key.key, number)) (sym c.in_ok-token.ensures.index);
      standing = c.in_ok-standing.standing.now;
      stands = c.in_ok-standing.ensures;
      asks = ap asked c.deref.ensures;
    }
