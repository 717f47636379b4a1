-- The order of keys is a total one, in which only equal keys tie.
use Rattle.std.proofs.Common.{◌≡◌, ℕ, ap, Equal}
use Rattle.std.specs.Cmp.{IsTotalOrder}
use Rattle.std.specs.Ordering.{nat_cmp, int_cmp, ordering_then}
use Rattle.std.specs.Prelude.{ℤ}
use Rattle.std.proofs.lemmas.Cmp.{then_total, on_total, int_cmp_total, nat_cmp_total}
use Rattle.std.proofs.lemmas.Map.Lookups.{exact_pairs, exact_signed, exact_unsigned}
use Rattle.due_key.specs.declared.key.Key.{Key}
use Rattle.due_key.specs.Order.{key_cmp}

-- a total order by class, by due date and by ticket in turn
pub key_cmp_total : IsTotalOrder key_cmp
key_cmp_total =
    then_total (on_total (λ (key : Key). key.class) int_cmp_total)
    (then_total (on_total (λ (key : Key). key.due) int_cmp_total) (on_total (λ (key : Key). key.ticket) nat_cmp_total))

-- keys that tie are one
pub key_cmp_exact : (a b : Key) → key_cmp a b ≡ Equal → a ≡ b
key_cmp_exact a b tied =
    ap (λ (p : ℤ × (ℤ × ℕ)). record { class = p.0; due = p.1.0; ticket = p.1.1 })
    (exact_pairs {A = ℤ} {B = ℤ × ℕ} int_cmp (λ x y. ordering_then (int_cmp x.0 y.0) (nat_cmp x.1 y.1)) exact_signed
    (exact_pairs int_cmp nat_cmp exact_signed exact_unsigned) (a.class, (a.due, a.ticket)) (b.class, (b.due, b.ticket)) tied)
