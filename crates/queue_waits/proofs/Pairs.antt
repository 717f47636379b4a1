-- The pairs of those that wait in a queue.
use Rattle.std.proofs.Common.{◌≡◌, ℕ, zero, suc, ◌+◌, ◌<◌, [], ◌∷◌, ◌++◌, take, Option, length, ap, sym, ◌∙◌, append_assoc, append-nil, arith}
use Rattle.std.proofs.Math.ListN.{get_or}
use Rattle.log_entries.specs.declared.queue.Queue.{Queue}
use Rattle.queue_waits.specs.declared.waiters.Waiter.{Waiter}
use Rattle.queue_waits.specs.InQueues.{pair_in, pairs_in}
use Rattle.queue_waits.specs.Lines.{Line}
use Rattle.queue_waits.specs.Waitlists.{Waiters}

-- those of the first places and of one more
pub pairs_more : (queue : Queue) (at : ℕ) (ws : Waiters) (p : ℕ) (cell : Option Waiter) → p < length ws → cell ≡ get_or ws p cell
    → pairs_in queue at (take (suc p) ws) ≡ pairs_in queue at (take p ws) ++ pair_in queue (at + p) cell
pairs_more queue at [] p cell within stands = absurd (omega (arith, within))
pairs_more queue at (w ∷ ws) zero cell within stands =
    let here : at + zero ≡ at = omega arith in
    append-nil (pair_in queue at w) ∙ ap (pair_in queue at) (sym stands) ∙ ap (λ n. pair_in queue n cell) (sym here)
pairs_more queue at (w ∷ ws) (suc p) cell within stands =
    let place : suc at + p ≡ at + suc p = omega arith in
    ap (λ (l : Line). pair_in queue at w ++ l)
    (pairs_more queue (suc at) ws p cell (omega arith) stands ∙ ap (λ n. pairs_in queue (suc at) (take p ws) ++ pair_in queue n cell) place)
    ∙ sym (append_assoc (pair_in queue at w) (pairs_in queue (suc at) (take p ws)) (pair_in queue (at + suc p) cell))
