use Rattle.std.proofs.Common.{◌≡◌, ◌+◌, ◌++◌, All, vec_len}
use Rattle.relay_workers.specs.Seats.{IsLent, IsUnused}
use Rattle.relay_workers.proofs.lending.split_off.Given as goal

abbrev pub invariant-loop : goal.invariant-loop
invariant-loop g l =
    IsLent l.initial.first l.first (vec_len l.initial.seats) (vec_len l.seats)
    × (l.first.view.split ≡ l.initial.first.view.split + l.counter) × (vec_len l.seats ≡ vec_len l.initial.seats + l.counter)
    × ((more : _) × (l.seats.items ≡ l.initial.seats.items ++ more) × All (λ idle. IsUnused g.N.BoardName.terms idle.seat) more)
    × (l.first.view.takes ≡ l.initial.first.view.takes) × (l.first.view.posts ≡ l.initial.first.view.posts)
