use Rattle.std.proofs.Common.{◌≡◌, ◌≤◌, ◌+◌, All, vec_len, vec_capacity}
use Rattle.relay_workers.specs.Seats.{IsUnused}
use Rattle.relay_workers.proofs.member_seat.split_members.Given as goal

-- a seat for each round so far
abbrev pub invariant-loop : goal.invariant-loop
invariant-loop g l =
    (vec_len l.seats ≡ l.counter) × (l.count ≤ vec_capacity l.seats)
    × All (λ seat. IsUnused g.N.BoardName.terms seat.idle.seat) l.seats.items
    × (l.first ≡ record l.initial.first { view = record l.initial.first.view { split = l.initial.first.view.split + l.counter } })
