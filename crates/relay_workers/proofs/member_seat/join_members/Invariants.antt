use Rattle.std.proofs.Common.{◌≡◌, ◌++◌, reverse, vec_len, length}
use Rattle.std.specs.List.{flat_map}
use Rattle.relay_workers.specs.Seats.{IsLent}
use Rattle.relay_workers.proofs.member_seat.join_members.Given as goal

-- with those of the seats that are left to join, the lists of the first seat are the same each time
abbrev pub invariant-loop-seat : goal.invariant-loop-seat
invariant-loop-seat g l =
    IsLent l.initial.first l.first (vec_len l.initial.seats) (vec_len l.seats)
    × (l.first.view.split ≡ l.initial.first.view.split)
    × (l.first.view.takes ++ flat_map (λ seat. seat.idle.seat.view.takes) (reverse l.seats.items)
    ≡ l.initial.first.view.takes ++ flat_map (λ seat. seat.idle.seat.view.takes) (reverse l.initial.seats.items))
    × (l.first.view.posts ++ flat_map (λ seat. seat.idle.seat.view.posts) (reverse l.seats.items)
    ≡ l.initial.first.view.posts ++ flat_map (λ seat. seat.idle.seat.view.posts) (reverse l.initial.seats.items))

abbrev pub decreases-loop-seat : goal.decreases-loop-seat
decreases-loop-seat g l = length l.seats.items
