use Rattle.std.proofs.Common.{◌≡◌, ◌+◌, ◌<◌, ◌≤◌, ℕ, slice_index}
use Rattle.grant_board.proofs.tally.Tally.merge.Given as goal

-- the servers below the counter are added, and the others aren't yet
abbrev pub invariant-loop-server : goal.invariant-loop-server
invariant-loop-server l =
    (l.self.all ≡ l.initial.self.all)
    × ((n : ℕ) → n < l.server → slice_index l.self.of_server n ≡ slice_index l.fn.self.of_server n + slice_index l.other.of_server n)
    × ((n : ℕ) → l.server ≤ n → slice_index l.self.of_server n ≡ slice_index l.fn.self.of_server n)
