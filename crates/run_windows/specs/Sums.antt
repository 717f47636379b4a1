-- The sums of servers' requests over several windows.
use Rattle.std.specs.Prelude.{ℕ, ◌+◌, ◌-◌, ◌^◌, min, true, List, ◌∷◌, replicate}
use Rattle.dispatch_reports.specs.declared.lines.ServerLine.{ServerLine}

-- the sums over no window, for this many servers
abbrev pub nothing_for : ℕ → List ServerLine
nothing_for servers = replicate servers (record { up = true; direct = 0; granted = 0 })

-- a sum that saturates at its greatest value
abbrev pub plus : ℕ → ℕ → ℕ
plus a b = min (a + b) (2 ^ 64 - 1)

-- a server's sum with one more line of it
abbrev pub with_line : ServerLine → ServerLine → ServerLine
with_line line sum = record { up = line.up; direct = plus sum.direct line.direct; granted = plus sum.granted line.granted }

-- the servers' sums with one more window of these lines, one for each server
unfoldable pub with_window : List ServerLine → List ServerLine → List ServerLine
with_window (line ∷ lines) (sum ∷ sums) = with_line line sum ∷ with_window lines sums
with_window lines sums = sums
