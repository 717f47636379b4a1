use Rattle.std.proofs.Common.{◌≡◌, ◌++◌, take, string_bytes}
use Rattle.run_windows.specs.Texts.{servers_text}
use Rattle.run_windows.proofs.text.push_servers.Given as goal

-- the lines of the servers so far stand at the end
abbrev pub invariant-loop-number : goal.invariant-loop-number
invariant-loop-number l = string_bytes l.text ≡ string_bytes l.initial.text ++ servers_text l.names 0 (take l.number l.lines)
