use Rattle.std.proofs.Common.{◌≡◌, ◌+◌, ◌≤◌, length}
use Rattle.std.specs.Str.Lines.{lines}
use Rattle.proxy_config.specs.Resolved.{start}
use Rattle.proxy_config.specs.File.{declared_servers, run, survey}
use Rattle.proxy_config.proofs.OnePass.{coming}
use Rattle.proxy_config.proofs.reading.read_lines.Given as goal

-- what is known and the lines that are left come to what all lines come to, and so do their servers
abbrev pub invariant-lines : goal.invariant-lines
invariant-lines l = record {
  servers : (survey l.long l.progress.draft (l.number + 1) l.lines).servers ≡ declared_servers l.bytes;
  coming : coming (declared_servers l.bytes) l.long l.progress (l.number + 1) l.lines ≡ run (declared_servers l.bytes) l.long start 1 (lines l.bytes);
  count : l.number + length l.lines ≤ length l.bytes;
}

abbrev pub decreases-lines : goal.decreases-lines
decreases-lines l = length l.lines
