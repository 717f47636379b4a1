use Rattle.std.proofs.Common.{◌≡◌, length}
use Rattle.std.specs.List.{list_any}
use Rattle.std.specs.Str.Lines.{lines}
use Rattle.proxy_words.specs.Text.{words}
use Rattle.view_traces.specs.Kinds.{begins_window}
use Rattle.view_traces.proofs.kind.has_roll.Given as goal

-- no line so far begins one
abbrev pub invariant-lines : goal.invariant-lines
invariant-lines l = list_any (λ line. begins_window (words line)) l.lines ≡ list_any (λ line. begins_window (words line)) (lines l.script)

abbrev pub decreases-lines : goal.decreases-lines
decreases-lines l = length l.lines
