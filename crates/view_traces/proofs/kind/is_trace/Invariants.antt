use Rattle.std.proofs.Common.{◌≡◌, filter_map, length, slice_get}
use Rattle.std.specs.Str.Lines.{lines}
use Rattle.proxy_words.specs.Text.{words}
use Rattle.view_traces.specs.Kinds.{tells}
use Rattle.view_traces.proofs.kind.is_trace.Given as goal

-- no line so far tells it
abbrev pub invariant-lines : goal.invariant-lines
invariant-lines l = slice_get (filter_map (λ line. tells (words line)) l.lines) 0 ≡ slice_get (filter_map (λ line. tells (words line)) (lines l.text)) 0

abbrev pub decreases-lines : goal.decreases-lines
decreases-lines l = length l.lines
