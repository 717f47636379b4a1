use Rattle.std.proofs.Common.{◌≡◌, ◌++◌, take, string_bytes}
use Rattle.log_texts.specs.Traces.{entries_text}
use Rattle.log_texts.proofs.trace.push_entries.Given as goal

-- the lines of the entries so far stand at the end
abbrev pub invariant-loop-entry : goal.invariant-loop-entry
invariant-loop-entry l = string_bytes l.text ≡ string_bytes l.initial.text ++ entries_text l.names (take l.entry-index l.entries)
