use Rattle.std.proofs.Common.{◌≡◌, ◌++◌, take, string_bytes}
use Rattle.log_texts.specs.Reports.{tickets_text}
use Rattle.log_texts.proofs.report.push_tickets.Given as goal

-- the tickets so far stand at the end
abbrev pub invariant-loop-stay : goal.invariant-loop-stay
invariant-loop-stay l = string_bytes l.text ≡ string_bytes l.initial.text ++ tickets_text (take l.stay-index l.stays)
