use Rattle.std.proofs.Common.{rules}
use borrow.Author.Rules.{get_or_read}
use Rattle.late_cert.proofs.making.first_latest.Goals as goal

pub loop-i-preserved : goal.loop-i-preserved
loop-i-preserved c = search (rules, get_or_read, c.well_formed, c.loop-i.invariant, c.loop-i.near-i)
