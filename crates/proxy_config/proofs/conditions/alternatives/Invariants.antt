use Rattle.std.proofs.Common.{◌≡◌, true, length}
use Rattle.proxy_config.specs.Conditions.{alternatives}
use Rattle.proxy_config.proofs.Alternatives.{continued, joined}
use Rattle.proxy_config.proofs.conditions.alternatives.Given as goal

abbrev pub invariant-terms : goal.invariant-terms
invariant-terms l = joined l.alternatives l.terms (continued l.acls l.terms l.words) ≡ alternatives (length l.fn.words) l.acls true l.fn.words

abbrev pub decreases-terms : goal.decreases-terms
decreases-terms l = length l.words
