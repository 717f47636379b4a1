-- The words of the causes, as traces print them.
use Rattle.std.specs.Prelude.{ℕ, List, codes}
use Rattle.base_verdict.specs.declared.cause.Cause.{Cause}
use Rattle.base_verdict.specs.declared.cause.Cause.TheVariants.{Aborted, Timeout, Retries, NoServer}

-- the word of a cause
abbrev pub word_of : Cause → List ℕ
word_of Aborted = codes "aborted"
word_of Timeout = codes "timeout"
word_of Retries = codes "retries"
word_of NoServer = codes "noserver"
