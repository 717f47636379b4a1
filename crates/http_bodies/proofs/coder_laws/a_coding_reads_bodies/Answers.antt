use Rattle.http_bodies.proofs.Meanings.{sent, whole, done, bad, early}
use Rattle.http_bodies.proofs.coder_laws.a_coding_reads_bodies.Goals as goal

pub returns-clause-sent : goal.returns-clause-sent
returns-clause-sent c = sent

pub returns-clause-whole : goal.returns-clause-whole
returns-clause-whole c = whole

pub returns-clause-done : goal.returns-clause-done
returns-clause-done c = done

pub returns-clause-bad : goal.returns-clause-bad
returns-clause-bad c = bad

pub returns-clause-early : goal.returns-clause-early
returns-clause-early c = early
