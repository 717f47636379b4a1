-- Requests that weren't served, and what was left uncounted.
use Rattle.std.specs.Prelude.{ℕ, ◌+◌, ◌^◌, min}
use Rattle.base_verdict.specs.declared.cause.Cause.{Cause}
use Rattle.base_verdict.specs.declared.cause.Cause.TheVariants.{Aborted, Timeout, Retries, NoServer}
use Rattle.log_lines.specs.Counts.{one_more}
use Rattle.log_lines.specs.Lateness.{capped}
use Rattle.log_lines.specs.declared.totals.Refused.{Refused}
use Rattle.log_lines.specs.declared.totals.Lost.{Lost}

-- the counts with one more request that left for a cause
abbrev pub with_cause : Cause → Refused → Refused
with_cause Aborted refused = record refused { aborted = one_more refused.aborted }
with_cause Timeout refused = record refused { timeout = one_more refused.timeout }
with_cause Retries refused = record refused { retries = one_more refused.retries }
with_cause NoServer refused = record refused { no_server = one_more refused.no_server }

abbrev pub nothing_lost : Lost
nothing_lost = record { lines = 0; events = 0; exchanges = 0; entries = 0; gaps = 0 }

-- the sum of both
abbrev pub both_lost : Lost → Lost → Lost
both_lost one other = record {
  lines = capped (one.lines + other.lines);
  events = capped (one.events + other.events);
  exchanges = capped (one.exchanges + other.exchanges);
  entries = capped (one.entries + other.entries);
  gaps = capped (one.gaps + other.gaps);
}
