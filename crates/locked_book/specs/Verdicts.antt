-- The verdicts and the endings among a log's entries.
use Rattle.std.specs.Prelude.{ℕ, List, Option, None, Some}
use Rattle.std.specs.List.{filter_map}
use Rattle.base_verdict.specs.declared.Ending.{Ending}
use Rattle.base_verdict.specs.declared.Ending.TheVariants as ending
use Rattle.base_verdict.specs.declared.Verdict.{Verdict}
use Rattle.base_verdict.specs.declared.Verdict.TheVariants as verdict
use Rattle.log_entries.specs.declared.entry.Entry.{Entry}
use Rattle.log_entries.specs.declared.entry.Entry.TheVariants.{Done, Fail, Direct, Granted, Retried, Left}

-- a ticket takes a slot of a server or keeps it for another try, or is told why it isn't served
abbrev pub verdict_in : Entry → Option (ℕ × Verdict)
verdict_in (Direct ticket server) = Some (ticket, verdict.Serve server)
verdict_in (Granted ticket queue server) = Some (ticket, verdict.Serve server)
verdict_in (Retried ticket server failures) = Some (ticket, verdict.Serve server)
verdict_in (Left ticket cause) = Some (ticket, verdict.Told cause)
verdict_in entry = None

-- a ticket's exchange is over, or its connection failed
abbrev pub ending_in : Entry → Option (ℕ × Ending)
ending_in (Done moment ticket) = Some (ticket, ending.Done)
ending_in (Fail moment ticket) = Some (ticket, ending.Failed)
ending_in entry = None

-- the verdicts, and the endings, of a log, in order
abbrev pub verdicts : List Entry → List (ℕ × Verdict)
verdicts log = filter_map verdict_in log

abbrev pub endings : List Entry → List (ℕ × Ending)
endings log = filter_map ending_in log
