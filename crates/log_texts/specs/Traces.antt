-- The text of a trace. A line feed ends each line.
use Rattle.std.specs.Prelude.{ℕ, Bool, true, false, List, [], ◌++◌, Option, Some, None, slice_index_or, codes}
use Rattle.std.specs.List.{flat_map}
use Rattle.std.specs.Fmt.{decimal, signed_decimal}
use Rattle.log_entries.specs.declared.allowance.Intake.{Intake}
use Rattle.log_entries.specs.declared.allowance.Intake.TheVariants.{Open, Closed}
use Rattle.log_entries.specs.declared.entry.Arrival.{Arrival}
use Rattle.log_entries.specs.declared.entry.Entry.{Entry}
use Rattle.log_entries.specs.declared.entry.Entry.TheVariants.{Arrive, Done, Fail, Abort, Tick, Check, Limit, Direct}
use Rattle.log_entries.specs.declared.entry.Entry.TheVariants.{Joined, Granted, Moved, Freed, Retried, Left, Health, Ended}
use Rattle.log_entries.specs.declared.queue.Queue.{Queue}
use Rattle.log_entries.specs.declared.queue.Queue.TheVariants.{Backend, Server}
use Rattle.log_entries.specs.declared.refusal.Refusal.{Refusal}
use Rattle.log_entries.specs.Refusals.{refusal_number}
use Rattle.base_verdict.specs.Cause.{word_of}

-- the name of the server with a number, among the names in file order
abbrev pub name_of : List (List ℕ) → ℕ → List ℕ
name_of names server = slice_index_or names server []

abbrev pub queue_name : List (List ℕ) → Queue → List ℕ
queue_name names Backend = codes "*"
queue_name names (Server server) = name_of names server

-- the words for a server that is up or passes a check, and for one that is down or fails it
abbrev pub health_word : Bool → List ℕ
health_word true = codes "up"
health_word false = codes "down"

-- the number of requests that a server takes: the most at once, or the word for none
abbrev pub intake_text : Intake → List ℕ
intake_text (Open limit) = decimal limit
intake_text Closed = codes "closed"

-- the name of the server that an arrival is pinned to, after a space
abbrev pub pin_text : List (List ℕ) → Option ℕ → List ℕ
pin_text names None = []
pin_text names (Some server) = codes " " ++ name_of names server

-- an arrival at a moment, with its ticket, class and due date
abbrev pub arrival_text : ℕ → Arrival → List ℕ
arrival_text moment arrival = decimal moment ++ codes " arrive " ++ decimal arrival.ticket ++ codes " " ++ signed_decimal arrival.class ++ codes " " ++
    signed_decimal arrival.due

-- the line of an entry, with the servers' names
abbrev pub entry_text : List (List ℕ) → Entry → List ℕ
entry_text names (Arrive moment arrival) = arrival_text moment arrival ++ (pin_text names arrival.pin ++ codes "\n")
entry_text names (Done moment ticket) = decimal moment ++ codes " done " ++ decimal ticket ++ codes "\n"
entry_text names (Fail moment ticket) = decimal moment ++ codes " fail " ++ decimal ticket ++ codes "\n"
entry_text names (Abort moment ticket) = decimal moment ++ codes " abort " ++ decimal ticket ++ codes "\n"
entry_text names (Tick moment) = decimal moment ++ codes " tick\n"
entry_text names (Check moment server answered) = decimal moment ++ codes " check " ++ name_of names server ++ codes " " ++ health_word answered ++ codes "\n"
entry_text names (Limit moment server limit) = decimal moment ++ codes " limit " ++ name_of names server ++ codes " " ++ intake_text limit ++ codes "\n"
entry_text names (Direct ticket server) = codes "  direct " ++ decimal ticket ++ codes " " ++ name_of names server ++ codes "\n"
entry_text names (Joined ticket queue) = codes "  join " ++ decimal ticket ++ codes " " ++ queue_name names queue ++ codes "\n"
entry_text names (Granted ticket queue server) =
    codes "  grant " ++ decimal ticket ++ codes " " ++ queue_name names queue ++ codes " " ++ name_of names server ++ codes "\n"
entry_text names (Moved ticket server) = codes "  move " ++ decimal ticket ++ codes " " ++ name_of names server ++ codes "\n"
entry_text names (Freed ticket server) = codes "  free " ++ decimal ticket ++ codes " " ++ name_of names server ++ codes "\n"
entry_text names (Retried ticket server failures) =
    codes "  retry " ++ decimal ticket ++ codes " " ++ name_of names server ++ codes " " ++ decimal failures ++ codes "\n"
entry_text names (Left ticket cause) = codes "  left " ++ decimal ticket ++ codes " " ++ word_of cause ++ codes "\n"
entry_text names (Health server up) = codes "  health " ++ name_of names server ++ codes " " ++ health_word up ++ codes "\n"
entry_text names (Ended ticket) = codes "  end " ++ decimal ticket ++ codes "\n"

abbrev pub entries_text : List (List ℕ) → List Entry → List ℕ
entries_text names entries = flat_map (entry_text names) entries

-- the line of an event that was refused
abbrev pub refusal_text : Refusal → List ℕ
refusal_text refusal = codes "refused " ++ decimal (refusal_number refusal) ++ codes "\n"
