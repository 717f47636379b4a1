-- The stays and services of the requests of a log. Positions count its entries from 1.
use Rattle.std.specs.Prelude.{ℕ, ◌+◌, ◌==◌, List, [], ◌∷◌, ◌++◌, Option, None, Some, if◌then◌else◌}
use Rattle.std.specs.Option.{option_map_or}
use Rattle.log_entries.specs.declared.entry.Entry.{Entry}
use Rattle.log_entries.specs.declared.entry.Entry.TheVariants.{Direct, Joined, Granted, Moved, Freed, Left}
use Rattle.log_entries.specs.declared.queue.Queue.TheVariants.{Backend}
use Rattle.log_stretches.specs.declared.stretch.Lane.TheVariants.{Queue, Server}
use Rattle.log_stretches.specs.declared.stretch.Placing.{Placing}
use Rattle.log_stretches.specs.declared.stretch.Stretch.{Stretch}

-- the place that an entry gives a request: a queue, a slot of a server, or neither any more
abbrev pub placing_in : Entry → Option Placing
placing_in (Direct ticket server) = Some (record { ticket = ticket; lane = Some (Server server) })
placing_in (Joined ticket queue) = Some (record { ticket = ticket; lane = Some (Queue queue) })
placing_in (Granted ticket queue server) = Some (record { ticket = ticket; lane = Some (Server server) })
placing_in (Moved ticket server) = Some (record { ticket = ticket; lane = Some (Queue Backend) })
placing_in (Freed ticket server) = Some (record { ticket = ticket; lane = None })
placing_in (Left ticket cause) = Some (record { ticket = ticket; lane = None })
placing_in entry = None

-- the first position at which an entry places a ticket, among entries that follow `count` others;
-- none where no entry does
abbrev pub placed_after : ℕ → List Entry → ℕ → Option ℕ
placed_after count [] ticket = None
placed_after count (entry ∷ entries) ticket =
    option_map_or (λ placing. if placing.ticket == ticket then Some (count + 1) else placed_after (count + 1) entries ticket) (placing_in entry)
    (placed_after (count + 1) entries ticket)

-- the stretch from a placing in a lane to another position
abbrev pub stretch_to : ℕ → Placing → Option ℕ → List Stretch
stretch_to at placing to = option_map_or (λ lane. record { ticket = placing.ticket; lane = lane; from = at; to = to } ∷ []) placing.lane []

-- the stretches of entries that follow `count` others: from each entry that places a ticket in a
-- lane to the next one that places it
abbrev pub stretches_after : ℕ → List Entry → List Stretch
stretches_after count [] = []
stretches_after count (entry ∷ entries) =
    option_map_or (λ placing. stretch_to (count + 1) placing (placed_after (count + 1) entries placing.ticket)) (placing_in entry) []
    ++ stretches_after (count + 1) entries

-- the stretches of a log: a stay or a service for each entry that begins one, in order
abbrev pub stretches_of : List Entry → List Stretch
stretches_of entries = stretches_after 0 entries
