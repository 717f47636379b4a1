-- Worked examples of windows: two that are readable, and others, each wrong in one way.
use Rattle.std.specs.Prelude.{pos, List, [], ◌∷◌, None, Some}
use Rattle.log_entries.specs.declared.entry.Arrival.{Arrival}
use Rattle.log_entries.specs.declared.entry.Entry.TheVariants.{Arrive, Done, Tick, Joined, Granted}
use Rattle.log_entries.specs.declared.queue.Queue.TheVariants.{Backend, Server}
use Rattle.log_reading.specs.declared.base.BaseRow.{BaseRow}
use Rattle.log_reading.specs.declared.grant.SlotGrant.{SlotGrant}
use Rattle.log_reading.specs.Windows.{Window}

-- ticket 1 arrives at moment 3, and is due at 5
abbrev pub first : Arrival
first = record { ticket = 1; class = pos 0; due = pos 5; pin = None; place = 0 }

abbrev pub granted_once : Window
granted_once = record { base = []; entries = Arrive 3 first ∷ Joined 1 Backend ∷ Done 9 7 ∷ Granted 1 Backend 0 ∷ [] }

-- its only grant
abbrev pub its_grant : SlotGrant
its_grant = record { queue = Backend; class = pos 0; moment = 9; stay = record { ticket = 1; joined = 2; slot = 4; due = pos 5 } }

abbrev pub begins_inside_an_event : Window
begins_inside_an_event = record { base = []; entries = Joined 1 Backend ∷ [] }

abbrev pub moment_falls : Window
moment_falls = record { base = []; entries = Arrive 3 first ∷ Done 2 1 ∷ [] }

abbrev pub joined_another_queue : Window
joined_another_queue = record { base = []; entries = Arrive 3 first ∷ Joined 1 (Server 0) ∷ Granted 1 Backend 0 ∷ [] }

abbrev pub never_arrived : Window
never_arrived = record { base = []; entries = Arrive 3 first ∷ Joined 2 Backend ∷ Granted 2 Backend 0 ∷ [] }

-- ticket 7 waits in the base, is due at 5, and is granted a slot
abbrev pub waits_in_the_base : List BaseRow
waits_in_the_base = record { ticket = 7; class = pos 0; due = pos 5; queue = Some Backend } ∷ []

abbrev pub granted_from_the_base : Window
granted_from_the_base = record { base = waits_in_the_base; entries = Tick 9 ∷ Granted 7 Backend 0 ∷ [] }

-- the ticket joined at position 0
abbrev pub grant_from_the_base : SlotGrant
grant_from_the_base = record { queue = Backend; class = pos 0; moment = 9; stay = record { ticket = 7; joined = 0; slot = 2; due = pos 5 } }

-- the ticket is granted a slot from a queue in which it didn't wait
abbrev pub waited_elsewhere : Window
waited_elsewhere = record { base = waits_in_the_base; entries = Tick 9 ∷ Granted 7 (Server 0) 0 ∷ [] }
