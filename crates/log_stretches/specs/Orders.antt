-- Whether requests that wait together get their slots in the order of their keys.
use Rattle.std.specs.Prelude.{◌≡◌, ◌<◌, List, Option, None, All}
use Rattle.std.specs.Option.{option_map, option_and_then}
use Rattle.log_entries.specs.declared.entry.Entry.{Entry}
use Rattle.log_entries.specs.States.{key_of}
use Rattle.due_key.specs.Order.{ComesBefore}
use Rattle.log_stretches.specs.declared.stretch.Stretch.{Stretch}
use Rattle.log_stretches.specs.declared.stretch.Lane.{Lane}
use Rattle.log_stretches.specs.declared.stretch.Lane.TheVariants.{Queue, Server}
use Rattle.log_stretches.specs.Courses.{came_in}
use Rattle.log_stretches.specs.declared.order.Stayed.{Stayed}

-- the stay of a request in a queue, where the request arrived and the stay is over
abbrev pub stay_at : List Entry → Stretch → Lane → Option Stayed
stay_at log stretch (Server server) = None
stay_at log stretch (Queue queue) = option_and_then (λ came. option_map (λ left. record {
  key = key_of came.arrival;
  queue = queue;
  joined = stretch.from;
  left = left;
}) stretch.to) (came_in log stretch.ticket)

abbrev pub stay_in : List Entry → Stretch → Option Stayed
stay_in log stretch = stay_at log stretch stretch.lane

-- two waited together: in one queue, and each joined it before the other left
abbrev pub WaitedTogether : Stayed → Stayed → Type 0
WaitedTogether stay other = (stay.queue ≡ other.queue) × (stay.joined < other.left) × (other.joined < stay.left)

-- where two waited together and this one's key is before the other's, it left first
abbrev pub KeepOrder : Stayed → Stayed → Type 0
KeepOrder stay other = WaitedTogether stay other → ComesBefore stay.key other.key → stay.left < other.left

abbrev pub AreInOrder : List Stayed → Type 0
AreInOrder stays = All (λ stay. All (KeepOrder stay) stays) stays
