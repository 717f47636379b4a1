-- When requests arrived and when they got their slots.
use Rattle.std.specs.Prelude.{List, Option, None}
use Rattle.std.specs.Option.{option_map}
use Rattle.log_entries.specs.declared.entry.Entry.{Entry}
use Rattle.log_reading.specs.Grants.{moment_at}
use Rattle.log_stretches.specs.declared.stretch.Stretch.{Stretch}
use Rattle.log_stretches.specs.declared.stretch.Lane.{Lane}
use Rattle.log_stretches.specs.declared.stretch.Lane.TheVariants.{Queue, Server}
use Rattle.log_stretches.specs.Courses.{came_in}
use Rattle.log_stretches.specs.declared.services.Served.{Served}

-- the service of this stretch, where it is one and its request arrived
abbrev pub service_at : List Entry → Stretch → Lane → Option Served
service_at log stretch (Queue queue) = None
service_at log stretch (Server server) = option_map (λ came. record {
  ticket = stretch.ticket;
  class = came.arrival.class;
  due = came.arrival.due;
  came = came.moment;
  slot_moment = moment_at log stretch.from;
  server = server;
}) (came_in log stretch.ticket)

abbrev pub service_in : List Entry → Stretch → Option Served
service_in log stretch = service_at log stretch stretch.lane
