-- What the poll tells of a socket.
use Rattle.std.specs.Prelude.{Bool, ◌||◌}
use Rattle.mio.specs.declared.event.event.Event.{Event}
use Rattle.mio.specs.Event.{is_readable, is_writable, is_error, is_read_closed, is_write_closed}
use Rattle.loop_events.specs.declared.serving.SocketEvents.{SocketEvents}

-- the connection failed, or the other end takes no more
abbrev pub is_broken : Event → Bool
is_broken event = is_error event || is_write_closed event

-- what is broken may be read and written, and what the other end has closed may be read, so that the loop finds the end
abbrev pub socket_events : Event → SocketEvents
socket_events event = record {
  reads = is_broken event || is_read_closed event || is_readable event;
  writes = is_broken event || is_writable event;
  closed = is_read_closed event;
  broken = is_broken event;
}
