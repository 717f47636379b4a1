-- Texts that a pipe puts on their way, and bytes that it holds for later.
use Rattle.std.specs.Prelude.{◌≡◌, ℕ, List, ◌++◌}
use Rattle.base_streams.specs.Streams.{Stream}
use Rattle.http_bodies.specs.Texts.{Emits, Stops, WaitsBehind}
use Rattle.http_bodies.specs.declared.fault.Fault.{Fault}
use Rattle.http_bodies.specs.declared.pipe.Pipe.{Pipe}

-- the text was put after what waited, and nothing was read
pub record Sends (p0 p : Pipe) (w0 w : Stream) (text : List ℕ) : Type 0 where
  pub emits : Emits w0 w p0.turns p.turns p0.outbox p.outbox text
  pub inbox : p.inbox ≡ p0.inbox

-- so it was, and nothing was written, unless there was no room
pub record Puts (p0 p : Pipe) (w0 w : Stream) (text : List ℕ) : Type 0 where
  pub sends : Sends p0 p w0 w text
  pub late : WaitsBehind w0 w p0.outbox p.outbox text

-- a front of what waited and of the text was written, and a fault was met
pub record Halts (p0 p : Pipe) (w0 w : Stream) (text : List ℕ) (fault : Fault) : Type 0 where
  pub stops : Stops w0 w p0.turns p.turns (p0.outbox ++ text) fault
  pub inbox : p.inbox ≡ p0.inbox
