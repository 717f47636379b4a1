-- The state of a client beside its exchange.
use Rattle.std.specs.Prelude.{ℕ, Bool, true, false, ◌+◌, ◌-◌, ◌^◌, ◌||◌, not, if◌then◌else◌, nat_le, min, None}
use Rattle.exchange_driver.specs.Wires.{Wire}
use Rattle.loop_shared.specs.declared.presence.Presence.{Presence}
use Rattle.loop_events.specs.declared.guest.Visit.{Visit}
use Rattle.loop_events.specs.declared.guest.Task.{Task}
use Rattle.loop_events.specs.declared.guest.Task.TheVariants as tasks
use Rattle.loop_events.specs.declared.guest.Watch.{Watch}
use Rattle.loop_events.specs.declared.guest.Watch.TheVariants.{Nothing, Reads, Both}

-- the visit of a client that has asked for nothing yet
abbrev pub new_visit : Presence → Wire → Visit
new_visit presence client = record {
  presence = presence;
  client = client;
  at = None;
  tried = None;
  came = None;
  ended = false;
  asked_before = false;
  pauses = false;
  redials = 0;
  fresh = true;
  spoilt = false;
  task = tasks.Serve;
  client_watch = Nothing;
  server_watch = Nothing;
  timer = None;
}

-- its server's connection is gone: the poll watches none, and the next one counts as new
abbrev pub without_server : Visit → Visit
without_server visit = record visit { server_watch = Nothing; fresh = true }

-- the visit of the same client for its next request
abbrev pub renewed : Visit → Visit
renewed visit = record (without_server visit) {
  at = None;
  tried = None;
  came = None;
  asked_before = true;
  pauses = false;
  redials = 0;
  spoilt = false;
  task = tasks.Serve;
}

-- the number of connections in place of ones that broke, where one more broke that was new or not
abbrev pub redials_after : Bool → ℕ → ℕ
redials_after true redials = min (redials + 1) (2 ^ 32 - 1)
redials_after false redials = redials

-- A connection to its server broke. Once another one is opened in place of a new one, and then its
-- server counts as one that can't be reached. Where it was used before, the next one is a new one.
abbrev pub redialed : Visit → Visit
redialed visit = let redials = redials_after visit.fresh visit.redials in record (without_server visit) {
  redials = redials;
  spoilt = visit.spoilt || not visit.fresh;
  task = if nat_le redials 1 then tasks.Dial else tasks.GiveUp;
}

-- this is to be done next; that the client sends no more counts no longer
abbrev pub with_task : Visit → Task → Visit
with_task visit task = record visit { task = task; ended = false }

-- what the poll watches of a socket once it is asked to watch reads, or both reads and writes; what it watches already stays
abbrev pub watch_after : Watch → Bool → Watch
watch_after Nothing true = Both
watch_after Nothing false = Reads
watch_after Reads true = Both
watch_after Reads false = Reads
watch_after Both writes = Both
