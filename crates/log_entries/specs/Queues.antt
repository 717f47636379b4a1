-- The queues of a dispatcher.
use Rattle.std.specs.Prelude.{ℕ, ◌<◌}
use Rattle.log_entries.specs.declared.queue.Queue.{Queue}
use Rattle.log_entries.specs.declared.queue.Queue.TheVariants.{Backend, Server}

-- a queue is the backend's, or that of one of this many servers
abbrev pub IsQueueOf : ℕ → Queue → Type 0
IsQueueOf servers Backend = Unit {0}
IsQueueOf servers (Server server) = server < servers
