use Rattle.slot_ledger.proofs.Counting.{own_included, backend_included}
use Rattle.slot_ledger.proofs.counts.Counts.leave.Goals as goal

pub overflow_sub-self : goal.overflow_sub-self
overflow_sub-self c = backend_included _ _ _ _ _ c.self.view_is c.requires.counted c.in-Waiting.is c.in-Backend.is

pub lower-requires-in-Server : goal.lower-requires-in-Server
lower-requires-in-Server c = record { some = own_included _ _ _ _ _ _ c.self.view_is c.requires.counted c.in-Waiting.is c.in-Server.is }
