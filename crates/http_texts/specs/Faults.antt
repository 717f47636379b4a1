-- Faults of messages, in terms of those of their heads and bodies.
use Rattle.http_bodies.specs.declared.fault.Fault as Body
use Rattle.http_bodies.specs.declared.fault.Fault.TheVariants as OfBody
use Rattle.http_texts.specs.declared.fault.Fault.{Fault}
use Rattle.http_texts.specs.declared.fault.Fault.TheVariants as Faulty
use Rattle.req_view.specs.declared.refusal.HeadRefusal.{HeadRefusal}
use Rattle.req_view.specs.declared.refusal.HeadRefusal.TheVariants.{HeadFault, NoMemory}

abbrev pub relayed : Body.Fault → Fault
relayed OfBody.Framing = Faulty.Framing
relayed OfBody.Read = Faulty.Read
relayed OfBody.Write = Faulty.Write
relayed OfBody.Turns = Faulty.Turns

abbrev pub of_refusal : HeadRefusal → Fault
of_refusal HeadFault = Faulty.Head
of_refusal NoMemory = Faulty.NoMemory
