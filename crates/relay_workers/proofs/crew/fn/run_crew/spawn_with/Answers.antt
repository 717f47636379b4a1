use Rattle.std.proofs.Common.{inl, subst}
use Rattle.relay_workers.specs.Serving.{SomeHasWorked}
use Rattle.relay_workers.proofs.crew.fn.run_crew.spawn_with.Goals as goal

-- its gate is the member's
pub returns-in-Ok : goal.returns-in-Ok
returns-in-Ok g c =
    inl (subst (λ gate. SomeHasWorked g.G.Client.Read.remaining g.G.Client.Write.contents g.G.Server.Read.remaining g.G.Server.Write.contents
    g.N.BoardName.terms g.N.DeskName.setup c.work.result.0 (g.G.Gate.notes gate) (g.G.Gate.notes c.work.result.1.gate)) c.in-Ok.ensures.parts.0 c.work.ensures)
