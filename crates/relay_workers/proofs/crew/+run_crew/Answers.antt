use denote.Param.Send.{sendable}
use Rattle.std.proofs.Common.{rules, ◌≡◌, Err, inr, refl, sym, arith, subst}
use Rattle.std.proofs.lemmas.List.{nil_from_length}
use Rattle.std.specs.Vec.Iter.{into_iter_items}
use Rattle.relay_workers.specs.Crews.{EndsAs}
use Rattle.relay_workers.specs.Serving.{SomeHasWorked}
use Rattle.relay_workers.specs.declared.stopping.Stopped.TheVariants.{NoMemory}
use Rattle.relay_workers.specs.Seats.{IsUnused}
use Rattle.relay_workers.proofs.Crewing.{behind_first, nobody, one_more, of_ok}
use Rattle.relay_workers.proofs.crew.+run_crew.Goals as goal

pub returns-in_default : goal.returns-in_default
returns-in_default g t c =
    nobody
    (SomeHasWorked g.G.Client.Read.remaining g.G.Client.Write.contents g.G.Server.Read.remaining g.G.Server.Write.contents g.N.BoardName.terms g.N.DeskName.setup) g.G.Gate.notes (into_iter_items c.args.crew.now) c.zero.result
    (nil_from_length (into_iter_items c.args.crew.now) (let none = c.in_default.ensures.cases in omega arith)) c.zero.ensures

pub returns-in_default-next : goal.returns-in_default-next
returns-in_default-next g t c =
    nobody
    (SomeHasWorked g.G.Client.Read.remaining g.G.Client.Write.contents g.G.Server.Read.remaining g.G.Server.Write.contents g.N.BoardName.terms g.N.DeskName.setup) g.G.Gate.notes (into_iter_items c.args.crew.now) c.zero-in_default-next.result
    (nil_from_length (into_iter_items c.args.crew.now) (let none = c.in_default-next.ensures.cases.0 in let ok = c.args.crew.now.rest.ok.0 in omega arith))
    c.zero-in_default-next.ensures

-- the promise is of the member's gate
pub spawn_with-requires-clause-keeps : goal.spawn_with-requires-clause-keeps
spawn_with-requires-clause-keeps g t c κs within = λ result ends. subst (λ gate. EndsAs
    (SomeHasWorked g.G.Client.Read.remaining g.G.Client.Write.contents g.G.Server.Read.remaining g.G.Server.Write.contents g.N.BoardName.terms g.N.DeskName.setup) g.G.Gate.notes gate result)
    (sym c.of.ensures) ends

pub spawn_with-requires-clause-runs : goal.spawn_with-requires-clause-runs
spawn_with-requires-clause-runs g t c κs within = search (rules, sendable) depth 60 fits 20000

pub run_crew-others-requires-clause-unused : goal.run_crew-others-requires-clause-unused
run_crew-others-requires-clause-unused g t c κs within =
    behind_first (λ seat. IsUnused g.N.BoardName.terms seat.idle.seat) c.args.seats.now c.in-Some.rest.now c.in-Some.seat.now c.in-Some.ensures.cases.0 c.requires.unused

-- its thread can't be started
pub returns-in_default-started : goal.returns-in_default-started
returns-in_default-started g t c =
    one_more (SomeHasWorked g.G.Client.Read.remaining g.G.Client.Write.contents g.G.Server.Read.remaining g.G.Server.Write.contents g.N.BoardName.terms g.N.DeskName.setup) g.G.Gate.notes
    c.in-Some-next.gate c.in-Some-next.pause (into_iter_items c.args.crew.now) (into_iter_items c.next.new.self) (Err NoMemory, record { gate = c.in-Some-next.gate })
    c.run_crew-others.result c.first_stop.result c.in-Some-next.ensures.items (inr (refl, refl)) c.run_crew-others.ensures c.first_stop.ensures

pub returns : goal.returns
returns g t c =
    let promised =
    of_ok (λ handle. handle.promise ≡ record { 0 = c.of.result; 1 = _ }) c.spawn_with.result c.in-Some-started.handle c.in-Some-started.ensures.value
    c.spawn_with.ensures.ok in
    let its : c.in-Some-started.handle.promise.0.value ≡ c.in-Some-next.gate = rw promised c.of.ensures in
    one_more (SomeHasWorked g.G.Client.Read.remaining g.G.Client.Write.contents g.G.Server.Read.remaining g.G.Server.Write.contents g.N.BoardName.terms g.N.DeskName.setup) g.G.Gate.notes
    c.in-Some-next.gate c.in-Some-next.pause (into_iter_items c.args.crew.now) (into_iter_items c.next.new.self) c.join-mine.result
    c.run_crew-others.result c.first_stop-2.result c.in-Some-next.ensures.items
    (subst (λ gate. EndsAs (SomeHasWorked g.G.Client.Read.remaining g.G.Client.Write.contents g.G.Server.Read.remaining g.G.Server.Write.contents g.N.BoardName.terms g.N.DeskName.setup) g.G.Gate.notes gate c.join-mine.result) its c.join-mine.ensures) c.run_crew-others.ensures c.first_stop-2.ensures
