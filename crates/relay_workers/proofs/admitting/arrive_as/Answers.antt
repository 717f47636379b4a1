use Rattle.std.proofs.Common.{Result, IfOk, IfErr}
use Rattle.dispatch_state.specs.declared.position.Ticketed.{Ticketed}
use Rattle.log_entries.specs.declared.refusal.Refusal.{Refusal}
use Rattle.relay_workers.specs.Admissions.{arrival, IsAdmittedAs, IsRefusedFor}
use Rattle.shared_desk.specs.Answers.{AnswersArrival}
use Rattle.shared_desk.specs.Changes.{Change}
use Rattle.relay_workers.proofs.Arriving.{admitted_as, refused_for}
use Rattle.relay_workers.proofs.Retold.{answered, of_each}
use Rattle.relay_workers.proofs.admitting.arrive_as.Goals as goal

pub returns-clause-answered : goal.returns-clause-answered
returns-clause-answered g c =
    answered g.N.BoardName.terms g.N.DeskName.setup (AnswersArrival g.N.BoardName.terms g.N.DeskName.setup (arrival c.args.wish.now) c.args.wish.now.pin) c.moment-moment.result
    c.retry_in_new_window.result (g.G.Gate.notes c.args.gate.now) (g.G.Gate.notes c.moment-moment.new.self)
    (g.G.Gate.notes c.retry_in_new_window.new.gate) c.moment-moment.ensures.told c.retry_in_new_window.ensures

pub returns-clause-ok : goal.returns-clause-ok
returns-clause-ok g c =
    of_each (λ (it : Change). it) g.N.BoardName.terms g.N.DeskName.setup (AnswersArrival g.N.BoardName.terms g.N.DeskName.setup (arrival c.args.wish.now) c.args.wish.now.pin c.moment-moment.result)
    (λ (it : Result Ticketed Refusal). IfOk it (IsAdmittedAs g.N.BoardName.terms g.N.DeskName.setup c.args.wish.now)) c.retry_in_new_window.result
    (g.G.Gate.notes c.moment-moment.new.self) (g.G.Gate.notes c.retry_in_new_window.new.gate)
    (admitted_as g.N.BoardName.terms g.N.DeskName.setup c.moment-moment.result c.args.wish.now) c.retry_in_new_window.ensures

pub returns-clause-err : goal.returns-clause-err
returns-clause-err g c =
    of_each (λ (it : Change). it) g.N.BoardName.terms g.N.DeskName.setup (AnswersArrival g.N.BoardName.terms g.N.DeskName.setup (arrival c.args.wish.now) c.args.wish.now.pin c.moment-moment.result)
    (λ (it : Result Ticketed Refusal). IfErr it (IsRefusedFor g.N.BoardName.terms g.N.DeskName.setup c.args.wish.now.pin)) c.retry_in_new_window.result
    (g.G.Gate.notes c.moment-moment.new.self) (g.G.Gate.notes c.retry_in_new_window.new.gate)
    (refused_for g.N.BoardName.terms g.N.DeskName.setup c.moment-moment.result (arrival c.args.wish.now) c.args.wish.now.pin) c.retry_in_new_window.ensures
