use Rattle.std.proofs.Common.{subst}
use Rattle.std.specs.Prelude.{IfOk, IfErr}
use Rattle.prio_rules.specs.declared.wish.Wish.{Wish}
use Rattle.relay_workers.specs.Admissions.{arrival, IsAdmittedAs, IsRefusedFor}
use Rattle.relay_workers.specs.Boards.{IsBoardOf}
use Rattle.relay_workers.proofs.Known.{known_for}
use Rattle.relay_workers.proofs.Steps.{known_both, known_both_err}
use Rattle.relay_workers.specs.Turning.{IsAnswered}
use Rattle.shared_desk.specs.Answers.{AnswersArrival}
use Rattle.relay_workers.proofs.admitting.arrive.Goals as goal

-- the wish is the rules'
pub returns-clause-ok : goal.returns-clause-ok
returns-clause-ok g c =
    subst (λ (wished : Wish). IfOk c.arrive_as.result (λ it. IsBoardOf c.args.proxy.now.config g.N.BoardName.terms
    × IsAdmittedAs g.N.BoardName.terms g.N.DeskName.setup wished it)) c.decide-wish.ensures.exact
    (known_both (IsAdmittedAs g.N.BoardName.terms g.N.DeskName.setup c.decide-wish.result) c.arrive_as.result c.args.proxy.now.its_board c.arrive_as.ensures.ok)

pub returns-clause-err : goal.returns-clause-err
returns-clause-err g c =
    subst (λ (wished : Wish). IfErr c.arrive_as.result (λ refusal. IsBoardOf c.args.proxy.now.config g.N.BoardName.terms
    × IsRefusedFor g.N.BoardName.terms g.N.DeskName.setup wished.pin refusal)) c.decide-wish.ensures.exact
    (known_both_err (IsRefusedFor g.N.BoardName.terms g.N.DeskName.setup c.decide-wish.result.pin) c.arrive_as.result c.args.proxy.now.its_board
    c.arrive_as.ensures.err)

pub returns-clause-answered : goal.returns-clause-answered
returns-clause-answered g c =
    subst (λ (wished : Wish). IsAnswered g.N.BoardName.terms g.N.DeskName.setup (AnswersArrival g.N.BoardName.terms g.N.DeskName.setup (arrival wished) wished.pin)
    c.arrive_as.result (g.G.Gate.notes c.args.gate.now) (g.G.Gate.notes c.arrive_as.new.gate)) c.decide-wish.ensures.exact c.arrive_as.ensures.answered

pub returns-clause-known : goal.returns-clause-known
returns-clause-known g c =
    known_for c.args.proxy.now.config g.N.BoardName.terms g.N.DeskName.setup c.decide-wish.result.pin c.arrive_as.result c.args.proxy.now.its_board c.args.proxy.now.sound
    c.decide-wish.ensures.known c.arrive_as.ensures.err
