use Rattle.std.proofs.Common.{rules, ◌≡◌, Err}
use Rattle.log_entries.specs.declared.refusal.Refusal.TheVariants.{LogFull}
use Rattle.relay_workers.proofs.Retold.{told_again, told_of_none}
use Rattle.relay_workers.proofs.proxy.Proxy.retry_in_new_window.Goals as goal

-- there was no memory for room
pub returns-then-not-find_room : goal.returns-then-not-find_room
returns-then-not-find_room g c =
    let full : c.call-answer.result.0 ≡ Err LogFull = search rules in
    let none = c.if-not-find_room.ensures.none in
    told_of_none {T = g.row.T.Denot} {E = g.row.C.Denot} g.C.Tells.change g.N.BoardName.terms g.N.DeskName.setup
    (λ answer told. g.F.Fn.post c.args.call tt (answer, told)) c.call-answer.result.0 c.call-answer.result.1 none.0 none.1 _ _ _ full
    c.call-answer.ensures c.tell.ensures none.2 none.3

-- the call was made once more
pub returns : goal.returns
returns g c =
    let full : c.call-answer.result.0 ≡ Err LogFull = search rules in
    let there = c.if-not-find_room.ensures.there in
    told_again {T = g.row.T.Denot} {E = g.row.C.Denot} g.C.Tells.change g.N.BoardName.terms g.N.DeskName.setup
    (λ answer told. g.F.Fn.post c.args.call tt (answer, told)) c.call-answer.result.0 c.call-answer-2.result.0 c.call-answer.result.1
    c.call-answer-2.result.1 there.0 there.1 _ _ _ _ full c.call-answer.ensures c.tell.ensures there.2 there.3 c.call-answer-2.ensures c.tell-2.ensures
