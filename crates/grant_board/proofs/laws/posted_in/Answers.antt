use Rattle.std.proofs.Common.{sym}
use Rattle.grant_board.specs.declared.laws.Word.TheVariants.{Posted}
use Rattle.grant_board.specs.BoardWords.{IsUnposted}
use Rattle.grant_board.proofs.Codes.{if_none}
use Rattle.grant_board.proofs.laws.posted_in.Goals as goal

pub returns-in_err-ticket-clause-none : goal.returns-in_err-ticket-clause-none
returns-in_err-ticket-clause-none c = if_none _ (IsUnposted c.args.number)
    (λ ticket verdict ending word is. c.in_err-ticket.ensures.none (Posted ticket verdict ending) word (sym is))
