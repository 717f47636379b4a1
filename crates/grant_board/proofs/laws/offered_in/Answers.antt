use Rattle.std.proofs.Common.{sym}
use Rattle.grant_board.specs.declared.laws.Word.TheVariants.{Offered}
use Rattle.grant_board.specs.BoardWords.{OffersNot}
use Rattle.grant_board.proofs.Codes.{if_none}
use Rattle.grant_board.proofs.laws.offered_in.Goals as goal

pub returns-in_err-ticket-clause-none : goal.returns-in_err-ticket-clause-none
returns-in_err-ticket-clause-none c = if_none _ (OffersNot c.args.wanted c.args.number)
    (λ verdict word is. c.in_err-ticket.ensures.none (Offered c.args.wanted verdict) word (sym is))
