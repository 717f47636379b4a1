use Rattle.std.proofs.Common.{◌∙◌, sym}
use Rattle.proxy_words.proofs.Cuts.{lines-first, lines-last}
use Rattle.proxy_words.proofs.text.first_line.Goals as goal

pub returns-in-None-clause-some : goal.returns-in-None-clause-some
returns-in-None-clause-some c = lines-last c.args.text.now (sym c.is_empty.ensures ∙ c.if-is_empty.false) (sym c.in-None.ensures)

pub returns-in-Some-clause-some : goal.returns-in-Some-clause-some
returns-in-Some-clause-some c = rw (c.without_return.ensures, c.split_at.ensures.front, c.split_at-in-Some.ensures.back)
    (lines-first c.args.text.now c.in-Some.end (sym c.in-Some.ensures))
