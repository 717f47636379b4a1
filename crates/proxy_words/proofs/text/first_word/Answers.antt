use Rattle.std.proofs.Common.{◌∙◌, sym}
use Rattle.proxy_words.proofs.Cuts.{words-first, words-last}
use Rattle.proxy_words.proofs.text.first_word.Goals as goal

pub returns-in-None-clause-some : goal.returns-in-None-clause-some
returns-in-None-clause-some c = sym c.skip_blanks-line.ensures.same
    ∙ words-last c.skip_blanks-line.result.now (sym c.is_empty.ensures ∙ c.if-is_empty.false) (sym c.in-None.ensures)

pub returns-in-Some-clause-some : goal.returns-in-Some-clause-some
returns-in-Some-clause-some c = sym c.skip_blanks-line.ensures.same ∙
    rw (c.split_at.ensures.front, c.split_at-in-Some.ensures.back)
    (words-first c.skip_blanks-line.result.now c.in-Some.end c.skip_blanks-line.ensures.starts (sym c.in-Some.ensures))
