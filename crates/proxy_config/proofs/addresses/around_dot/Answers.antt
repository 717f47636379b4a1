use Rattle.std.proofs.Common.{sym}
use Rattle.proxy_words.proofs.Cuts.{slice_split-first, slice_split-whole}
use Rattle.proxy_config.specs.Addresses.{is_dot}
use Rattle.proxy_config.proofs.addresses.around_dot.Goals as goal

pub returns-in-None-clause-none : goal.returns-in-None-clause-none
returns-in-None-clause-none c = slice_split-whole is_dot c.args.word.now (sym c.in-None.ensures)

pub returns-in-Some-clause-some : goal.returns-in-Some-clause-some
returns-in-Some-clause-some c =
    rw (c.split_at.ensures.front, c.split_at-in-Some.ensures.back) (slice_split-first is_dot c.args.word.now c.in-Some.n (sym c.in-Some.ensures))
