use Rattle.std.proofs.Common.{tests, rules}
use borrow.Author.Rules.{get_or_read}
use Rattle.server_pick.proofs.balance.goes_before.Goals as goal

pub returns-then-own-its : goal.returns-then-own-its
returns-then-own-its g c = search (tests, rules, get_or_read)

pub returns-then-own-its-2 : goal.returns-then-own-its-2
returns-then-own-its-2 g c = search (tests, rules, get_or_read)

pub returns-else-own-its-2 : goal.returns-else-own-its-2
returns-else-own-its-2 g c = search (tests, rules, get_or_read)
