use Rattle.std.proofs.Common.{sym, subst}
use Rattle.config_setup.specs.Setups.{SetupIsAsked}
use Rattle.relay_workers.proofs.Boards.{board_of}
use Rattle.relay_workers.proofs.proxy.Proxy.new.Goals as goal

pub invariant_of-proxy-clause-its_board : goal.invariant_of-proxy-clause-its_board
invariant_of-proxy-clause-its_board g c = board_of c.args.config c.args.fresh.0.setup g.N.BoardName.terms c.requires.terms c.requires.asked

pub invariant_of-proxy-clause-its_setup : goal.invariant_of-proxy-clause-its_setup
invariant_of-proxy-clause-its_setup g c = subst (SetupIsAsked c.args.config) (sym c.requires.setup) c.requires.asked
