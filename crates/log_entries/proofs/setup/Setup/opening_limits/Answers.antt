use Rattle.std.proofs.Common.{◌≡◌, rules, length, arith, ◌∙◌, ap}
use Rattle.log_entries.specs.States.{opening_limits}
use Rattle.log_entries.proofs.Limiting.{one_limit_more, all_limits}
use Rattle.log_entries.proofs.setup.Setup.opening_limits.Goals as goal

pub loop-server-preserved : goal.loop-server-preserved
loop-server-preserved c =
    let before = c.loop-server.invariant in
    record {
      many = search rules;
      room = search rules;
      made = one_limit_more c.as_slice-servers.result.now c.loop-server.limits.items c.push_reserved.new.self.items c.loop-server.server-index _
          c.loop-server-test.true before.made c.push_reserved.ensures.items;
    }

pub returns : goal.returns
returns c =
    let servers = c.as_slice-servers.result.now in
    let all : c.loop-server.server-index ≡ length servers = (let a = c.loop-server-test.false in let b = c.loop-server.auto.server-index-end in omega arith) in
    all_limits servers c.loop-server.limits.items c.loop-server.server-index all c.loop-server.invariant.made ∙ ap opening_limits c.as_slice-servers.ensures
