use Rattle.std.proofs.Common.{◌≡◌, length, rules, arith}
use Rattle.std.proofs.lemmas.Option.{slice_get-get_or}
use Rattle.dispatch_core.proofs.Healthy.{one_more, all_made}
use Rattle.dispatch_core.proofs.healths.Healths.new.Goals as goal

pub loop-server-preserved : goal.loop-server-preserved
loop-server-preserved c =
    let before = c.loop-server.invariant in
    record {
      many = search rules;
      room = search rules;
      each =
          one_more c.args.servers.now c.loop-server.list.items c.push_reserved.new.self.items c.health_of.result c.loop-server.server-index _ before.many
          c.push_reserved.ensures.items (slice_get-get_or c.args.servers.now c.loop-server.server-index _ c.loop-server-test.true) c.health_of.ensures
          before.each;
    }

pub returns : goal.returns
returns c =
    let before = c.loop-server.invariant in
    let all : c.loop-server.server-index ≡ length c.args.servers.now =
    (let a = c.loop-server-test.false in let b = c.loop-server.auto.server-index-end in omega arith) in
    all_made c.args.servers.now c.loop-server.list.items c.loop-server.server-index all before.many before.each
