use Rattle.std.proofs.Common.{◌≡◌, arith}
use Rattle.late_cert.specs.Tests.{listed_of}
use Rattle.late_cert.proofs.Sound.{none_left}
use Rattle.late_cert.proofs.check.lists.Goals as goal

pub returns : goal.returns
returns c =
    let l = c.loop-grant in
    none_left (c.args.stays.now ≡ listed_of c.args.report.now c.args.grants.now) c.args.report.now c.args.stays.now c.args.grants.now l.next l.grant-index
    l.invariant.so_far (omega arith) l.invariant.rest
