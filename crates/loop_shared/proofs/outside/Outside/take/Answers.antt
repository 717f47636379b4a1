use Rattle.std.proofs.Common.{◌≡◌, ◌∙◌, sym, ap, subst}
use Rattle.std.specs.Global.{Box}
use Rattle.due_key.specs.declared.key.Key.{Key}
use Rattle.loop_table.specs.TokenTables.{Table, IsOut, lent, closed}
use Rattle.loop_table.specs.declared.token.Token.{Token}
use Rattle.queue_outside.specs.Rooms.{Outsiders, left}
use Rattle.loop_shared.specs.declared.outside.Outside.{Outside}
use Rattle.loop_shared.specs.declared.outside.Standing.{Standing}
use Rattle.loop_shared.proofs.outside.Outside.take.Goals as goal

pub returns-clause-some : goal.returns-clause-some
returns-clause-some c =
    let old = c.args.self.now in
    let lends = c.in_ok-standing.ensures in
    let out = subst (λ (token : Token). IsOut c.lend.new.self token) (sym lends.hole) lends.left.1 in
    record {
      standing = c.in_ok-standing.standing;
      stood = lends.held;
      held = ap (λ (it : Standing). it.outsider) (sym c.into_inner-key.ensures);
      order = c.leave.ensures.rest ∙ ap (λ (it : Outside). left it.order c.into_inner-key.result.key) c.end_time.ensures.same
          ∙ ap (λ (it : Standing). left old.order it.key) c.into_inner-key.ensures;
      closes = ap (λ (it : Outside). it.standing) c.end_time.ensures.same ∙ (c.close.ensures.closed out).0
          ∙ ap (λ (table : Table (Box Standing)). closed table c.in_ok-standing.hole.token) lends.left.0
          ∙ ap (λ (token : Token). closed (lent old.standing c.args.token) token) lends.hole;
      patience = ap (λ (it : Outside). it.patience) c.end_time.ensures.same;
    }
