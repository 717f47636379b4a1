use Rattle.std.proofs.Common.{◌≡◌, ◌∙◌, ℕ, sym, ap, subst}
use Rattle.std.specs.Global.{Box}
use Rattle.loop_table.specs.Timers.{later_at}
use Rattle.loop_table.specs.TokenTables.{Table, IsVacantToken, table_with_open, filled}
use Rattle.loop_table.specs.declared.token.Token.{Token}
use Rattle.queue_outside.specs.Rooms.{came}
use Rattle.loop_shared.specs.Timed.{Begins}
use Rattle.loop_shared.specs.declared.outside.Outside.{Outside}
use Rattle.loop_shared.specs.declared.outside.Standing.{Standing}
use Rattle.loop_shared.proofs.outside.Outside.come.Goals as goal

pub returns-in-Ok-fill-clause-ok : goal.returns-in-Ok-fill-clause-ok
returns-in-Ok-fill-clause-ok c =
    let old = c.args.self.now in
    let token = c.token-token.result in
    let named : token ≡ c.in-Some.hole.token = c.token-token.ensures in
    record {
      key = c.in-Ok.key;
      keyed = c.in-Ok.ensures.key;
      order = ap (λ (it : Outside). it.order) c.begin_time.ensures.same ∙ c.in-Ok.ensures.ok
          ∙ ap (λ (index : ℕ). came old.order c.in-Ok.key index) c.index.ensures;
      free = subst (λ (it : Token). IsVacantToken old.standing it) (sym named) c.in-Some.ensures.token;
      standing = c.in-Ok-new.standing;
      holds = c.in-Ok-new.ensures.ok;
      stands = ap (λ (it : Outside). it.standing) c.begin_time.ensures.same ∙ c.in-Ok-fill.ensures.ok.1
          ∙ ap (λ (table : Table (Box Standing)). filled table c.in-Some.hole.token c.in-Ok-new.standing) c.in-Some.ensures.some
          ∙ ap (λ (it : Token). filled (table_with_open old.standing it) it c.in-Ok-new.standing) (sym named);
      timed = subst (λ (number : ℕ). Begins (later_at old.timers c.args.outsider.came) c.begin_time.new.self.timers old.patience number) c.index-in-Ok-fill.ensures c.begin_time.ensures.begins;
      patience = ap (λ (it : Outside). it.patience) c.begin_time.ensures.same;
    }
