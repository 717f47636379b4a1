use Rattle.std.proofs.Common.{◌≡◌, None, subst}
use Rattle.log_entries.specs.Rows.{row_of}
use Rattle.log_entries.specs.Histories.{History, state_of}
use Rattle.dispatch_state.specs.Histories.{IsFound}
use Rattle.dispatch_state.proofs.Beginning.{found_is, missed_is}
use Rattle.dispatch_state.proofs.state.DispatchState.find.Goals as goal

pub returns : goal.returns
returns g c =
    subst (λ (h : History). IsFound (state_of h).rows c.args.ticket (record { place = c.in-Some.place; ticket = c.args.ticket })) c.self.view_is
    (found_is _ _ c.args.ticket c.in-Some.place c.self.invariant c.in-Some.ensures)

pub returns-in_default : goal.returns-in_default
returns-in_default g c =
    subst (λ (h : History). row_of c.args.ticket (state_of h).rows ≡ None) c.self.view_is (missed_is _ _ c.args.ticket c.self.invariant c.in_default.ensures)
