use Rattle.std.proofs.Common.{◌≡◌, Some, option_map, subst}
use Rattle.log_entries.specs.declared.row.Row.{Row}
use Rattle.log_entries.specs.Histories.{History, state_of}
use Rattle.log_entries.specs.Rows.{row_of}
use Rattle.dispatch_state.proofs.Beginning.{phase_is}
use Rattle.dispatch_state.proofs.Stepping.{has_row}
use Rattle.dispatch_state.proofs.Stepping.{here_at}
use Rattle.dispatch_state.proofs.state.DispatchState.phase.Goals as goal

pub row-requires : goal.row-requires
row-requires g c = has_row _ _ c.args.it c.self.invariant (here_at _ _ c.args.it c.self.view_is c.requires)

pub returns : goal.returns
returns g c =
    subst (λ (h : History). option_map (λ (r : Row). r.phase) (row_of c.args.it.ticket (state_of h).rows) ≡ Some c.row.result.phase) c.self.view_is
    (phase_is _ _ c.args.it c.row.result c.self.invariant (here_at _ _ c.args.it c.self.view_is c.requires) c.row.ensures)
