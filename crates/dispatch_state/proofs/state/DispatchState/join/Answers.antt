use Rattle.std.proofs.Common.{◌≡◌, ◌+◌, length, ap, sym, ◌∙◌, subst}
use Rattle.log_entries.specs.declared.entry.Entry.TheVariants.{Joined}
use Rattle.log_entries.specs.Histories.{History}
use Rattle.queue_waits.specs.Waitlists.{list_of}
use Rattle.dispatch_state.proofs.Stepping.{follows_on}
use Rattle.log_entries.specs.Queues.{IsQueueOf}
use Rattle.dispatch_state.specs.Histories.{cursor_after}
use Rattle.dispatch_state.specs.LoggedStates.{history_of}
use Rattle.dispatch_state.proofs.Joining.{join_node, join_vacant, join_key, join_pair, join_kept}
use Rattle.dispatch_state.proofs.Stepping.{has_row, closed}
use Rattle.dispatch_state.proofs.Within.{joined_within}
use Rattle.dispatch_state.proofs.Joining.{JoinCalls, join_calls}
use Rattle.dispatch_state.proofs.Stepping.{here_at}
use Rattle.dispatch_state.proofs.state.DispatchState.join.Given as given
use Rattle.dispatch_state.proofs.state.DispatchState.join.Goals.{After-row}
use Rattle.dispatch_state.proofs.state.DispatchState.join.Goals as goal

pub row-requires : goal.row-requires
row-requires g c = has_row _ _ c.args.it c.self.invariant (here_at _ _ c.args.it c.self.view_is c.requires.at)

-- what a joining rests on
calls : (g : given.Over) (c : After-row g)
    → JoinCalls g.Q.PendQueue.pair_of
    (record { kept = c.self.inside.ledger; log = c.self.inside.log; waits = list_of c.self.inside.waiting; position = c.self.inside.position }) c.args.it
    c.args.queue
calls g c = join_calls _ _ _ c.args.it c.args.queue c.self.invariant c.self.view_is c.requires.lawful c.requires.at

-- the cursor that it leaves, by the history that the logged state holds
moved : (g : given.Over) (c : After-row g) → c.args.cursor ≡ cursor_after (history_of (record {
  kept = c.self.inside.ledger;
  log = c.self.inside.log;
  waits = list_of c.self.inside.waiting;
  position = c.self.inside.position;
})) (Joined c.args.it.ticket c.args.queue)
moved g c = c.requires.cursor ∙ ap (λ (h : History). cursor_after h (Joined c.args.it.ticket c.args.queue)) (sym c.self.view_is)

pub wait-node-requires-clause-row : goal.wait-node-requires-clause-row
wait-node-requires-clause-row g c =
    let known = calls g (goal.at.wait-node-requires-clause-row g c).After-row in
    join_node _ _ c.args.it c.args.queue known

pub wait-node-requires-clause-within : goal.wait-node-requires-clause-within
wait-node-requires-clause-within g c =
    subst (λ (h : History). IsQueueOf (length h.setup.servers) c.args.queue) (sym c.self.view_is)
    (joined_within c.args.self.now c.args.it.ticket c.args.queue c.requires.lawful)

pub join-requires-clause-vacant : goal.join-requires-clause-vacant
join-requires-clause-vacant g c =
    let known = calls g (goal.at.join-requires-clause-vacant g c).After-row in
    join_vacant _ _ c.args.it c.args.queue known

pub join-requires-clause-within : goal.join-requires-clause-within
join-requires-clause-within g c =
    subst (λ n. IsQueueOf n c.args.queue) (sym c.self.invariant.servers)
    (subst (λ (h : History). IsQueueOf (length h.setup.servers) c.args.queue) (sym c.self.view_is)
    (joined_within c.args.self.now c.args.it.ticket c.args.queue c.requires.lawful))

pub join-requires-clause-own_key : goal.join-requires-clause-own_key
join-requires-clause-own_key g c =
    let known = calls g (goal.at.join-requires-clause-own_key g c).After-row in
    join_key _ _ c.args.it c.args.queue known c.row.result c.row.ensures

pub join-requires-clause-pair : goal.join-requires-clause-pair
join-requires-clause-pair g c =
    let known = calls g (goal.at.join-requires-clause-pair g c).After-row in
    join_pair _ _ c.args.it c.args.queue known c.row.result c.row.ensures c.wait-node.result c.wait-node.ensures.node

pub note-requires-clause-follows : goal.note-requires-clause-follows
note-requires-clause-follows g c =
    let at = (goal.at.note-requires-clause-follows g c).After-row in
    follows_on _ _ _ _
    (join_kept _ _ c.args.it c.args.queue (calls g at) c.row.result c.row.ensures (c.len.result + 1) c.args.cursor
    (ap (λ n. n + 1) c.len.ensures) (moved g at)).judged

pub invariant_of-self : goal.invariant_of-self
invariant_of-self g c =
    let at = (goal.at.invariant_of-self g c).After-row in
    closed _ _ _ _ _ _ _ _ c.wait-node.ensures.waiting c.note.ensures c.join.ensures.waits
    (join_kept _ _ c.args.it c.args.queue (calls g at) c.row.result c.row.ensures (c.len.result + 1) c.args.cursor
    (ap (λ n. n + 1) c.len.ensures) (moved g at))
