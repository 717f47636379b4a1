use Rattle.std.proofs.Common.{ap, sym, subst, ◌∙◌, ◌≤◌, length}
use Rattle.grant_board.proofs.Counting.{join_room, counted_join}
use Rattle.grant_board.proofs.relay.RelaySeat.join.Goals as goal

pub merge-requires-clause-server_room : goal.merge-requires-clause-server_room
merge-requires-clause-server_room c = join_room c.self.inside.relaying c.other.inside.relaying c.self.inside.first c.other.inside.first c.self.inside.tally
    c.other.inside.tally c.self.invariant c.other.invariant (subst (λ x. length x.view.passes ≤ x.view.terms.places) c.join.ensures.joined c.join.ensures.room)

pub invariant_of-self : goal.invariant_of-self
invariant_of-self c =
    let mine = ap (λ x. x.board) c.self.view_is ∙ c.requires.same_board in
    let theirs = ap (λ x. x.board) c.other.view_is ∙ c.requires.other_board in
    counted_join c.self.inside.relaying c.other.inside.relaying c.join.new.self c.self.inside.first c.other.inside.first c.self.inside.tally
    c.other.inside.tally c.merge.new.self c.self.invariant c.other.invariant
    (theirs ∙ sym mine) c.join.ensures.joined c.join.ensures.room c.merge.ensures.all c.merge.ensures.of_server
