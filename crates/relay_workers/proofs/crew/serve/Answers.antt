use Rattle.std.proofs.Common.{◌≡◌, ◌++◌, List, reverse, ap, arith, ◌∙◌}
use Rattle.std.proofs.lemmas.List.{length-reverse}
use Rattle.std.specs.List.{flat_map}
use denote.Param.Send.{sendable}
use Rattle.grant_board.specs.RelayCalls.{Relay}
use Rattle.grant_board.specs.Views.{Grant}
use Rattle.grant_board.specs.declared.returned.Return.{Return}
use Rattle.relay_workers.specs.Serving.{HasLeftSeat}
use Rattle.relay_workers.proofs.Crewing.{joined_seats, joins_none, not_begun}
use Rattle.relay_workers.proofs.Crosses.{proxy_sync}
use Rattle.relay_workers.proofs.crew.serve.Goals as goal

pub run_all-all-requires-sync-S : goal.run_all-all-requires-sync-S
run_all-all-requires-sync-S g c κs within = let s = proxy_sync g.row.N g.N.DeskName g.N.BoardName in search (s, sendable)

pub returns-in_default-clause-checks : goal.returns-in_default-clause-checks
returns-in_default-clause-checks g c = not_begun _ _ _ _ _ _ (ap g.G.Gate.notes c.of.ensures)

pub returns-in_default-clause-joins : goal.returns-in_default-clause-joins
returns-in_default-clause-joins g c =
    joins_none _ _ _ _ (ap (λ (seat : Relay). seat.view) c.in_default.ensures.none)

-- each seat's type says what was done with it
pub returns-clause-joins : goal.returns-clause-joins
returns-clause-joins g c =
    let items = c.run_all-all.new.seats.items in
    let split = c.in-Some.ensures.split in
    let joined_before : c.split_members.new.first.view.joined ≡ c.args.seat.view.joined = ap (λ (seat : Relay). seat.view.joined) split in
    let out = c.join_members.ensures.lent.out_is in
    let same = c.join_members.ensures.split in
    let count = c.run_all-all.new.seats.ok in
    let turned = length-reverse items in
    joined_seats g.N.BoardName.terms
    (HasLeftSeat g.G.Client.Read.remaining g.G.Client.Write.contents g.G.Server.Read.remaining g.G.Server.Write.contents g.N.BoardName.terms g.N.DeskName.setup)
    (λ m. m.idle.seat) (λ m. m.its) (reverse items) c.args.seat.view c.join_members.new.first.view (omega arith)
    (c.join_members.ensures.takes
    ∙ ap (λ (before : List Grant). before ++ flat_map (λ m. m.idle.seat.view.takes) (reverse items)) (ap (λ (seat : Relay). seat.view.takes) split))
    (c.join_members.ensures.posts
    ∙ ap (λ (before : List Return). before ++ flat_map (λ m. m.idle.seat.view.posts) (reverse items)) (ap (λ (seat : Relay). seat.view.posts) split))
