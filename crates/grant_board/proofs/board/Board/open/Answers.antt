use Rattle.std.proofs.Common.{ℕ, ◌+◌, map, ap, sym, ◌∙◌, true, length, replicate, [], ◌++◌, arith}
use Rattle.std.proofs.lemmas.List.{length-append, length-map, length-replicate}
use Rattle.grant_board.specs.Views.{first_mark}
use Rattle.grant_board.specs.Rule.{terms_of}
use Rattle.grant_board.specs.Plays.{relay_of, cut_off}
use Rattle.grant_board.proofs.Ending.{opens_at}
use Rattle.grant_board.proofs.Joining.{cut_kept}
use Rattle.grant_board.proofs.Counting.{counted_new}
use Rattle.grant_board.proofs.board.Board.open.Goals as goal

pub of_words-requires : goal.of_words-requires
of_words-requires g c = opens_at (terms_of c.plan-plan.result) c.deref.result.now
    (c.deref.ensures.value ∙ (c.in_ok-words.ensures ∙ ap (λ t. replicate t.places 0 ++ map first_mark t.limits) (sym c.plan-plan.ensures)))

pub split_seat-first-requires : goal.split_seat-first-requires
split_seat-first-requires g c =
    let made = c.in_ok-table.ensures in
    let seat = c.in_ok-table.seat in
    let long = ap length c.deref.ensures.value ∙ (ap length c.in_ok-words.ensures ∙ length-append (replicate c.args.places 0) (map first_mark c.args.limits.now)
    ∙ ap (λ n. length {A = ℕ} (replicate c.args.places 0) + n) (length-map c.args.limits.now first_mark)) in (
      made.2,
      omega (arith, made.0, long, length-replicate {A = ℕ} c.args.places 0, c.requires.some_places.0),
      cut_kept (terms_of c.in_ok-table.table.shared.key) seat.id seat.me.0,
    )

pub invariant_of-relay-2 : goal.invariant_of-relay-2
invariant_of-relay-2 g c =
    let made = c.in_ok-table.ensures in
    let t = terms_of c.plan-plan.result in
    let first = c.split_seat-first.result in
    let me = c.split_seat-first.ensures.4 ∙ ap (λ m. (cut_off m.0, [])) made.4 in
    counted_new (record { board = first.table_id; view = relay_of first.me.0.relays }) t true c.none.result (ap (λ m. relay_of m.0.relays) me) c.none.ensures
    (omega (arith, c.requires.some_places.1, ap (λ x. x.places) c.plan-plan.ensures))
    (omega (arith, c.requires.some_servers.1, ap (λ x. length x.limits) c.plan-plan.ensures))
