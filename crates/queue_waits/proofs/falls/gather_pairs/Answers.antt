use Rattle.std.proofs.Common.{◌≡◌, suc, ◌+◌, ◌++◌, ◌∷◌, [], take, vec_len, vec_capacity, sym, ◌∙◌, ap, append-nil, arith}
use Rattle.std.specs.Option.{option_map_or}
use Rattle.due_key.specs.declared.key.Key.{Key}
use Rattle.log_entries.specs.declared.queue.Queue.TheVariants.{Server}
use Rattle.queue_waits.specs.InQueues.{pair_in, pairs_in}
use Rattle.queue_waits.specs.Lines.{Line}
use Rattle.queue_waits.proofs.Pairs.{pairs_more}
use Rattle.queue_waits.proofs.falls.gather_pairs.Goals.{in-Some, in_default}
use Rattle.queue_waits.proofs.falls.gather_pairs.Goals as goal

-- the first places and one more have the pair of this one's cell more
more : (c : goal.Joined-key_in) → pairs_in (Server c.args.server) 0 (take (c.loop-place.place + 1) c.args.waiters.now)
    ≡ pairs_in (Server c.args.server) 0 (take c.loop-place.place c.args.waiters.now)
    ++ option_map_or (λ (k : Key). (k, c.loop-place.place) ∷ []) c.key_in.result []
more c =
    let before : Line = pairs_in (Server c.args.server) 0 (take c.loop-place.place c.args.waiters.now) in
    let on : c.loop-place.place + 1 ≡ suc c.loop-place.place = omega arith in
    let at : 0 + c.loop-place.place ≡ c.loop-place.place = omega arith in
    ap (λ n. pairs_in (Server c.args.server) 0 (take n c.args.waiters.now)) on
    ∙ pairs_more (Server c.args.server) 0 c.args.waiters.now c.loop-place.place c.index-waiters-place.result c.loop-place-test.true c.index-waiters-place.is
    ∙ ap (λ n. before ++ pair_in (Server c.args.server) n c.index-waiters-place.result) at
    ∙ ap (λ (l : Line). before ++ l) (c.key_in.ensures c.loop-place.place)

pub loop-place-preserved : goal.loop-place-preserved
loop-place-preserved c =
    let before : Line = pairs_in (Server c.args.server) 0 (take c.loop-place.place c.args.waiters.now) in
    elim c.match-key_in.branch [
      | in-Some w ↦ record {
        pairs =
            ap (λ v. v.items) w.pairs-is ∙ w.push_reserved.ensures.items
            ∙ ap (λ (l : Line). l ++ (w.in-Some.key, c.loop-place.place) ∷ []) c.loop-place.invariant.pairs
            ∙ ap (λ o. before ++ option_map_or (λ (k : Key). (k, c.loop-place.place) ∷ []) o []) (sym w.in-Some.is) ∙ sym (more c);
        count =
            let few = c.loop-place.invariant.count in
            let long = ap (λ v. vec_len v) w.pairs-is ∙ w.push_reserved.ensures.len in
            omega arith;
        capacity = ap (λ v. vec_capacity v) w.pairs-is ∙ w.push_reserved.ensures.capacity ∙ c.loop-place.invariant.capacity;
      }
      | in_default w ↦ record {
        pairs =
            ap (λ v. v.items) w.pairs-is ∙ c.loop-place.invariant.pairs ∙ sym (append-nil before)
            ∙ ap (λ o. before ++ option_map_or (λ (k : Key). (k, c.loop-place.place) ∷ []) o []) (sym w.in_default.is) ∙ sym (more c);
        count =
            let few = c.loop-place.invariant.count in
            let long = ap (λ v. vec_len v) w.pairs-is in
            omega arith;
        capacity = ap (λ v. vec_capacity v) w.pairs-is ∙ c.loop-place.invariant.capacity;
      }
    ]
