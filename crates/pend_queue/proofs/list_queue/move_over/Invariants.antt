use Rattle.std.proofs.Common.{◌≡◌, ◌+◌, ◌≤◌, reverse, vec_len, vec_capacity}
use Rattle.pend_queue.specs.Pairs.{IsAscending, HaveNoCommonKey, merged}
use Rattle.pend_queue.proofs.list_queue.move_over.Given as goal

-- to merge what is left gives what merging all gives
abbrev pub invariant-moving : goal.invariant-moving
invariant-moving g l =
    let pairs = reverse l.items.items in
    let more = reverse l.more.items in
    record {
      ascending : IsAscending g.K.Ord.cmp pairs;
      more_ascending : IsAscending g.K.Ord.cmp more;
      apart : HaveNoCommonKey g.K.Ord.cmp pairs more;
      same : merged g.K.Ord.cmp pairs more ≡ merged g.K.Ord.cmp (reverse l.initial.items.items) (reverse l.initial.more.items);
      room : vec_len l.items + vec_len l.more ≤ vec_capacity l.items;
      capacity : vec_capacity l.items ≡ vec_capacity l.initial.items;
      more_capacity : vec_capacity l.more ≡ vec_capacity l.initial.more;
    }

abbrev pub decreases-moving : goal.decreases-moving
decreases-moving g l = vec_len l.more
