-- Queues of which one changes.
use Rattle.std.proofs.Common.{◌≡◌, ◌≢◌, Bool, true, false, [], length}
use Rattle.std.proofs.Common.{refl, ap, subst, ◌⊎◌, inl, inr}
use Rattle.std.proofs.Math.ListN.{length-set}
use Rattle.std.proofs.lemmas.List.{get_or-set_same, get_or-set_other}
use Rattle.log_entries.specs.declared.queue.Queue.{Queue}
use Rattle.log_entries.specs.declared.queue.Queue.TheVariants.{Backend, Server}
use Rattle.log_entries.specs.Rows.{same_queue}
use Rattle.log_entries.specs.Queues.{IsQueueOf}
use Rattle.log_entries.proofs.Choices.{queue_same, queue_own}
use Rattle.queue_waits.specs.Lines.{Line, Lined, line_at, with_line}

-- two queues are one, or not
pub one_or_other : (a b : Queue) → (a ≡ b) ⊎ (a ≢ b)
one_or_other a b = by_test (same_queue a b) refl
  where
    by_test : (t : Bool) → same_queue a b ≡ t → (a ≡ b) ⊎ (a ≢ b)
    by_test true e = inl (queue_same a b e)
    by_test false e = inr (λ same. let t : same_queue a b ≡ true = subst (λ (q : Queue). same_queue a q ≡ true) same (queue_own a) in cc)

pub line_own : (lined : Lined) (queue : Queue) (waits : Line) → IsQueueOf (length lined.own) queue → line_at (with_line lined queue waits) queue ≡ waits
line_own lined Backend waits within = refl
line_own lined (Server s) waits within = get_or-set_same lined.own s waits [] within

pub line_other : (lined : Lined) (queue other : Queue) (waits : Line) → other ≢ queue
    → line_at (with_line lined queue waits) other ≡ line_at lined other
line_other lined Backend Backend waits differs = absurd (differs refl)
line_other lined Backend (Server t) waits differs = refl
line_other lined (Server s) Backend waits differs = refl
line_other lined (Server s) (Server t) waits differs = get_or-set_other lined.own s t waits [] (λ e. differs (ap Server e))

pub lines_kept : (lined : Lined) (queue : Queue) (waits : Line) → length (with_line lined queue waits).own ≡ length lined.own
lines_kept lined Backend waits = refl
lines_kept lined (Server s) waits = length-set lined.own s waits

pub room_kept : (lined : Lined) (queue : Queue) (waits : Line) → (with_line lined queue waits).room ≡ lined.room
room_kept lined Backend waits = refl
room_kept lined (Server s) waits = refl
