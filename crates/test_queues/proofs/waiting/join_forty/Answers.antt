use Rattle.std.proofs.Common.{◌≡◌, None, Some, slice_get, ap, sym, ◌∙◌, subst, arith, inl, inr}
use Rattle.std.proofs.lemmas.Option.{same_Some}
use Rattle.due_key.specs.declared.key.Key.{Key}
use Rattle.base_lists.proofs.Places.{get-set_cases, get-set_other}
use Rattle.base_lists.proofs.Replicated.{get-replicate, none_in_empty}
use Rattle.queue_waits.specs.declared.waiters.Waiter.{Waiter}
use Rattle.queue_waits.specs.Waitlists.{Waitlist, Waiters, WaitsAt}
use Rattle.test_queues.proofs.waiting.join_forty.Goals as goal

pub loop-place-init : goal.loop-place-init
loop-place-init g c = record {
  servers = ap (λ (l : Waitlist). l.servers) c.requires;
  vacant = λ p low high. ap (λ (l : Waitlist). slice_get l.waiters p) c.requires ∙ get-replicate 40 p None high;
  tickets = λ p w waits. absurd (none_in_empty 40 p w (subst (λ (l : Waitlist). WaitsAt l.waiters p w) c.requires waits));
}

pub loop-place-preserved : goal.loop-place-preserved
loop-place-preserved g c =
    let its = c.join_one.ensures.waits in
    let ws = c.loop-place.waiting.waiters in
    let stood = c.loop-place.invariant.vacant c.loop-place.place (omega arith) c.loop-place-test.true in
    record {
      servers = c.join_one.ensures.servers;
      vacant = λ p low high. ap (λ (l : Waiters). slice_get l p) its.2
          ∙ get-set_other ws c.loop-place.place p (Some its.0) (λ same. absurd (omega (arith, same, low)))
          ∙ c.loop-place.invariant.vacant p (omega arith) high;
      tickets = λ p w waits.
          elim (get-set_cases ws c.loop-place.place p None (Some its.0) (Some w) stood (subst (λ (l : Waiters). WaitsAt l p w) its.2 waits)) [
            | inl here ↦
                let key : w.key ≡ c.key.result = ap (λ (x : Waiter). x.key) (sym (same_Some its.0 w here.1)) ∙ its.1 in
                let ticket = ap (λ (k : Key). k.ticket) key in
                let told = c.key.ensures in
                let below = c.loop-place-test.true in
                let at = here.0 in
                (omega arith, omega arith)
            | inr there ↦ let old = c.loop-place.invariant.tickets p w there.1 in
                let before = old.0 in (omega arith, old.1)
          ];
    }
