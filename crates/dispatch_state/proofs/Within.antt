-- The servers and queues of placements are those that there are.
use Rattle.std.proofs.Common.{◌≡◌, ℕ, ◌<◌, MatchOption, true, Option, None, Some}
use Rattle.std.proofs.Common.{length, refl, sym, subst}
use Rattle.std.proofs.lemmas.Bool.Decides.{Decides-eqb}
use Rattle.log_entries.specs.declared.entry.Entry.TheVariants.{Joined}
use Rattle.log_entries.specs.declared.queue.Queue.{Queue}
use Rattle.log_entries.specs.declared.queue.Queue.TheVariants.{Backend, Server}
use Rattle.log_entries.specs.Histories.{History, state_of, end_of}
use Rattle.log_entries.specs.Judgement.{Stage, placing, freed_by_failure, MayCome}
use Rattle.log_entries.specs.Picks.{IsPick}
use Rattle.log_entries.specs.Placement.{IsCandidate, IsChosen}
use Rattle.log_entries.specs.Rows.{pin_of}
use Rattle.log_entries.specs.States.{scene}
use Rattle.log_entries.specs.Scenes.{Scene, is_up, working_pin, may_take}
use Rattle.log_entries.proofs.Choices.{free_there, pinned_there, room_there}
use Rattle.log_entries.specs.Queues.{IsQueueOf}
use Rattle.base_lists.proofs.Both.{and_second}
use Rattle.server_pick.specs.declared.heads.Heads.{Heads}
use Rattle.server_pick.specs.Heads.{IsLawfulTake}
use Rattle.dispatch_state.specs.Histories.{stage_of, MayComeNext}

-- a server that a request is put on is one of them
chosen_within : (here : Scene) (cursor : ℕ) (pin avoid : Option ℕ) (server : ℕ) → IsChosen here cursor pin avoid server → server < length here.servers
chosen_within here cursor pin avoid server chosen = by_pin (working_pin here pin) refl chosen
  where
    by_pin : (w : Option ℕ) → working_pin here pin ≡ w → MatchOption w (IsPick here cursor (IsCandidate here avoid) server) (λ own. own ≡ server)
        → server < length here.servers
    by_pin None e pick = room_there here server pick.member.0
    by_pin (Some own) e same = subst (λ n. n < length here.servers) same (pinned_there here pin own e)

-- the queue that a newcomer joins is one of them
pub joined_within : (h : History) (u : ℕ) (queue : Queue) → MayComeNext h (Joined u queue) → IsQueueOf (length h.setup.servers) queue
joined_within h u Backend may = tt
joined_within h u (Server v) may = by_stage (stage_of h) may
  where
    by_stage : (t : Stage) → MayCome (end_of h) t (Joined u (Server v)) → v < length h.setup.servers
    by_stage (placing n) m = chosen_within (scene h.setup (state_of h)) (state_of h).cursor (pin_of n (state_of h).rows) None v m.1.0
    by_stage (freed_by_failure n w) m = chosen_within (scene h.setup (state_of h)) (state_of h).cursor None (Some w) v m.put.1.0
    by_stage t m = absurd m

-- the server and the queue of a lawful grant are among them
pub take_within : (here : Scene) (cursor : ℕ) (heads : Heads) (server : ℕ) (queue : Queue) → IsLawfulTake here cursor heads server queue
    → (server < length here.servers) × IsQueueOf (length here.servers) queue
take_within here cursor heads server queue take =
    let grant = take.2 in
    let within : server < length here.servers = free_there here server grant.next.takes.0 in
    (within, by_queue queue grant.taken within)
  where
    by_queue : (q : Queue) → may_take here server q ≡ true → server < length here.servers → IsQueueOf (length here.servers) q
    by_queue Backend taken within = tt
    by_queue (Server own) taken within =
        subst (λ n. n < length here.servers) (sym ((Decides-eqb own server).0 (and_second (is_up here server) _ taken))) within
