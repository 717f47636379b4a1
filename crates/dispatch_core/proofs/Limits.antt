-- A new limit as a composition of entries.
use Rattle.std.proofs.Common.{◌≡◌, ℕ, ◌+◌, ◌≤◌, ◌<◌, [], ◌∷◌, false, None, length, refl, ap, sym, ◌∙◌, subst, arith, nat_le}
use Rattle.std.proofs.lemmas.Bool.Decides.{nat_tests}
use Rattle.log_entries.specs.declared.allowance.Intake.{Intake}
use Rattle.log_entries.specs.declared.entry.Entry.TheVariants.{Limit}
use Rattle.log_entries.specs.declared.refusal.Refusal.TheVariants.{LogFull, NoSuchServer}
use Rattle.log_entries.specs.declared.setup.Setup.{Setup}
use Rattle.log_entries.specs.Histories.{History, refuses_limit}
use Rattle.log_entries.specs.Judgement.{granting, limit_stage}
use Rattle.log_entries.specs.Legal.{IsLegal}
use Rattle.log_entries.specs.Refusals.{lacks_room}
use Rattle.log_entries.proofs.Accepted.{none_refuses}
use Rattle.log_entries.proofs.Judged.{stage_after-push}
use Rattle.dispatch_core.specs.Steps.{HasEventRoom}
use Rattle.dispatch_state.specs.Histories.{with_entry, stage_of}
use Rattle.dispatch_core.proofs.Calls.{legal_places}
use Rattle.dispatch_core.proofs.Going.{begun_room}
use Rattle.dispatch_state.proofs.Placing.{has_room, same_setup}

module _ (h : History) (server : ℕ) (accepted : refuses_limit h server ≡ None) where
  passes_room : lacks_room h.setup (length h.log) ≡ false
  passes_room = (none_refuses (lacks_room h.setup (length h.log)) LogFull ((nat_le (length h.setup.servers) server, NoSuchServer) ∷ []) accepted).0

  pub limit_within : server < length h.setup.servers
  limit_within =
      let first = none_refuses (lacks_room h.setup (length h.log)) LogFull ((nat_le (length h.setup.servers) server, NoSuchServer) ∷ []) accepted in
      let second = none_refuses (nat_le (length h.setup.servers) server) NoSuchServer [] first.1 in
      let fits = second.0 in
      grind (arith, nat_tests)

  pub limit_fits : length h.log < h.setup.log
  limit_fits = let room = has_room h passes_room in omega arith

  module _ (one : History) (m : ℕ) (limit : Intake) (begun : one ≡ with_entry h (Limit m server limit)) where
    pub limit_opens : stage_of one ≡ limit_stage server limit
    limit_opens = ap stage_of begun ∙ stage_after-push granting h.log (Limit m server limit)

    pub limit_there : server < length one.setup.servers
    limit_there = subst (λ (s : Setup). server < length s.servers) (sym (same_setup h one (Limit m server limit) begun)) limit_within

    pub limit_room : IsLegal h → HasEventRoom one
    limit_room legal = begun_room h one (Limit m server limit) (has_room h passes_room) (legal_places h legal) begun
