-- Checks and new limits of servers, on a logged state.
use Rattle.std.proofs.Common.{◌≡◌, ℕ, ◌≤◌, max, Bool, List, refl, ap, sym, ◌∙◌, subst, arith}
use Rattle.std.proofs.Math.ListN.{set}
use Rattle.std.proofs.lemmas.Bool.Decides.{nat_tests}
use Rattle.due_key.specs.declared.key.Key.{Key}
use Rattle.log_entries.specs.declared.entry.Entry.TheVariants.{Check, Limit}
use Rattle.log_entries.specs.Health.{ups_of, with_result}
use Rattle.log_entries.specs.Histories.{state_of, effective, refuses_check, refuses_limit}
use Rattle.log_entries.specs.declared.allowance.Allowance.{Allowance}
use Rattle.log_entries.specs.declared.allowance.Intake.{Intake}
use Rattle.log_entries.specs.Rows.{Rows, served}
use Rattle.slot_ledger.specs.Ledgers.{with_up, ledger_with_limit}
use Rattle.slot_ledger.specs.Cells.{rows_in}
use Rattle.dispatch_state.specs.declared.position.Position.{Position}
use Rattle.dispatch_state.specs.Histories.{MayComeNext, MayBeginNext}
use Rattle.dispatch_state.specs.LoggedStates.{LoggedState, history_of, noted, is_up_at, IsLoggedState}
use Rattle.dispatch_state.proofs.Entries.{moment_moved}
use Rattle.dispatch_state.proofs.Healthy.{ups_set, many_results}
use Rattle.dispatch_state.proofs.Stepping.{row_less}

module _ {N : Type 0} (pair_of : N → Key × ℕ) where
  pub check_kept : (t : LoggedState N) (server moment now : ℕ) (ok up : Bool) → IsLoggedState pair_of t
      → MayBeginNext (history_of t) moment (refuses_check (history_of t) server) → now ≡ max t.position.last moment
      → up ≡ is_up_at t.kept.setup.servers (with_result server ok (state_of (history_of t)).results) server
      → IsLoggedState pair_of
      (record {
        kept = with_up t.kept server up;
        log = noted t.log (Check now server ok);
        waits = t.waits;
        position =
            record { cursor = t.position.cursor; last = now; ticket = t.position.ticket };
      })
  check_kept t server moment now ok up is begins later told =
      let h = history_of t in
      let s = state_of h in
      let when : now ≡ effective h moment = later ∙ ap (λ (p : Position). max p.last moment) is.holds.position in
      let may : MayComeNext h (Check now server ok) = subst (λ n. MayComeNext h (Check n server ok)) (sym when) begins in
      row_less pair_of t (Check now server ok) (set t.kept.ups server up) t.kept.limits (record {
        cursor =
            t.position.cursor;
        last = now;
        ticket = t.position.ticket;
      }) is may refl refl
      (let grows : s.moment ≤ max s.moment moment = grind (arith, nat_tests) in let e = when in omega arith)
      (ap (λ (l : List Bool). set l server up) is.holds.ups
      ∙ ap (λ b. set (ups_of t.kept.setup.servers s.results) server b) told
      ∙ sym (ups_set t.kept.setup.servers s.results server ok (many_results h is.judged.begins)))
      is.holds.limits
      (moment_moved t.position s now is.holds.position)

  pub limit_kept : (t : LoggedState N) (server : ℕ) (limit : Intake) (moment now : ℕ) → IsLoggedState pair_of t
      → MayBeginNext (history_of t) moment (refuses_limit (history_of t) server) → now ≡ max t.position.last moment
      → IsLoggedState pair_of
      (record {
        kept = ledger_with_limit t.kept server limit;
        log = noted t.log (Limit now server limit);
        waits = t.waits;
        position = record { cursor = t.position.cursor; last = now; ticket = t.position.ticket };
      })
  limit_kept t server limit moment now is begins later =
      let h = history_of t in
      let s = state_of h in
      let when : now ≡ effective h moment = later ∙ ap (λ (p : Position). max p.last moment) is.holds.position in
      let may : MayComeNext h (Limit now server limit) = subst (λ n. MayComeNext h (Limit n server limit)) (sym when) begins in
      row_less pair_of t (Limit now server limit) t.kept.ups (ledger_with_limit t.kept server limit).limits (record {
        cursor = t.position.cursor;
        last = now;
        ticket = t.position.ticket;
      }) is may refl refl
      (let grows : s.moment ≤ max s.moment moment = grind (arith, nat_tests) in let e = when in omega arith)
      is.holds.ups
      (ap (λ (l : List Allowance). set l server (record { limit = limit; served = served server (rows_in t.kept.cells) })) is.holds.limits
      ∙ ap (λ (r : Rows). set s.limits server (record { limit = limit; served = served server r })) is.holds.rows)
      (moment_moved t.position s now is.holds.position)
