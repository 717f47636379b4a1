-- Which servers are up by the results of their checks.
use Rattle.std.proofs.Common.{◌≡◌, ℕ, zero, suc, Bool, true, List, [], ◌∷◌, Option, None, Some, length, replicate, refl, ap, sym, ◌∙◌}
use Rattle.std.proofs.Common.{arith}
use Rattle.std.proofs.Math.ListN.{set}
use Rattle.log_entries.specs.declared.setup.ServerSet.{ServerSet}
use Rattle.log_entries.specs.declared.setup.Setup.{Setup}
use Rattle.log_entries.specs.Health.{is_up_by, ups_of, with_result}
use Rattle.log_entries.specs.Histories.{History, state_of}
use Rattle.log_entries.specs.States.{opening_state}
use Rattle.log_entries.specs.Legal.{IsBase}
use Rattle.log_entries.proofs.Judged.{results_all}
use Rattle.dispatch_state.specs.LoggedStates.{is_up_at}

-- a server without a result is up
up_at_first : (it : Option (ℕ × ℕ)) → is_up_by it [] ≡ true
up_at_first None = refl
up_at_first (Some it) = refl

all_up : (servers : List ServerSet) → replicate (length servers) true ≡ ups_of servers (replicate (length servers) [])
all_up [] = refl
all_up (server ∷ servers) =
    ap (λ (l : List Bool). true ∷ l) (all_up servers) ∙ ap (λ (b : Bool). b ∷ ups_of servers (replicate (length servers) []))
    (sym (up_at_first server.rise_fall))

pub opening_ups : (setup : Setup) → replicate (length setup.servers) true ≡ ups_of setup.servers (opening_state setup).results
opening_ups setup = all_up setup.servers

-- which servers are up after a result
pub ups_set : (servers : List ServerSet) (results : List (List Bool)) (server : ℕ) (ok : Bool) → length results ≡ length servers
    → ups_of servers (with_result server ok results) ≡ set (ups_of servers results) server (is_up_at servers (with_result server ok results) server)
ups_set [] [] server ok long = refl
ups_set [] (own ∷ results) server ok long = absurd (omega arith)
ups_set (first ∷ servers) [] server ok long = absurd (omega arith)
ups_set (first ∷ servers) (own ∷ results) zero ok long = refl
ups_set (first ∷ servers) (own ∷ results) (suc server) ok long =
    ap (λ (l : List Bool). is_up_by first.rise_fall own ∷ l) (ups_set servers results server ok (omega arith))

-- there are as many lists of results as servers
pub many_results : (h : History) → IsBase h.setup h.base → length (state_of h).results ≡ length h.setup.servers
many_results h is = results_all h.setup h.base h.log ∙ is.checked
