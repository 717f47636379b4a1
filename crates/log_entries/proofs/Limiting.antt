-- What servers may serve at first.
use Rattle.std.proofs.Common.{◌≡◌, ℕ, suc, ◌+◌, ◌<◌, List, [], ◌∷◌, ◌++◌, length, take, get_or, ap, sym, ◌∙◌, arith}
use Rattle.std.proofs.Math.Seq.{take-length, take-suc}
use Rattle.std.proofs.lemmas.List.{map-append, length-map}
use Rattle.log_entries.specs.declared.allowance.Allowance.{Allowance}
use Rattle.log_entries.specs.declared.allowance.Intake.TheVariants.{Open}
use Rattle.log_entries.specs.declared.setup.ServerSet.{ServerSet}
use Rattle.log_entries.specs.States.{opening_limits}

abbrev opening_limit : ServerSet → Allowance
opening_limit server = record { limit = Open server.limit; served = 0 }

pub opening_limits-length : (servers : List ServerSet) → length (opening_limits servers) ≡ length servers
opening_limits-length servers = length-map servers opening_limit

pub one_limit_more : (servers : List ServerSet) (old new : List Allowance) (i : ℕ) (d : ServerSet) → i < length servers → old ≡ opening_limits (take i servers)
    → new ≡ old ++ opening_limit (get_or servers i d) ∷ []
    → new ≡ opening_limits (take (i + 1) servers)
one_limit_more servers old new i d more made pushed =
    let next : suc i ≡ i + 1 = omega arith in
    pushed ∙ ap (λ l. l ++ opening_limit (get_or servers i d) ∷ []) made ∙ sym (map-append opening_limit (take i servers) (get_or servers i d ∷ []))
    ∙ ap opening_limits (sym (take-suc servers i d more)) ∙ ap (λ k. opening_limits (take k servers)) next

pub all_limits : (servers : List ServerSet) (limits : List Allowance) (i : ℕ) → i ≡ length servers → limits ≡ opening_limits (take i servers)
    → limits ≡ opening_limits servers
all_limits servers limits i all made = made ∙ ap (λ k. opening_limits (take k servers)) all ∙ ap opening_limits (take-length servers)
