-- Which servers are up, by their results.
use Rattle.std.proofs.Common.{◌≡◌, ◌≢◌, ℕ, zero, suc, ◌+◌, ◌<◌, Bool, List, [], ◌∷◌, ◌++◌, Option, None, Some, get_or}
use Rattle.std.proofs.Common.{slice_get, slice_index_or, length, replicate, refl, ap, sym, ◌∙◌, subst, arith, inl, inr}
use Rattle.std.proofs.Math.ListN.{set, length-set, length-replicate}
use Rattle.std.proofs.lemmas.List.{get_or-set_same, get_or-set_other, get_or_append_left, get_or_push}
use Rattle.std.proofs.lemmas.Option.{same_Some, slice_get_within, slice_get-get_or, slice_get_read, get_or_from_slice_get}
use Rattle.check_state.specs.declared.health.Change.{Change}
use Rattle.check_state.specs.Results.{is_up_after}
use Rattle.check_state.specs.Standing.{Standing, IsHealthOf, change_between}
use Rattle.log_entries.specs.declared.setup.ServerSet.{ServerSet}
use Rattle.log_entries.specs.Health.{is_up_by, results_of, with_result}
use Rattle.base_lists.proofs.Places.{same_or_other}
use Rattle.base_lists.proofs.Replicated.{index-replicate}
use Rattle.dispatch_core.specs.Checks.{IsHealthBy, AreHealths}
use Rattle.dispatch_state.specs.LoggedStates.{is_up_at}

-- one health more
pub one_more : (servers : List ServerSet) (healths more : List (Option Standing)) (health : Option Standing) (n : ℕ) (it : ServerSet) → length healths ≡ n
    → more ≡ healths ++ health ∷ [] → slice_get servers n ≡ Some it → IsHealthBy it.rise_fall [] health
    → ((server : ℕ) (x : ServerSet) → server < n → slice_get servers server ≡ Some x
    → IsHealthBy x.rise_fall [] (slice_index_or healths server None))
    → (server : ℕ) (x : ServerSet) → server < n + 1 → slice_get servers server ≡ Some x
    → IsHealthBy x.rise_fall [] (slice_index_or more server None)
one_more servers healths more health n it long pushed at is before server x within stands =
    elim (same_or_other server n) [
      | inl e ↦
          let same : it ≡ x = same_Some it x (sym at ∙ ap (slice_get servers) (sym e) ∙ stands) in
          subst (λ (o : Option Standing). IsHealthBy x.rise_fall [] o)
          (sym (ap (λ (l : List (Option Standing)). slice_index_or l server None) pushed ∙ get_or_push healths health None server (long ∙ sym e)))
          (subst (λ (y : ServerSet). IsHealthBy y.rise_fall [] health) same is)
      | inr e ↦
          let below : server < n = omega arith in
          subst (λ (o : Option Standing). IsHealthBy x.rise_fall [] o)
          (sym (ap (λ (l : List (Option Standing)). slice_index_or l server None) pushed ∙ get_or_append_left healths (health ∷ []) None server (omega arith)))
          (before server x below stands)
    ]

pub all_made : (servers : List ServerSet) (healths : List (Option Standing)) (n : ℕ) → n ≡ length servers → length healths ≡ n
    → ((server : ℕ) (x : ServerSet) → server < n → slice_get servers server ≡ Some x
    → IsHealthBy x.rise_fall [] (slice_index_or healths server None))
    → AreHealths servers (replicate (length servers) []) healths
all_made servers healths n all long each = record {
  many = length-replicate (length servers) [];
  each_one = long ∙ all;
  each = λ server it stands.
      subst (λ (l : List Bool). IsHealthBy it.rise_fall l (slice_index_or healths server None)) (sym (index-replicate (length servers) server []))
      (each server it (let within : server < length servers = slice_get_within servers server it stands in omega arith) stands);
}

-- whether a server is up is told by its own results
pub up_at : (servers : List ServerSet) (results : List (List Bool)) (server : ℕ) (it : ServerSet) → slice_get servers server ≡ Some it
    → is_up_at servers results server ≡ is_up_by it.rise_fall (results_of results server)
up_at [] results server it stands = cc
up_at (first ∷ servers) [] zero it stands = ap (λ (x : ServerSet). is_up_by x.rise_fall []) (same_Some first it stands)
up_at (first ∷ servers) [] (suc server) it stands = up_at servers [] server it stands
up_at (first ∷ servers) (own ∷ results) zero it stands = ap (λ (x : ServerSet). is_up_by x.rise_fall own) (same_Some first it stands)
up_at (first ∷ servers) (own ∷ results) (suc server) it stands = up_at servers results server it stands

-- a result more of one server
pub results_set : (results : List (List Bool)) (server : ℕ) (ok : Bool) → server < length results
    → results_of (with_result server ok results) server ≡ results_of results server ++ ok ∷ []
results_set results server ok within = get_or-set_same results server (results_of results server ++ ok ∷ []) [] within

results_other : (results : List (List Bool)) (server other : ℕ) (ok : Bool) → other ≢ server
    → results_of (with_result server ok results) other ≡ results_of results other
results_other results server other ok differs = get_or-set_other results server other (results_of results server ++ ok ∷ []) [] differs

-- the health of a server that has one is of its limits
pub record IsItsHealth (servers : List ServerSet) (results : List (List Bool)) (server : ℕ) (standing : Standing) : Type 0 where
  pub it : ServerSet
  pub stands : slice_get servers server ≡ Some it
  pub rise : ℕ
  pub fall : ℕ
  pub checked : it.rise_fall ≡ Some (rise, fall)
  pub health : IsHealthOf rise fall (results_of results server) standing

pub its_health : (servers : List ServerSet) (results : List (List Bool)) (healths : List (Option Standing)) (server : ℕ) (standing : Standing)
    → AreHealths servers results healths → slice_get healths server ≡ Some (Some standing) → IsItsHealth servers results server standing
its_health servers results healths server standing are at = by_server (slice_get servers server) refl
  where
    by_rise : (it : ServerSet) → slice_get servers server ≡ Some it → (rise_fall : Option (ℕ × ℕ)) → it.rise_fall ≡ rise_fall
        → IsHealthBy rise_fall (results_of results server) (Some standing) → IsItsHealth servers results server standing
    by_rise it stands None checked none = let no : Some standing ≡ None = none in cc
    by_rise it stands (Some both) checked is = record {
      it = it;
      stands = stands;
      rise = both.0;
      fall = both.1;
      checked = checked;
      health = subst (λ (s : Standing). IsHealthOf both.0 both.1 (results_of results server) s) (sym (same_Some standing is.0 is.1)) is.2;
    }

    by_server : (it : Option ServerSet) → slice_get servers server ≡ it → IsItsHealth servers results server standing
    by_server None stands =
        let within : server < length healths = slice_get_within healths server (Some standing) at in
        let below : server < length servers = (let e = are.each_one in omega arith) in
        let no_server : ServerSet = record { limit = 0; maxqueue = 0; weight = 0; rise_fall = None } in
        let no : None ≡ Some (get_or servers server no_server) = sym stands ∙ slice_get-get_or servers server no_server below in
        cc
    by_server (Some it) stands =
        by_rise it stands it.rise_fall refl
        (subst (λ (o : Option Standing). IsHealthBy it.rise_fall (results_of results server) o) (get_or_from_slice_get healths server (Some standing) None at)
        (are.each server it stands))

-- the health that a read found
pub health_read : (list now : List (Option Standing)) (server : ℕ) (x : Option Standing) (health standing : Standing) → list ≡ now
    → slice_get now server ≡ Some (Some standing) → x ≡ get_or list server x → x ≡ Some health → slice_get now server ≡ Some (Some health)
health_read list now server x health standing same stands read is =
    let there : slice_get list server ≡ Some (Some standing) = ap (λ (l : List (Option Standing)). slice_get l server) same ∙ stands in
    ap (λ (l : List (Option Standing)). slice_get l server) (sym same)
    ∙ slice_get_read list (length list) server x refl (slice_get_within list server (Some standing) there) read ∙ ap Some is

pub healths_after : (servers : List ServerSet) (results : List (List Bool)) (healths now : List (Option Standing)) (server : ℕ) (ok : Bool)
    (standing new : Standing) → AreHealths servers results healths → slice_get healths server ≡ Some (Some standing)
    → now ≡ set healths server (Some new)
    → ((rise fall : ℕ) (l : List Bool) → IsHealthOf rise fall l standing → IsHealthOf rise fall (l ++ ok ∷ []) new)
    → AreHealths servers (with_result server ok results) now
healths_after servers results healths now server ok standing new are at written goes = record {
  many = length-set results server (results_of results server ++ ok ∷ []) ∙ are.many;
  each_one = ap length written ∙ length-set healths server (Some new) ∙ are.each_one;
  each = λ other it stands.
      elim (same_or_other other server) [
        | inl e ↦ here other it stands e
        | inr e ↦
            subst (λ (l : List Bool). IsHealthBy it.rise_fall l (slice_index_or now other None)) (sym (results_other results server other ok e))
            (subst (λ (o : Option Standing). IsHealthBy it.rise_fall (results_of results other) o)
            (sym (ap (λ (l : List (Option Standing)). slice_index_or l other None) written ∙ get_or-set_other healths server other (Some new) None e))
            (are.each other it stands))
      ];
}
  where
    within : server < length healths
    within = slice_get_within healths server (Some standing) at

    here : (other : ℕ) (it : ServerSet) → slice_get servers other ≡ Some it → other ≡ server
        → IsHealthBy it.rise_fall (results_of (with_result server ok results) other) (slice_index_or now other None)
    here other it stands e =
        let own = its_health servers results healths server standing are at in
        let same : own.it ≡ it = same_Some own.it it (sym own.stands ∙ ap (slice_get servers) (sym e) ∙ stands) in
        let long : server < length results = (let a = are.many in let b = are.each_one in let w = within in omega arith) in
        subst (λ n. IsHealthBy it.rise_fall (results_of (with_result server ok results) n) (slice_index_or now n None)) (sym e)
        (subst (λ (l : List Bool). IsHealthBy it.rise_fall l (slice_index_or now server None)) (sym (results_set results server ok long))
        (subst (λ (o : Option Standing). IsHealthBy it.rise_fall (results_of results server ++ ok ∷ []) o)
        (sym (ap (λ (l : List (Option Standing)). slice_index_or l server None) written ∙ get_or-set_same healths server (Some new) None within))
        (subst (λ (r : Option (ℕ × ℕ)). IsHealthBy r (results_of results server ++ ok ∷ []) (Some new))
        (sym own.checked ∙ ap (λ (x : ServerSet). x.rise_fall) same)
        (new, refl, goes own.rise own.fall (results_of results server) own.health))))

-- a server's standing is told by its health
pub up_is : (servers : List ServerSet) (results : List (List Bool)) (healths : List (Option Standing)) (server : ℕ) (standing : Standing) (up : Bool)
    → AreHealths servers results healths → slice_get healths server ≡ Some (Some standing)
    → ((rise fall : ℕ) (l : List Bool) → IsHealthOf rise fall l standing → up ≡ is_up_after rise fall l) → up ≡ is_up_at servers results server
up_is servers results healths server standing up are at tells =
    let own = its_health servers results healths server standing are at in
    tells own.rise own.fall (results_of results server) own.health
    ∙ sym (up_at servers results server own.it own.stands ∙ ap (λ (r : Option (ℕ × ℕ)). is_up_by r (results_of results server)) own.checked)

-- and what a result changes
pub change_is : (servers : List ServerSet) (results : List (List Bool)) (healths : List (Option Standing)) (server : ℕ) (ok : Bool) (standing : Standing)
    (change : Change) → AreHealths servers results healths → slice_get healths server ≡ Some (Some standing)
    → ((rise fall : ℕ) (l : List Bool) → IsHealthOf rise fall l standing
    → change ≡ change_between (is_up_after rise fall l) (is_up_after rise fall (l ++ ok ∷ [])))
    → change ≡ change_between (is_up_at servers results server) (is_up_at servers (with_result server ok results) server)
change_is servers results healths server ok standing change are at tells =
    let own = its_health servers results healths server standing are at in
    let within : server < length healths = slice_get_within healths server (Some standing) at in
    let long : server < length results = (let a = are.many in let b = are.each_one in omega arith) in
    tells own.rise own.fall (results_of results server) own.health
    ∙ ap (λ b. change_between b (is_up_after own.rise own.fall (results_of results server ++ ok ∷ [])))
    (sym (up_at servers results server own.it own.stands ∙ ap (λ (r : Option (ℕ × ℕ)). is_up_by r (results_of results server)) own.checked))
    ∙ ap (λ b. change_between (is_up_at servers results server) b)
    (sym (up_at servers (with_result server ok results) server own.it own.stands
    ∙ ap (λ (l : List Bool). is_up_by own.it.rise_fall l) (results_set results server ok long)
    ∙ ap (λ (r : Option (ℕ × ℕ)). is_up_by r (results_of results server ++ ok ∷ [])) own.checked))
