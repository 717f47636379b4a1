-- Feeds one after the other.
use Rattle.std.proofs.Common.{◌≡◌, ◌≢◌, ◌∙◌, ℕ, ◌-◌, Bool, true, false, List, [], ◌∷◌, ◌++◌, take, drop, refl, sym, ap, arith, append_assoc, append-nil, subst}
use Rattle.std.proofs.lemmas.List.{take_all, drop_all}
use Rattle.base_lists.specs.Fronts.{IsFront}
use Rattle.http_bodies.specs.Framings.{IsBody, LacksBody, IsSound}
use Rattle.http_bodies.specs.declared.framing.Framing.{Framing}
use Rattle.http_bodies.specs.declared.framing.Framing.TheVariants as Framed
use Rattle.http_bodies.specs.Readings.{Reading, reading, behind, read, Feeds, start_of}
use Rattle.http_bodies.specs.Runs.{IsSent, Step, Runs, all_taken, all_given}
use Rattle.http_bodies.specs.Stops.{is_done, is_bad}
use Rattle.http_bodies.specs.declared.coding.Coding.{Coding}
use Rattle.http_bodies.specs.declared.coding.Coding.TheVariants.{Length, ToEnd, Chunked}
use Rattle.http_bodies.proofs.Derivatives.{feeds_nil, feeds_trans}
use Rattle.http_bodies.proofs.Meanings.{sent, done, bad, early, sound}

pub runs_feed : (old : Coding) (steps : List Step) (new : Coding) → Runs old steps new → Feeds old new (all_taken steps) (all_given steps)
runs_feed old [] new is = subst (λ (c : Coding). Feeds old c [] []) (sym is) (feeds_nil old)
runs_feed old (s ∷ steps) new is = feeds_trans is.1 (runs_feed is.0 steps new is.2)

-- nothing is made of no input
pub read_nothing : (c : Coding) → read c [] ≡ reading [] [] c
read_nothing (Length left) =
    let first : take left [] ≡ [] = take_all left [] (omega arith) in
    let later : drop left [] ≡ [] = drop_all left [] (omega arith) in
    let same : left - 0 ≡ left = omega arith in
    λ i. reading (first i) (later i) (Length (same i))
read_nothing ToEnd = refl
read_nothing (Chunked framed part) = refl

-- the reading of what was taken alone
alone : {old new : Coding} {taken given : List ℕ} → Feeds old new taken given → read old taken ≡ reading given [] new
alone {old} {new} {taken} {given} f =
    ap (read old) (sym (append-nil taken)) ∙ f.goes_on [] ∙ ap (behind given) (read_nothing new) ∙ (λ i. reading (append-nil given i) [] new)

module _ (framing : Framing) (framed : Bool) (steps : List Step) (c : Coding) (runs : Runs (start_of framing framed) steps c) where
  whole : read (start_of framing framed) (all_taken steps) ≡ reading (all_given steps) [] c
  whole = alone (runs_feed (start_of framing framed) steps c runs)

  pub run_text : IsSent framing framed (all_taken steps) (all_given steps)
  run_text = subst (λ (t : List ℕ). IsSent framing framed (all_taken steps) t) (ap (λ (q : Reading). q.text) whole) (sent framing framed (all_taken steps))

  pub run_front : (more text : List ℕ) → IsSent framing framed (all_taken steps ++ more) text → IsFront (all_given steps) text
  run_front more text all =
      let s = run_text in
      all.most s.used (all_given steps) (s.rest ++ more) s.part (ap (λ l. l ++ more) s.input_is ∙ append_assoc s.used s.rest more)

  pub run_done : is_done c ≡ true → IsBody framing framed (all_taken steps) (all_given steps)
  run_done is =
      let d = done framing framed (all_taken steps) (ap (λ (q : Reading). is_done q.coding) whole ∙ is) in
      let same : all_taken steps ≡ d.0 = d.1 ∙ ap (λ (q : Reading). d.0 ++ q.rest) whole ∙ append-nil d.0 in
      subst (λ (t : List ℕ). IsBody framing framed (all_taken steps) t) (ap (λ (q : Reading). q.text) whole)
      (subst (λ (u : List ℕ). IsBody framing framed u (read (start_of framing framed) (all_taken steps)).text) (sym same) d.2)

  pub run_bad : (more : List ℕ) → is_bad c ≡ true → LacksBody framing (all_taken steps ++ more)
  run_bad more is = bad framing framed (all_taken steps) more (ap (λ (q : Reading). is_bad q.coding) whole ∙ is)

  pub run_early : framing ≢ Framed.ToEnd → is_done c ≡ false → LacksBody framing (all_taken steps)
  run_early other is = early framing framed (all_taken steps) other (ap (λ (q : Reading). is_done q.coding) whole ∙ is)

  pub run_sound : is_bad c ≡ false → IsSound framing (all_taken steps)
  run_sound is = sound framing framed (all_taken steps) (ap (λ (q : Reading). is_bad q.coding) whole ∙ is)

pub run_cuts : (old : Coding) (steps others : List Step) (c d : Coding) → Runs old steps c → Runs old others d → all_taken steps ≡ all_taken others
    → (all_given steps ≡ all_given others) × (c ≡ d)
run_cuts old steps others c d one other same =
    let e = sym (alone (runs_feed old steps c one)) ∙ ap (read old) same ∙ alone (runs_feed old others d other) in
    (ap (λ (q : Reading). q.text) e, ap (λ (q : Reading). q.coding) e)
