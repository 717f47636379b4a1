-- What one pass has so far, and the lines that are left, come to what all lines come to.
use Rattle.std.proofs.Common.{◌≡◌, ◌∙◌, ◌+◌, ◌++◌, ℕ, suc, List, [], ◌∷◌, length, Option, Some, None, Result, Ok, Err, refl, sym, ap}
use Rattle.proxy_config.specs.declared.faults.FaultCause.{FaultCause}
use Rattle.proxy_config.specs.declared.faults.ConfigFault.{ConfigFault}
use Rattle.proxy_config.specs.declared.draft.Draft.{Draft}
use Rattle.proxy_config.specs.declared.keywords.Keyword.{Keyword}
use Rattle.proxy_config.specs.declared.parts.Pin.{Pin}
use Rattle.proxy_config.specs.declared.parts.Server.{Server}
use Rattle.proxy_config.specs.declared.progress.Progress.{Progress}
use Rattle.proxy_config.specs.declared.wishes.UnresolvedUseServer.{UnresolvedUseServer}
use Rattle.proxy_config.specs.Outcomes.{◌>>=◌}
use Rattle.proxy_config.specs.Wishes as wished
use Rattle.proxy_config.specs.Draft as draft
use Rattle.proxy_config.specs.Resolved.{Resolved, resolve}
use Rattle.proxy_config.specs.Progress.{with_pins, settled, took, take_line, unless_known}
use Rattle.proxy_config.specs.File.{is_line, keyword_in, run, then_lines}
use Rattle.proxy_config.proofs.Wished.{of_line}

-- a draft with these pins
abbrev pub fit : List Pin → Draft → Resolved
fit ps d = record { draft = d; pins = ps }

-- what comes after a line may be another thing that is the same
same_then : {A B : Type 0} (n : ℕ) (r : Result B FaultCause) (f g : B → Result A ConfigFault) → ((x : B) → f x ≡ g x) → then_lines n r f ≡ then_lines n r g
same_then n (Ok x) f g same = same x
same_then n (Err cause) f g same = refl

-- what comes after the pins may be another thing that is the same for as many pins
same_pins : {A : Type 0} (servers : List Server) (wishes : List UnresolvedUseServer) (f g : List Pin → Result A ConfigFault)
    → ((ps : List Pin) → length ps ≡ length wishes → f ps ≡ g ps) → with_pins servers wishes f ≡ with_pins servers wishes g
same_pins servers [] f g same = same [] refl
same_pins servers (wish ∷ wishes) f g same = same_then wish.line (wished.asked_pin servers wish) _ _ (λ pin.
    same_pins servers wishes (λ ps. f (pin ∷ ps)) (λ ps. g (pin ∷ ps)) (λ ps count. same (pin ∷ ps) (ap (λ (n : ℕ). suc n) count)))

-- one wish more at the end
one_more : {A : Type 0} (servers : List Server) (wishes : List UnresolvedUseServer) (wish : UnresolvedUseServer) (f : List Pin → Result A ConfigFault)
    → with_pins servers (wishes ++ wish ∷ []) f ≡ with_pins servers wishes (λ ps. then_lines wish.line (wished.asked_pin servers wish) (λ pin. f (ps ++ pin ∷ [])))
one_more servers [] wish f = refl
one_more servers (first ∷ wishes) wish f = same_then first.line (wished.asked_pin servers first) _ _ (λ pin. one_more servers wishes wish (λ ps. f (pin ∷ ps)))

chained : {A B : Type 0} → Result A ConfigFault → (A → Result B ConfigFault) → Result B ConfigFault
chained (Ok x) f = f x
chained (Err fault) f = Err fault

first_pin : {A B : Type 0} (n : ℕ) (r : Result Pin FaultCause) (more : Pin → Result B ConfigFault) (f : Pin → Result A ConfigFault) (g : A
    → Result B ConfigFault)
    → ((pin : Pin) → more pin ≡ chained (f pin) g) → then_lines n r more ≡ chained (then_lines n r f) g
unfolding chained
first_pin n (Ok pin) more f g same = same pin
first_pin n (Err cause) more f g same = refl

-- the pins may be made first
pins_first : {A B : Type 0} (servers : List Server) (wishes : List UnresolvedUseServer) (f : List Pin → Result A ConfigFault) (g : A → Result B ConfigFault)
    → with_pins servers wishes (λ ps. chained (f ps) g) ≡ chained (with_pins servers wishes f) g
unfolding chained
pins_first servers [] f g = refl
pins_first servers (wish ∷ wishes) f g = first_pin wish.line (wished.asked_pin servers wish) _ _ g (λ pin. pins_first servers wishes (λ ps. f (pin ∷ ps)) g)

-- What is known comes to the first fault of a pin, to the known fault behind the pins, or to a draft with the pins.
settled_first : (servers : List Server) (p : Progress) (r : Result (List Pin) ConfigFault) → with_pins servers p.wishes Ok ≡ r
    → settled servers p ≡ chained r (λ ps. unless_known p.fault (Ok (fit ps p.draft)))
unfolding chained
settled_first servers p r is = pins_first servers p.wishes Ok (λ ps. unless_known p.fault (Ok (fit ps p.draft)))
    ∙ ap (λ (r : Result (List Pin) ConfigFault). chained r (λ ps. unless_known p.fault (Ok (fit ps p.draft)))) is

pub settled_err : (servers : List Server) (p : Progress) (fault : ConfigFault) → with_pins servers p.wishes Ok ≡ Err fault → settled servers p ≡ Err fault
unfolding chained
settled_err servers p fault is = settled_first servers p (Err fault) is

pub settled_known : (servers : List Server) (p : Progress) (ps : List Pin) (fault : ConfigFault) → with_pins servers p.wishes Ok ≡ Ok ps → p.fault ≡ Some fault
    → settled servers p ≡ Err fault
unfolding chained
settled_known servers p ps fault is known = settled_first servers p (Ok ps) is ∙ ap (λ (k : Option ConfigFault). unless_known k (Ok (fit ps p.draft))) known

pub settled_whole : (servers : List Server) (p : Progress) (ps : List Pin) → with_pins servers p.wishes Ok ≡ Ok ps → p.fault ≡ None
    → settled servers p ≡ Ok (fit ps p.draft)
unfolding chained
settled_whole servers p ps is known = settled_first servers p (Ok ps) is ∙ ap (λ (k : Option ConfigFault). unless_known k (Ok (fit ps p.draft))) known

-- what is known and the lines from this number on come to this, by the servers of the whole file
abbrev pub coming : List Server → Option ℕ → Progress → ℕ → List (List ℕ) → Result Resolved ConfigFault
coming servers long p n lines = with_pins servers p.wishes (λ ps. unless_known p.fault (run servers long (fit ps p.draft) n lines))

then_resolved : (servers : List Server) (ps : List Pin) (n : ℕ) (d : Draft) (wish : UnresolvedUseServer) (k : Resolved → Result Resolved ConfigFault) → wish.line ≡ n
    → then_lines n (resolve servers ps (d, Some wish)) k ≡ then_lines wish.line (wished.asked_pin servers wish) (λ pin. k (fit (ps ++ pin ∷ []) d))
then_resolved servers ps n d wish k line = by_pin (wished.asked_pin servers wish)
  where
    by_pin : (r : Result Pin FaultCause) → then_lines n (r >>= λ pin. Ok (fit (ps ++ pin ∷ []) d)) k
        ≡ then_lines wish.line r (λ pin. k (fit (ps ++ pin ∷ []) d))
    by_pin (Ok pin) = refl
    by_pin (Err cause) = ap (λ (m : ℕ). Err (record { line = m; cause = cause })) (sym line)

-- a line that is read makes no difference
after_line : (servers : List Server) (long : Option ℕ) (p : Progress) (n : ℕ) (lines : List (List ℕ)) (keyword : Option Keyword) (known : Option ConfigFault)
    (r : Result (Draft × Option UnresolvedUseServer) FaultCause)
    → p.fault ≡ known → ((d : Draft) (wish : UnresolvedUseServer) → r ≡ Ok (d, Some wish) → wish.line ≡ n)
    → with_pins servers p.wishes (λ ps. unless_known known (then_lines n (r >>= resolve servers ps) (λ next. run servers long next (n + 1) lines)))
    ≡ coming servers long (took known p n keyword r) (n + 1) lines
after_line servers long p n lines keyword None (Ok (d, None)) known line = rw known refl
after_line servers long p n lines keyword None (Ok (d, Some wish)) known line =
    rw known (same_pins servers p.wishes _ _ (λ ps count. then_resolved servers ps n d wish (λ next. run servers long next (n + 1) lines) (line d wish refl))
    ∙ sym (one_more servers p.wishes wish (λ ps. run servers long (fit ps d) (n + 1) lines)))
after_line servers long p n lines keyword None (Err cause) known line = refl
after_line servers long p n lines keyword (Some fault) (Ok (d, wish)) known line = rw known refl
after_line servers long p n lines keyword (Some fault) (Err cause) known line = rw known refl

pub coming-take : (servers : List Server) (long : Option ℕ) (p : Progress) (n : ℕ) (line : List ℕ) (lines : List (List ℕ))
    → coming servers long p n (line ∷ lines) ≡ coming servers long (take_line (is_line long n) p n line) (n + 1) lines
coming-take servers long p n line lines =
    same_pins servers p.wishes _ _ (λ ps count.
    ap (λ (m : ℕ). unless_known p.fault (then_lines n (draft.step m (is_line long n) p.draft n line >>= resolve servers ps)
    (λ next. run servers long next (n + 1) lines))) count)
    ∙ after_line servers long p n lines (keyword_in line) p.fault (draft.step (length p.wishes) (is_line long n) p.draft n line) refl
    (λ d wish is. (of_line (length p.wishes) (is_line long n) p.draft d n line wish is).0)
