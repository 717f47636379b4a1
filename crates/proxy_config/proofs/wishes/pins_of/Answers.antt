use Rattle.std.proofs.Common.{◌≡◌, ◌∙◌, sym, ap, append_assoc, refl, Ok, Result, List, [], ◌∷◌, ◌++◌}
use Rattle.proxy_config.specs.declared.faults.FaultCause.{FaultCause}
use Rattle.proxy_config.specs.declared.faults.ConfigFault.{ConfigFault}
use Rattle.proxy_config.specs.declared.parts.Pin.{Pin}
use Rattle.proxy_config.specs.declared.parts.Server.{Server}
use Rattle.proxy_config.specs.declared.wishes.UnresolvedUseServer.{UnresolvedUseServer}
use Rattle.proxy_config.specs.File.{then_lines}
use Rattle.proxy_config.specs.Progress.{with_pins}
use Rattle.proxy_config.specs.Wishes as grammar
use Rattle.proxy_config.proofs.wishes.pins_of.Goals as goal

-- one pin more
next_pin : (servers : List Server) (all : Result (List Pin) ConfigFault) (pins new : List Pin) (left rest : List UnresolvedUseServer) (wish : UnresolvedUseServer) (pin : Pin)
    → all ≡ with_pins servers left (λ more. Ok (pins ++ more)) → left ≡ wish ∷ rest → grammar.asked_pin servers wish ≡ Ok pin → new ≡ pins ++ pin ∷ []
    → all ≡ with_pins servers rest (λ more. Ok (new ++ more))
next_pin servers all pins new left rest wish pin so_far is read pushed =
    so_far ∙ ap (λ (wishes : List UnresolvedUseServer). with_pins servers wishes (λ more. Ok (pins ++ more))) is
    ∙ ap (λ (r : Result Pin FaultCause). then_lines wish.line r (λ one. with_pins servers rest (λ more. Ok (pins ++ one ∷ more)))) read
    ∙ simp append_assoc refl
    ∙ ap (λ (ps : List Pin). with_pins servers rest (λ more. Ok (ps ++ more))) (sym pushed)

pub wishes-preserved : goal.wishes-preserved
wishes-preserved c = next_pin _ _ _ _ _ _ _ _ c.wishes.invariant c.in-Some.ensures.steps.0 c.in-Ok.ensures c.in_ok-push-in-Ok.ensures.ok
