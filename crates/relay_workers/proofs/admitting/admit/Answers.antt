use Rattle.std.proofs.Common.{◌≡◌, ℕ, List, [], Option, None, subst, inr, ◌∙◌}
use Rattle.relay_http.specs.Failures.{Conveys, Misses}
use Rattle.relay_http.specs.declared.exchange.Stage.{Stage}
use Rattle.relay_http.specs.declared.exchange.Stage.TheVariants.{New, Failed}
use Rattle.http_texts.specs.declared.fault.Fault.{Fault}
use Rattle.relay_workers.proofs.admitting.admit.Goals as goal

from_nothing : {held rest used text : List ℕ} {r0 r w0 w : Option (List ℕ)} → held ≡ [] → Conveys held rest r0 r w0 w used text
    → Conveys [] rest r0 r w0 w used text
from_nothing {held} {rest} {used} {text} {r0} {r} {w0} {w} none is = subst (λ (it : List ℕ). Conveys it rest r0 r w0 w used text) none is

misses_nothing : {held used text : List ℕ} {r0 r w0 w : Option (List ℕ)} {Why : Fault → List ℕ → Type 0} {Wants : List ℕ → Type 0} {fault : Fault} → held ≡ []
    → Misses held r0 r w0 w used text Why Wants fault → Misses [] r0 r w0 w used text Why Wants fault
misses_nothing {held} {used} {text} {r0} {r} {w0} {w} {Why} {Wants} {fault} none is = subst (λ (it : List ℕ). Misses it r0 r w0 w used text Why Wants fault) none is

still_new : {stage : Stage} → stage ≡ New → stage ≡ Failed → ⊥
still_new is = λ failed. cc

-- a fresh exchange holds nothing
pub returns-in-Ok-arrive-clause-read : goal.returns-in-Ok-arrive-clause-read
returns-in-Ok-arrive-clause-read g c =
    let read = c.in-Ok.ensures.ok in
    (read.0, read.1, read.2, read.3, from_nothing c.requires.held (read.4 None))

-- the request that was read was turned away
pub returns-in-Err-arrive-clause-told : goal.returns-in-Err-arrive-clause-told
returns-in-Err-arrive-clause-told g c =
    let read = c.in-Ok.ensures.ok in
    let told = c.turn_away-in-Err-arrive.ensures.told in record {
      read = c.read_request.new.reader;
      between = g.G.Gate.notes c.arrive.new.gate;
      cause = inr (
        c.turn_away-in-Err-arrive.ensures.closing ∙ c.in-Ok.ensures.unclosed ∙ c.requires.unclosed.closing,
        c.turn_away-in-Err-arrive.ensures.same,
        (
          c.in-Ok.view,
          c.read_request.new.self.pipe.inbox,
          c.in-Err-arrive.field-0,
          (read.0, read.1, read.2, read.3, from_nothing c.requires.held (read.4 None)),
          c.in-Err-arrive.ensures.err,
          c.in-Err-arrive.ensures.answered,
        ),
      );
      client_then = told.0;
      is_told = told.1;
      released = told.2;
    }
