use Rattle.std.proofs.Common.{◌∙◌, ap, sym}
use Rattle.std.proofs.Math.Logic.{∥∥₁_map}
use Rattle.exchange_driver.specs.Wires.{Wire}
use Rattle.exchange_seated.proofs.Connecting.{left_by, none_waits}
use Rattle.exchange_seated.proofs.linked.Linked.release.Goals as goal

pub returns-clause-left : goal.returns-clause-left
returns-clause-left g c opened before on =
    let clean = c.is_clean.ensures.ends c.if-not-is_clean.false in
    let was = c.replace-line.ensures.value in
    let waits = sym (ap (λ (w : Wire). w.waits) was) ∙ sym c.waiting.ensures ∙ none_waits c.waiting.result.now (sym c.is_empty.ensures ∙ c.if-not-is_empty.false) in
    let taken = ap g.S.Socket.taken c.new.ensures.socket ∙ c.in_ok-socket.ensures.taken ∙ ap (λ (w : Wire). w.taken) was in
    let left = ap g.S.Socket.left c.new.ensures.socket ∙ c.in_ok-socket.ensures.left ∙ ap (λ (w : Wire). w.left) was in
    ∥∥₁_map on (λ s. left_by opened _ before _ _ _ _ s (clean s.history s.at) waits taken left)
