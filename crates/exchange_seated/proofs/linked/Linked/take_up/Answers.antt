use Rattle.std.proofs.Common.{◌∙◌, ℕ, [], List, Option, ap, sym, subst}
use Rattle.std.proofs.Math.Logic.{∥∥₁_map}
use Rattle.std.specs.Io.KnownBytes.{Consumes}
use Rattle.exchange_seated.proofs.Connecting.{taken_up_on, has_server}
use Rattle.exchange_seated.proofs.linked.Linked.take_up.Goals as goal

pub returns-clause-on : goal.returns-clause-on
returns-clause-on g c opened before behind =
    let wanted = c.in-Some.ensures.wanted in
    let quiet = c.if-not-is_quiet.ensures in
    let socket = c.into_socket.ensures in
    let left = subst (λ (l : Option (List ℕ)). Consumes (g.S.Socket.left c.args.unused.socket) l []) (sym (c.new.ensures.left ∙ ap g.S.Socket.left socket)) quiet.left in
    ∥∥₁_map (c.args.self.now.unsent wanted.1 (has_server _ _ wanted.0))
    (λ it. taken_up_on opened _ before _ it.0 _ _ behind (c.new.ensures.taken ∙ ap g.S.Socket.taken socket ∙ quiet.taken) left c.new.ensures.waits it.1 it.2)
