-- When the machine sends a request again.
use Rattle.std.specs.Prelude.{◌≡◌, ◌⊎◌, Bool, true, false, ◌&&◌, []}
use Rattle.exchange_machine.specs.Repeats.{is_bare, is_idempotent}
use Rattle.exchange_machine.specs.declared.sides.Down.TheVariants.{Heads}
use Rattle.exchange_machine.specs.declared.dialing.Dialing.{Dialing}
use Rattle.exchange_machine.specs.declared.forwarding.Forwarding.{Forwarding}

-- it has no body, and is idempotent or hasn't reached a server; and no byte of an answer came
pub record IsRepeatable (p : Forwarding) : Type 0 where
  pub heads : p.phase ≡ Heads 0
  pub none : p.down_held.items ≡ []
  pub bare : is_bare p.framing ≡ true
  pub safe : (is_idempotent p.view.method ≡ true) ⊎ (p.reached ≡ false)

-- once its connection broke it is sent again: it may be, and no byte of it reached that connection, or
-- another request had gone over it before
pub record IsSentAgain (p : Forwarding) : Type 0 where
  pub may : IsRepeatable p
  pub used : (p.fresh ≡ false) ⊎ (p.reached ≡ false)

-- no byte of it reached a server, and no byte of an answer came: the bytes that wait for the server
-- may go to another connection as they are
pub record IsUntouched (p : Forwarding) : Type 0 where
  pub heads : p.phase ≡ Heads 0
  pub none : p.down_held.items ≡ []
  pub unreached : p.reached ≡ false

-- it may go out on a used connection, which its server may be closing: it has no body, and is idempotent
abbrev pub takes_used : Dialing → Bool
takes_used d = is_idempotent d.waiting.asked.view.method && is_bare d.waiting.asked.framing
