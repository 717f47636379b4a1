-- Which bytes the exchange waits for at both sides.
use Rattle.std.specs.Prelude.{ℕ, Bool, true, false, ◌&&◌, not, ltb, List, [], ◌∷◌, length}
use Rattle.http_bodies.specs.Stops.{is_bad, is_done}
use Rattle.exchange_machine.specs.declared.forwarding.Forwarding.{Forwarding}
use Rattle.exchange_machine.specs.declared.sides.Down.{Down}
use Rattle.exchange_machine.specs.declared.sides.Down.TheVariants.{Heads, Body}

abbrev pub is_none : List ℕ → Bool
is_none [] = true
is_none (b ∷ bytes) = false

-- there is room for more of a body, where this many bytes wait to be sent
abbrev pub is_roomy : List ℕ → Bool
is_roomy out = ltb (length out) 16385

-- more of the request is taken: it isn't read to its end, none of it is held, and there is room
abbrev pub takes_request : Forwarding → Bool
takes_request p = not p.cut && not (is_done p.up.coding) && not (is_bad p.up.coding) && is_none p.up_held.items && is_roomy p.up.out

-- more of the heads is taken as long as they can be held whole, and more of the body where none of
-- it is held and there is room
abbrev pub takes_more : Down → List ℕ → List ℕ → Bool
takes_more (Heads count) held out = ltb (length held) 16384
takes_more Body held out = is_none held && is_roomy out

abbrev pub takes_answer : Forwarding → Bool
takes_answer p = not p.ended && not p.dialing && takes_more p.phase p.down_held.items p.down.out

-- some of the request waits for a server that takes it
abbrev pub sends_request : Forwarding → Bool
sends_request p = not p.cut && not p.dialing && not (is_none p.up.out)
