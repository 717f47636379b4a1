-- The unused connections of servers.
use Rattle.std.specs.Prelude.{ℕ, Bool, ◌==◌, ◌&&◌, not, List, [], filter, slice_get, Option, Some, None, Vec}
use Rattle.std.specs.declared.alloc.Global.{Global}
use Rattle.loop_table.specs.declared.token.Token.{Token}

-- the tokens of a list that may be none
abbrev pub items_of : Option (Vec Token Global) → List Token
items_of None = []
items_of (Some shelf) = shelf.items

-- the connections of a server, the last one used last; none where there is no such server
abbrev pub shelf_at : List (Vec Token Global) → ℕ → List Token
shelf_at shelves server = items_of (slice_get shelves server)

-- both are of one cell, given as often
abbrev pub is_same : Token → Token → Bool
is_same a b = (a.index == b.index) && (a.generation == b.generation)

-- the others
abbrev pub without : Token → List Token → List Token
without token tokens = filter (λ it. not (is_same it token)) tokens
