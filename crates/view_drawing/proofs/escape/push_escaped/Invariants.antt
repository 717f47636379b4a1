use Rattle.std.proofs.Common.{◌≡◌, ◌++◌, string_bytes}
use lib.Utf8.{encodes}
use Rattle.view_drawing.specs.Escapes.{escaped}
use Rattle.view_drawing.proofs.escape.push_escaped.Given as goal

abbrev pub invariant-loop-sign : goal.invariant-loop-sign
invariant-loop-sign l = string_bytes l.text ≡ string_bytes l.initial.text ++ escaped (encodes l.yielded)
