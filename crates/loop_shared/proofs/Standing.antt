-- A token has one value.
use Rattle.std.proofs.Common.{◌≡◌, ◌∙◌, Some, sym}
use Rattle.loop_table.specs.TokenTables.{Table, HasValue}
use Rattle.loop_table.specs.declared.token.Token.{Token}

pub same_value : {T : Type 0} (table : Table T) (token : Token) (a b : T) → HasValue table token a → HasValue table token b → a ≡ b
same_value table token a b first second = let both : Some (Some a) ≡ Some (Some b) = sym first.there ∙ second.there in cc
