-- A text to which bytes are appended, where memory is wanting.
use Rattle.std.specs.Prelude.{◌≡◌, ◌<◌, ℕ, List, ◌++◌, length}

-- the text grows by a front of these bytes, and not by all of them
pub record GrowsByFront (old new bytes : List ℕ) : Type 0 where
  pub front : List ℕ
  pub rest : List ℕ
  pub grown : new ≡ old ++ front
  pub parts : bytes ≡ front ++ rest
  pub missing : 0 < length rest
