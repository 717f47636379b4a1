-- The observable state of one end of a byte stream: what is known of its bytes, and the calls that were made.
use base.Fml.{GName}
use Rattle.std.specs.Prelude.{◌≡◌, ℕ, ◌+◌, List, Option, Result, MatchResult}

pub record Stream : Type 0 where
  -- the identity of the end
  pub name : GName
  -- the bytes that a source has left, or that a sink has taken, where they are known
  pub bytes : Option (List ℕ)
  -- the number of calls, and the number of those that failed
  pub calls : ℕ
  pub failures : ℕ

-- one more call was made at the same end, and it counts as failed where the answer is an error
pub record Counts {T E : Type 0} (old new : Stream) (result : Result T E) : Type 0 where
  pub same : new.name ≡ old.name
  pub calls : new.calls ≡ old.calls + 1
  pub failures : MatchResult result (λ _. new.failures ≡ old.failures) (λ _. new.failures ≡ old.failures + 1)
