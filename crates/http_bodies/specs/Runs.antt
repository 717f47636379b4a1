-- The text that is written for an input, and sequences of feeds.
use Rattle.std.specs.Prelude.{◌≡◌, ℕ, Bool, List, [], ◌∷◌, ◌++◌}
use Rattle.std.specs.List.{flat_map}
use Rattle.base_lists.specs.Fronts.{IsFront}
use Rattle.http_bodies.specs.Framings.{PartOfBody}
use Rattle.http_bodies.specs.declared.framing.Framing.{Framing}
use Rattle.http_bodies.specs.Readings.{Feeds, start_of}
use Rattle.http_bodies.specs.declared.coding.Coding.{Coding}

-- The longest text of a part at the front of the input, where Part says which input is a part and
-- what it becomes. There is at most one such text.
pub record IsLongest (Part : List ℕ → List ℕ → Type 0) (input text : List ℕ) : Type 0 where
  pub used : List ℕ
  pub rest : List ℕ
  pub input_is : input ≡ used ++ rest
  pub part : Part used text
  pub most : (more_used more_text more_rest : List ℕ) → Part more_used more_text → input ≡ more_used ++ more_rest → IsFront more_text text

-- the text of as much of a body as stands at the front of the input
abbrev pub IsSent : Framing → Bool → List ℕ → List ℕ → Type 0
IsSent framing framed input text = IsLongest (PartOfBody framing framed) input text

-- A coding took all of these bytes from the beginning of a body on. The text is that of as much of a
-- body as stands at their front.
pub record IsTaken (framing : Framing) (framed : Bool) (used text : List ℕ) : Type 0 where
  pub sent : IsSent framing framed used text
  pub coding : Coding
  pub feeds : Feeds (start_of framing framed) coding used text

-- a feed: the bytes that it took and the text that it wrote
abbrev pub Step : Type 0
Step = List ℕ × List ℕ

-- a sequence of feeds
abbrev pub Runs : Coding → List Step → Coding → Type 0
Runs old [] new = new ≡ old
Runs old (s ∷ steps) new = (mid : Coding) × Feeds old mid s.0 s.1 × Runs mid steps new

abbrev pub all_taken : List Step → List ℕ
all_taken steps = flat_map (λ s. s.0) steps

abbrev pub all_given : List Step → List ℕ
all_given steps = flat_map (λ s. s.1) steps
