-- The views of seats: what each seat knows.
use Rattle.std.specs.Prelude.{ℕ, ◌+◌, Option, None, Some, Bool, List, [], ◌∷◌, ◌==◌, if◌then◌else◌}
use Rattle.base_verdict.specs.declared.Verdict.{Verdict}
use Rattle.base_verdict.specs.declared.Verdict.TheVariants.{Serve, Told}
use Rattle.base_verdict.specs.declared.Ending.{Ending}
use Rattle.grant_board.specs.declared.returned.Return.{Return}
use Rattle.base_lists.specs.Weights.{total}

-- what a pass grants: a verdict for a ticket, at a place
pub record Grant : Type 0 where
  pub place : ℕ
  pub ticket : ℕ
  pub verdict : Verdict

abbrev pub grant : ℕ → ℕ → Verdict → Grant
grant place ticket verdict = record { place = place; ticket = ticket; verdict = verdict }

-- the terms that a board was opened with: its number of places, and each server's limit, where 0 is without limit
pub record Terms : Type 0 where
  pub places : ℕ
  pub limits : List ℕ

abbrev pub terms : ℕ → List ℕ → Terms
terms places limits = record { places = places; limits = limits }

-- the number that a load or a failed compare-exchange found in a word: a place's, or after these a server's
pub record Look : Type 0 where
  pub place : ℕ
  pub word : ℕ

abbrev pub look : ℕ → ℕ → Look
look place word = record { place = place; word = word }

-- a server's mark: one more than its bound, and 0 where it has none
abbrev pub mark_of : Option ℕ → ℕ
mark_of None = 0
mark_of (Some bound) = bound + 1

-- the mark of a limit, where 0 is without limit
abbrev pub first_mark : ℕ → ℕ
first_mark limit = if limit == 0 then 0 else limit + 1

-- The keeper's view: each server's mark, the grants that are out, all grants that it offered, all
-- returns, and its looks. Each list is in the order of the steps.
pub record KeeperView : Type 0 where
  pub terms : Terms
  pub bounds : List ℕ
  pub out : List Grant
  pub offers : List Grant
  pub returns : List Return
  pub looks : List Look

-- A relay seat's view: the passes that it has, all that it took, all that it posted, and its looks.
-- The first seat also counts the seats that it split off and those that it joined.
pub record RelayView : Type 0 where
  pub terms : Terms
  pub passes : List Grant
  pub takes : List Grant
  pub posts : List Return
  pub looks : List Look
  pub first : Bool
  pub split : ℕ
  pub joined : ℕ

-- a pass that was posted, as the keeper's load found it
pub record Sighting : Type 0 where
  pub pass : Grant
  pub ending : Ending

-- the keeper within a collect: it remembers what its load found posted, and still has to clear that
pub record KeeperPart : Type 0 where
  pub view : KeeperView
  pub sight : List Sighting

-- the return of a pass
abbrev pub return_of : Grant → Ending → Return
return_of pass ending = record { place = pass.place; ticket = pass.ticket; ending = ending }

-- 1 for a grant of this place
abbrev pub at_place : ℕ → Grant → ℕ
at_place place g = if g.place == place then 1 else 0

-- 1 for a grant that serves at this server
abbrev pub serves_at : ℕ → Verdict → ℕ
serves_at server (Serve s) = if s == server then 1 else 0
serves_at server (Told cause) = 0

-- the number of grants of this place
abbrev pub count_at : ℕ → List Grant → ℕ
count_at place grants = total (at_place place) grants

-- the number of grants that serve at this server
abbrev pub count_of : ℕ → List Grant → ℕ
count_of server grants = total (λ g. serves_at server g.verdict) grants

-- the grants of all other places
abbrev pub grants_without : ℕ → List Grant → List Grant
grants_without place [] = []
grants_without place (g ∷ grants) = if g.place == place then grants_without place grants else (g ∷ grants_without place grants)
