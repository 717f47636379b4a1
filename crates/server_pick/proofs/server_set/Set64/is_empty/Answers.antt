use Rattle.std.proofs.Common.{◌≡◌, ℕ, true, ◌==◌, ◌↔◌, subst}
use Rattle.server_pick.specs.Sets.{IsIn}
use Rattle.server_pick.proofs.Marks.{is_empty}
use Rattle.server_pick.proofs.server_set.Set64.is_empty.Goals as goal

pub returns : goal.returns
returns c = subst (λ n. (c.self.inside.marks == 0) ≡ true ↔ ((server : ℕ) → IsIn n server → ⊥)) c.self.view_is (is_empty c.self.inside.marks)
