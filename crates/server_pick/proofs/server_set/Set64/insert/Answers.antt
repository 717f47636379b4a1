use Rattle.std.proofs.Common.{◌^◌, ◌*◌, ◌%◌, bit_or, ◌↔◌, ◌⊎◌, ◌≡◌, subst}
use Rattle.server_pick.specs.Sets.{IsIn}
use Rattle.server_pick.proofs.Marks.{one_more}
use Rattle.server_pick.proofs.server_set.Set64.insert.Goals as goal

pub returns : goal.returns
returns c = λ other. subst (λ n. IsIn (bit_or c.self.inside.marks (1 * 2 ^ c.args.server % 2 ^ 64)) other ↔
    (IsIn n other ⊎ (other ≡ c.args.server))) c.self.view_is
    (one_more c.self.inside.marks c.args.server c.requires other)
