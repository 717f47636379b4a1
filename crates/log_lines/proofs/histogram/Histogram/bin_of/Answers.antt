use Rattle.std.proofs.Common.{◌∙◌, ap, length, position, int_le, w64}
use Rattle.std.proofs.lemmas.Int.{to_z-of_z}
use Rattle.std.specs.Option.{unwrap_or}
use Rattle.log_lines.specs.Bins.{Binned}
use Rattle.log_lines.proofs.histogram.Histogram.bin_of.Goals as goal

pub returns : goal.returns
returns c =
    let bounds = c.args.self.now.bounds in
    let count = length c.self.inside.bounds.now in
    c.unwrap_or.ensures ∙ ap (λ found. unwrap_or found count) c.found.ensures
    ∙ ap (λ z. unwrap_or (position (λ bound. int_le z bound) bounds) count) (to_z-of_z w64 c.args.value c.ranges.value)
    ∙ ap (λ (it : Binned). unwrap_or (position (λ bound. int_le c.args.value bound) bounds) (length it.bounds)) c.self.view_is
