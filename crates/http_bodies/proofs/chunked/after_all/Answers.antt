use Rattle.std.proofs.Common.{◌≡◌, ◌∙◌, ℕ, ◌+◌, ◌∷◌, List, suc, drop, get_or, sym, ap, arith}
use Rattle.std.proofs.Math.Seq.{drop-cons}
use Rattle.http_bodies.specs.Readings.{read_parts}
use Rattle.http_bodies.specs.declared.coding.Part.{Part}
use Rattle.http_bodies.proofs.Derivatives.{next_reads}
use Rattle.http_bodies.proofs.chunked.after_all.Goals as goal

pub reading-preserved : goal.reading-preserved
reading-preserved c =
    let framed = c.args.framed in
    let input = c.args.input.now in
    let index = c.reading.index in
    let byte = get_or input index 0 in
    let rest = drop (index + 1) input in
    let one : suc index ≡ index + 1 = omega arith in
    let cut : drop index input ≡ byte ∷ rest = drop-cons input index 0 c.reading-test.true ∙ ap (λ n. byte ∷ drop n input) one in
    ap (λ (part : Part). (read_parts framed part rest).coding) c.next-at.ensures ∙ next_reads framed c.reading.at byte rest
    ∙ ap (λ (l : List ℕ). (read_parts framed c.reading.at l).coding) (sym cut) ∙ c.reading.invariant
