use Rattle.std.proofs.Common.{◌∙◌, ◌∷◌, [], map, sym, ap}
use Rattle.proxy_words.specs.Parts.{is_comma, trimmed}
use Rattle.proxy_words.proofs.Cuts.{slice_split-first, slice_split-whole}
use Rattle.proxy_words.proofs.parts.first_part.Goals as goal

pub returns-in-None : goal.returns-in-None
returns-in-None c =
    ap (map trimmed) (slice_split-whole is_comma c.args.text.now (sym c.in-None.ensures)) ∙ ap (λ part. part ∷ []) (sym c.trim.ensures)

pub returns-in-Some : goal.returns-in-Some
returns-in-Some c = rw (c.trim-in-Some.ensures, c.split_at.ensures.front, c.split_at-in-Some.ensures.back)
    (ap (map trimmed) (slice_split-first is_comma c.args.text.now c.in-Some.end (sym c.in-Some.ensures)))
