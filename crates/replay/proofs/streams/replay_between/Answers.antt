use Rattle.std.proofs.Common.{◌≡◌, rules, subst, IfErr, Err}
use Rattle.std.specs.Prelude.{Result}
use Rattle.std.proofs.KnownBytes.{Consumes-whole}
use Rattle.replay.specs.Replays.{WritesFrontOfTrace}
use Rattle.replay.proofs.streams.replay_between.Goals as goal

err_of : {T E : Type 0} (r : Result T E) (e : E) (P : E → Type 0) → r ≡ Err e → IfErr r P → P e
err_of r e P same h = subst (λ r. IfErr r P) same h

pub returns-clause-write : goal.returns-clause-write
returns-clause-write g c = λ same.
    let failed = err_of _ _ _ same c.write_whole.ensures.err in
    let script = c.in_ok-script.script.items in
    Consumes-whole (g.S.Source.stream c.args.source.now).bytes _ script (λ s. WritesFrontOfTrace s _ _) c.in_ok-script.ensures.read c.in_ok-script.ensures.to_the_end
    (record { faultless = search rules; trace = _; is_trace = search rules; written = failed.1 })
