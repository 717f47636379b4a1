use Rattle.std.proofs.Common.{ℕ, ◌<◌, ◌++◌, ◌∷◌, [], List, length, subst, sym, ap, ◌∙◌, arith}
use Rattle.std.specs.Option.{unwrap_or}
use Rattle.log_entries.specs.Logs.{Recorded}
use Rattle.log_entries.specs.declared.entry.Entry.{Entry}
use Rattle.log_reading.specs.LogParts.{LogIsKept}
use Rattle.log_reading.specs.Readable.{MayFollow}
use Rattle.log_reading.specs.Windows.{base_rows}
use Rattle.std.proofs.lemmas.Grind.{common_steps}
use Rattle.log_reading.proofs.Pushes.{kept_push}
use Rattle.log_reading.proofs.log.Log.note.Goals as goal

pub invariant_of-self : goal.invariant_of-self
invariant_of-self c =
    let s = c.self.inside in
    let base = base_rows s.base.rows in
    let short : length s.list.items < s.most = subst (λ (v : Recorded). length v.entries < v.room) (sym c.self.view_is) c.requires.room in
    let may : MayFollow base s.list.items c.args.entry =
    subst (λ (v : Recorded). MayFollow (base_rows v.base.rows) v.entries c.args.entry) (sym c.self.view_is) c.requires.follows in
    let kept = kept_push base s.list.items s.granted.items s.moment s.most c.args.entry c.self.invariant.1 short may c.requires.ungranted in (
      c.self.invariant.0,
      subst (λ (l : List Entry). LogIsKept base l s.granted.items c.unwrap_or-self-inside.result s.most) (sym c.put.ensures.items)
          (subst (λ (m : ℕ). LogIsKept base (s.list.items ++ c.args.entry ∷ []) s.granted.items m s.most)
          (sym (c.unwrap_or-self-inside.ensures ∙ ap (λ o. unwrap_or o s.moment) c.moment_in.ensures)) kept),
      c.put.ensures.room ∙ c.self.invariant.2,
      c.self.invariant.3,
    )

pub returns : goal.returns
returns c = grind (arith, common_steps)
