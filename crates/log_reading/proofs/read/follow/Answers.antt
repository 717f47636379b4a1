use Rattle.std.proofs.Common.{◌++◌, ◌∷◌, [], refl, sym, subst, OnOk, Result, Ok, Err}
use Rattle.log_entries.specs.declared.entry.Entry.{Entry}
use Rattle.log_entries.specs.declared.entry.Entry.TheVariants.{Granted}
use Rattle.log_reading.specs.Index.{IsIndexOf}
use Rattle.log_reading.specs.Windows.{base_rows}
use Rattle.log_reading.proofs.Indexed.{index_same}
use Rattle.log_reading.proofs.read.follow.Goals as goal

on_ok : {T E : Type 0} (r : Result T E) (P : Type 0) → P → OnOk r P
on_ok (Ok x) P p = p
on_ok (Err e) P p = tt

pub returns-in-Granted-clause-indexed : goal.returns-in-Granted-clause-indexed
returns-in-Granted-clause-indexed c =
    let log = c.args.log.now.entries in
    let base = base_rows c.args.log.now.base.rows in
    on_ok c.follow_grant.result (IsIndexOf base (log ++ c.args.entry ∷ []) c.args.index.now)
    (subst (λ (e : Entry). IsIndexOf base (log ++ e ∷ []) c.args.index.now) (sym c.in-Granted.is)
    (index_same base log (Granted c.in-Granted.ticket c.in-Granted.queue c.in-Granted.server) c.args.index.now refl refl c.requires.indexed))
