use Rattle.std.proofs.Common.{refl, ap, map, length, ◌∙◌, w64}
use Rattle.std.proofs.lemmas.Int.{to_z-of_z}
use Rattle.std.proofs.lemmas.Option.{slice_get_read}
use Rattle.late_cert.specs.Reports.{last_cut}
use Rattle.late_cert.proofs.making.report_of.Goals as goal

pub returns-clause-report : goal.returns-clause-report
returns-clause-report c = record {
  at = c.first_latest-at.result;
  grant = c.index-group-at.result;
  stands = slice_get_read c.args.group.now (length c.args.group.now) c.first_latest-at.result c.index-group-at.result refl c.first_latest-at.ensures.0
      c.index-group-at.is;
  first = c.first_latest-at.ensures;
  granted = refl;
  worst = to_z-of_z w64 c.lateness-worst.result (record { sfits = c.lateness-worst.type_inv }) ∙ c.lateness-worst.ensures;
  due = refl;
  to = refl;
  after = c.last_cut-after.ensures ∙ ap (λ l. last_cut c.index-group-at.result.stay.due (map (λ it. it.stay) l)) c.split_at.ensures.front;
  critical = c.from_vec-critical.ensures ∙ c.in_ok-critical.ensures;
}
