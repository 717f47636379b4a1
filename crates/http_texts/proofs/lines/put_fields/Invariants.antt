use Rattle.std.proofs.Common.{take}
use Rattle.std.specs.Prelude.{filter}
use Rattle.http_texts.specs.Emissions.{Puts}
use Rattle.http_texts.specs.Fields.{is_kept, dropped}
use Rattle.http_texts.specs.Texts.{fields_text}
use Rattle.http_texts.proofs.lines.put_fields.Given as goal

abbrev pub invariant-fields : goal.invariant-fields
invariant-fields g l = Puts (g.P.Page.pipe l.initial.page) (g.P.Page.pipe l.page) (g.K.Sink.stream l.initial.sink) (g.K.Sink.stream l.sink)
    (fields_text (filter (λ field. is_kept (dropped l.way) l.section.fields field.0) (take l.position l.section.fields)))
