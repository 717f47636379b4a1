-- One field more goes under its name.
use Rattle.std.proofs.Common.{◌≡◌, ◌∙◌, length, get_or, ap, sym, arith}
use Rattle.httparse.specs.declared.spans.HeaderSpan.{HeaderSpan}
use Rattle.http_header.specs.Token.{lowercase}
use Rattle.http_header.specs.HeaderMap.{append, value_count}
use Rattle.req_view.proofs.Lookups.{names-append, count-append, index_of-more}
use Rattle.req_view.proofs.index.by_name.Goals as goal

pub loop-field-preserved : goal.loop-field-preserved
loop-field-preserved c =
    let text = c.args.text.now in
    let fields = c.args.fields.now in
    let i = c.loop-field.field-index in
    let d : HeaderSpan = record { name = record { start = 0; end = 0 }; value = record { start = 0; end = 0 } } in
    let value = (get_or fields i d).value in
    let added : c.add.new.index ≡ append c.loop-field.index (lowercase c.of.result.now) value = c.in_ok-add.ensures in
    record {
      so_far = added
          ∙ (λ k. append (c.loop-field.invariant.so_far k) (lowercase (c.of.ensures k)) value)
          ∙ sym (index_of-more text fields i d c.loop-field-test.true);
      values = omega (arith, ap value_count added, count-append c.loop-field.index (lowercase c.of.result.now) value);
      names = omega (arith, ap length added, names-append c.loop-field.index (lowercase c.of.result.now) value);
    }
