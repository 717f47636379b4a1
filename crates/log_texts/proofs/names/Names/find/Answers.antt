use Rattle.std.proofs.Common.{◌∙◌, sym, ap, string_bytes}
use Rattle.std.specs.List.{position}
use Rattle.std.specs.Str.{bytes_eq}
use Rattle.base_lists.proofs.Found.{position-map}
use Rattle.log_texts.proofs.names.Names.find.Goals as goal

pub returns : goal.returns
returns c =
    c.name_index.ensures
    ∙ ap (λ text. position (λ name. bytes_eq text (string_bytes name)) c.deref.result.now) c.as_str.ensures
    ∙ ap (position (λ name. bytes_eq c.args.name.now (string_bytes name))) c.deref.ensures.value
    ∙ sym (position-map (bytes_eq c.args.name.now) string_bytes c.self.inside.list.items)
    ∙ ap (position (bytes_eq c.args.name.now)) c.self.view_is
