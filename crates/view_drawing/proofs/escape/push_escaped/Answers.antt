use Rattle.std.proofs.Common.{◌++◌, string_bytes, ap, ◌∙◌}
use Rattle.view_drawing.specs.Escapes.{escaped}
use Rattle.view_drawing.proofs.Escaped.{one_more}
use lib.Utf8.{encode}
use Rattle.view_drawing.proofs.escape.push_escaped.Goals as goal

pub loop-sign-preserved : goal.loop-sign-preserved
loop-sign-preserved c =
    c.in_ok-push_sign.ensures ∙ ap (λ l. l ++ escaped (encode c.in-Some.sign)) c.loop-sign.invariant ∙
    one_more (string_bytes c.args.text.now) c.loop-sign.yielded c.in-Some.sign
