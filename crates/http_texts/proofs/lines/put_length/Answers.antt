-- The digits are those of the number.
use Rattle.std.proofs.Common.{◌∙◌, ◌++◌, ap}
use Rattle.std.specs.Prelude.{codes}
use Rattle.httparse.specs.Ascii.{crlf_bytes}
use Rattle.http_texts.proofs.Putting.{puts_as}
use Rattle.http_texts.proofs.lines.put_length.Goals as goal

pub returns-clause-ok : goal.returns-clause-ok
returns-clause-ok g c =
    puts_as (ap (λ l. codes "Content-Length: " ++ (l ++ crlf_bytes)) (c.as_bytes-digits.ensures.value ∙ c.format.ensures.text)) c.in_ok-put_three.ensures.ok
