use Rattle.http_texts.proofs.Agreeing.{forwarded_agree, forwarded_part}
use Rattle.http_texts.proofs.laws.texts_of_a_request_are_comparable.Goals as goal

pub returns-clause-parts : goal.returns-clause-parts
returns-clause-parts c says r used text more_used more_text rest more_rest one other e = forwarded_agree says r rest more_rest one other e

pub returns-clause-whole : goal.returns-clause-whole
returns-clause-whole c says r used text is = forwarded_part says is
