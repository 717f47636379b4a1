use Rattle.http_texts.proofs.Agreeing.{answered_agree, answered_part}
use Rattle.http_texts.proofs.laws.texts_of_an_answer_are_comparable.Goals as goal

pub returns-clause-parts : goal.returns-clause-parts
returns-clause-parts c says method framed used text more_used more_text rest more_rest one other e = answered_agree says rest more_rest one other e

pub returns-clause-whole : goal.returns-clause-whole
returns-clause-whole c says method framed used text is = answered_part says is
