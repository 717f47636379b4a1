-- What each step found, together.
use Rattle.std.proofs.Common.{◌∙◌, ℕ, List, ap, rules}
use Rattle.std.specs.List.{flat_map}
use Rattle.proxy_words.specs.Parts.{parts}
use Rattle.http_texts.specs.Summaries.{stated_coding, stated_of}
use Rattle.http_texts.proofs.Planning.{plan_is}
use Rattle.http_texts.proofs.plans.answer_plan.Goals as goal

pub returns : goal.returns
returns c =
    let coding = c.stated_coding-coding.ensures ∙ ap (λ (values : List (List ℕ)). stated_coding values) c.values.ensures in
    let stated = c.stated_of-stated.ensures ∙ ap (λ (values : List (List ℕ)). stated_of (flat_map parts values)) c.values-2.ensures in
    plan_is c.args.method.now c.args.head.now c.plan_of.result c.status.result c.status-2.result c.eq-to_head.result c.version.result c.version-2.result _ _
    c.status.ensures.value c.version.ensures coding c.if-is_refused.ensures c.status-2.ensures.value c.version-2.ensures (search rules) stated c.plan_of.ensures
