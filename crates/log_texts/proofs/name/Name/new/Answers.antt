use Rattle.std.proofs.Common.{◌≡◌, true, rules}
use Rattle.proxy_words.specs.Names.{is_name}
use Rattle.log_texts.proofs.NameBytes.{name_is_utf8}
use Rattle.log_texts.proofs.name.Name.new.Goals as goal

-- the bytes of a name are text
pub returns-in-Err : goal.returns-in-Err
returns-in-Err c =
    let is : is_name c.args.word.now ≡ true = search rules in
    absurd (c.in-Err.ensures.cases.0 (name_is_utf8 c.args.word.now is))
