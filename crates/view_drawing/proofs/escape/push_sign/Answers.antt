use Rattle.std.proofs.Common.{rules}
use Rattle.view_drawing.proofs.Escaped.{quote, ampersand, apostrophe, less, greater}
use Rattle.view_drawing.proofs.escape.push_sign.Goals as goal

pub returns-in-38 : goal.returns-in-38
returns-in-38 c = rw (c.in-38.is, ampersand) (search (c.push_str.ensures.bytes, rules))

pub returns-in-60 : goal.returns-in-60
returns-in-60 c = rw (c.in-60.is, less) (search (c.push_str-in-60.ensures.bytes, rules))

pub returns-in-62 : goal.returns-in-62
returns-in-62 c = rw (c.in-62.is, greater) (search (c.push_str-in-62.ensures.bytes, rules))

pub returns-in-34 : goal.returns-in-34
returns-in-34 c = rw (c.in-34.is, quote) (search (c.push_str-in-34.ensures.bytes, rules))

pub returns-in-39 : goal.returns-in-39
returns-in-39 c = rw (c.in-39.is, apostrophe) (search (c.push_str-in-39.ensures.bytes, rules))
