use Rattle.std.proofs.Common.{length, map, string_bytes, arith}
use Rattle.std.proofs.lemmas.List.{length-map}
use Rattle.view_stories.specs.Stories.{count_text}
use Rattle.view_stories.proofs.Stories.{many_lines}
use Rattle.view_stories.proofs.lines.Story.push_to.Goals as goal

pub returns : goal.returns
returns c =
    let first = c.split_at.result.0.now in
    let others = c.split_at.result.1.now in
    many_lines (string_bytes c.args.text.now) (string_bytes c.push_lines-2.new.text) (string_bytes c.push_count.new.text) (map string_bytes first)
    (count_text (length others))
    (let same = length-map first string_bytes in let long = c.split_at.ensures.front_len in omega arith)
    c.in_ok-push_lines-2.ensures c.in_ok-push_count.ensures
