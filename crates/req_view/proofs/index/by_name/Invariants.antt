use Rattle.std.proofs.Common.{◌≡◌, ◌≤◌, take, length}
use Rattle.http_header.specs.HeaderMap.{value_count}
use Rattle.req_view.specs.Spans.{index_of}
use Rattle.req_view.proofs.index.by_name.Given as goal

abbrev pub invariant-loop-field : goal.invariant-loop-field
invariant-loop-field l = record {
  so_far : l.index ≡ index_of l.text (take l.field-index l.fields);
  values : value_count l.index ≤ l.field-index;
  names : length l.index ≤ l.field-index;
}
