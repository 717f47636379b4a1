-- The meaning of an answer's head.
use Rattle.std.specs.Prelude.{ℕ, List, map}
use Rattle.httparse.specs.Grammar.{ResponseHead, status_code, reason_phrase}
use Rattle.httparse.specs.Spans.{name_and_value}
use Rattle.req_view.specs.Request.{NamedValue, version_of}
use Rattle.req_view.specs.declared.version.Version.{Version}

-- the parts of a head, fields in order
pub record Answer : Type 0 where
  pub status : ℕ
  pub reason : List ℕ
  pub version : Version
  pub fields : List NamedValue

-- the parts of a head
abbrev pub answer_of : ResponseHead → Answer
answer_of h = record {
  status = status_code h;
  reason = reason_phrase h.reason;
  version = version_of h.minor;
  fields = map name_and_value h.fields;
}
