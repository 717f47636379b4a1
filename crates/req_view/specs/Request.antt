-- The meaning of a request's head, and the heads that the proxy accepts.
use Rattle.std.specs.Prelude.{◌≡◌, ◌≢◌, ℕ, ◌≤◌, List, map, filter, Bool, false, codes, if◌then◌else◌, ◌==◌, length}
use Rattle.std.specs.Str.{str_eq_ignore_ascii_case}
use Rattle.httparse.specs.Grammar.{RequestHead}
use Rattle.httparse.specs.Spans.{name_and_value}
use Rattle.req_view.specs.Target.{has_fragment}
use Rattle.req_view.specs.declared.version.Version.{Version}
use Rattle.req_view.specs.declared.version.Version.TheVariants.{Http10, Http11}

-- A field: its name as it came, and its value without the white space around it.
abbrev pub NamedValue : Type 0
NamedValue = List ℕ × List ℕ

-- the parts of a head, fields in order
pub record Request : Type 0 where
  pub method : List ℕ
  pub target : List ℕ
  pub version : Version
  pub fields : List NamedValue

-- HTTP/1.0 or HTTP/1.1, by the digit after the dot
abbrev pub version_of : ℕ → Version
version_of minor = if minor == 0 then Http10 else Http11

-- the parts of a head
abbrev pub request_of : RequestHead → Request
request_of h = record {
  method = h.method;
  target = h.target;
  version = version_of h.minor;
  fields = map name_and_value h.fields;
}

-- the field has this name, ignoring case
abbrev pub is_named : List ℕ → NamedValue → Bool
is_named name field = str_eq_ignore_ascii_case field.0 name

-- the values of the fields with a name, in order
abbrev pub values_of : List ℕ → List NamedValue → List (List ℕ)
values_of name fields = map (λ field. field.1) (filter (is_named name) fields)

-- the number of Host fields
abbrev pub hosts : Request → ℕ
hosts r = length (values_of (codes "Host") r.fields)

-- HTTP/1.1 requires one Host field, and HTTP/1.0 allows one
abbrev pub SuitsVersion : Version → ℕ → Type 0
SuitsVersion Http10 count = count ≤ 1
SuitsVersion Http11 count = count ≡ 1

-- the proxy accepts the request: it names one host, as its version demands, its method isn't
-- `CONNECT`, and its target has no fragment
pub record IsWelcome (r : Request) : Type 0 where
  pub names_host : SuitsVersion r.version (hosts r)
  pub wants_no_tunnel : r.method ≢ codes "CONNECT"
  pub has_no_fragment : has_fragment r.target ≡ false
