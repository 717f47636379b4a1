-- What follows for a connection after a message (RFC 9112, section 9.3).
use Rattle.std.specs.Prelude.{ℕ, Bool, true, false, ◌&&◌, not, List, if◌then◌else◌, codes}
use Rattle.http_bodies.specs.declared.framing.Framing.{Framing}
use Rattle.http_bodies.specs.declared.framing.Framing.TheVariants.{Empty, Length, Chunked, ToEnd}
use Rattle.http_texts.specs.Fields.{parts_of, is_among}
use Rattle.http_texts.specs.Texts.{framed_for}
use Rattle.http_texts.specs.declared.persistence.Persistence.{Persistence}
use Rattle.http_texts.specs.declared.persistence.Persistence.TheVariants.{Close, Persist, KeepAlive}
use Rattle.http_texts.specs.declared.plans.Plan.{Plan}
use Rattle.req_view.specs.Answer.{Answer}
use Rattle.req_view.specs.Request.{NamedValue, Request}
use Rattle.req_view.specs.declared.version.Version.{Version}
use Rattle.req_view.specs.declared.version.Version.TheVariants.{Http10, Http11}

-- the Connection fields have this option
abbrev pub has_option : List ℕ → List NamedValue → Bool
has_option name fields = is_among (parts_of (codes "Connection") fields) name

-- the connection's fate by the version, and by whether it is to be kept open
abbrev pub kept_by : Version → Bool → Persistence
kept_by Http11 asked = Persist
kept_by Http10 asked = if asked then KeepAlive else Close

-- what the client is told, if nothing forbids it
abbrev pub wished : Request → Persistence
wished r = if has_option (codes "close") r.fields then Close else kept_by r.version (has_option (codes "keep-alive") r.fields)

-- the end of a body is marked: that of a body to the end of the input isn't, nor, for an HTTP/1.0
-- client, that of a chunked body
abbrev pub is_delimited : Bool → Framing → Bool
is_delimited framed Empty = true
is_delimited framed (Length count) = true
is_delimited framed Chunked = framed
is_delimited framed ToEnd = false

-- what an answer says; `willing` says whether the proxy wants to keep the connection
abbrev pub answer_says : Bool → Request → Plan → Persistence
answer_says willing r plan = if willing && is_delimited (framed_for r.version) plan.body then wished r else Close

-- the server keeps its connection open after this answer
abbrev pub server_keeps : Version → Bool → Bool → Bool
server_keeps Http11 delimited closes = delimited && not closes
server_keeps Http10 delimited closes = false

abbrev pub is_kept_by_server : Answer → Plan → Bool
is_kept_by_server a plan = server_keeps a.version (is_delimited true plan.body) (has_option (codes "close") a.fields)
