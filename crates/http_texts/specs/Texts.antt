-- The texts of heads that are handed on.
use Rattle.std.specs.Prelude.{ℕ, ◌+◌, ◌/◌, ◌%◌, ◌==◌, ◌&&◌, not, Bool, true, false, List, [], ◌∷◌, ◌++◌, if◌then◌else◌, Option, Some, None, codes, decimal}
use Rattle.std.specs.List.{flat_map, list_any}
use Rattle.std.specs.Net.Text.{ip_text}
use Rattle.std.specs.declared.net.ip_addr.IpAddr.{IpAddr}
use Rattle.httparse.specs.Ascii.{crlf_bytes, space}
use Rattle.http_bodies.specs.declared.framing.Framing.{Framing}
use Rattle.http_bodies.specs.declared.framing.Framing.TheVariants.{Empty, Length, Chunked, ToEnd}
use Rattle.http_texts.specs.Fields.{kept, of_connection, of_request}
use Rattle.http_texts.specs.declared.additions.Additions.{Additions}
use Rattle.http_texts.specs.declared.persistence.Persistence.{Persistence}
use Rattle.http_texts.specs.declared.persistence.Persistence.TheVariants.{Close, Persist, KeepAlive}
use Rattle.http_texts.specs.declared.plans.Plan.{Plan}
use Rattle.req_view.specs.Answer.{Answer}
use Rattle.req_view.specs.Request.{NamedValue, Request, is_named}
use Rattle.req_view.specs.declared.version.Version.{Version}
use Rattle.req_view.specs.declared.version.Version.TheVariants.{Http10, Http11}

-- a field's line: its name as it came, and its value
abbrev pub field_text : NamedValue → List ℕ
field_text field = field.0 ++ (codes ": " ++ (field.1 ++ crlf_bytes))

abbrev pub fields_text : List NamedValue → List ℕ
fields_text fields = flat_map field_text fields

-- the line that states a framing
abbrev pub framing_text : Framing → List ℕ
framing_text Empty = []
framing_text (Length count) = codes "Content-Length: " ++ (decimal count ++ crlf_bytes)
framing_text Chunked = codes "Transfer-Encoding: chunked\r\n"
framing_text ToEnd = []

-- the Connection line, if there is one, and the empty line
abbrev pub connection_text : Persistence → List ℕ
connection_text Close = codes "Connection: close\r\n\r\n"
connection_text Persist = crlf_bytes
connection_text KeepAlive = codes "Connection: keep-alive\r\n\r\n"

-- an empty Host line, where no Host field is handed on
abbrev pub host_text : List NamedValue → List ℕ
host_text fields = if list_any (is_named (codes "Host")) fields then [] else codes "Host:\r\n"

-- a request's first line
abbrev pub request_line : Request → List ℕ
request_line r = r.method ++ (space ∷ (r.target ++ codes " HTTP/1.1\r\n"))

-- the framing, and the end of the head
abbrev pub end_text : Persistence → Framing → List ℕ
end_text says framing = framing_text framing ++ connection_text says

-- the X-Forwarded-For line, where the server is told the client's address
abbrev pub client_text : Option IpAddr → List ℕ
client_text None = []
client_text (Some address) = codes "X-Forwarded-For: " ++ (ip_text address ++ crlf_bytes)

-- the additions without a client's address
abbrev pub unnamed : Persistence → Additions
unnamed asks = record { asks = asks; client = None }

-- a request's head, with a line of the proxy's before its end
abbrev pub request_text_with : List ℕ → Persistence → Request → Framing → List ℕ
request_text_with line asks r framing =
    request_line r ++ (fields_text (kept of_request r.fields) ++ (host_text (kept of_request r.fields) ++ (line ++ end_text asks framing)))

-- a request's head
abbrev pub request_text : Additions → Request → Framing → List ℕ
request_text adds r framing = request_text_with (client_text adds.client) adds.asks r framing

-- three digits
abbrev pub status_text : ℕ → List ℕ
status_text status = (48 + status / 100) ∷ (48 + (status / 10) % 10) ∷ (48 + status % 10) ∷ []

-- an answer's first line
abbrev pub status_line : Answer → List ℕ
status_line a = codes "HTTP/1.1 " ++ (status_text a.status ++ (space ∷ (a.reason ++ crlf_bytes)))

-- and the fields that are handed on
abbrev pub answer_lines : Answer → List ℕ
answer_lines a = status_line a ++ fields_text (kept of_connection a.fields)

-- the framing that is written: for an HTTP/1.0 client chunks are no framing
abbrev pub stated : Bool → Framing → Framing
stated framed Chunked = if framed then Chunked else Empty
stated framed framing = framing

-- a client of this version is told the framing of a chunked body
abbrev pub framed_for : Version → Bool
framed_for Http10 = false
framed_for Http11 = true

-- an answer's head; `framed` is false for a client of version 1.0
abbrev pub answer_text : Persistence → Bool → Answer → Plan → List ℕ
answer_text says framed a plan = answer_lines a ++ end_text says (stated framed plan.stated)

-- an interim head: a client of version 1.0 gets none, and no client gets a 100
abbrev pub interim_text : Bool → Answer → List ℕ
interim_text framed a = if framed && not (a.status == 100) then answer_lines a ++ crlf_bytes else []
