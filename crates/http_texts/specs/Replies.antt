-- The proxy's own answers to a client.
use Rattle.std.specs.Prelude.{ℕ, Bool, true, false, ◌&&◌, nat_lt, List, [], if◌then◌else◌, Option, Some, codes}
use Rattle.std.specs.List.{list_any}
use Rattle.std.specs.Str.{str_eq_ignore_ascii_case}
use Rattle.http_bodies.specs.declared.framing.Framing.{Framing}
use Rattle.http_bodies.specs.declared.framing.Framing.TheVariants.{Length, Chunked}
use Rattle.http_texts.specs.Framings.{request_framing}
use Rattle.http_texts.specs.Texts.{framed_for}
use Rattle.http_texts.specs.declared.refusals.Code.{Code}
use Rattle.http_texts.specs.declared.refusals.Code.TheVariants.{BadRequest, BadGateway, Unavailable}
use Rattle.req_view.specs.Request.{Request, values_of}

-- the message has bytes of a body
abbrev pub has_body : Option Framing → Bool
has_body (Some (Length count)) = nat_lt 0 count
has_body (Some Chunked) = true
has_body framing = false

abbrev pub expects : List (List ℕ) → Bool
expects values = list_any (λ value. str_eq_ignore_ascii_case value (codes "100-continue")) values

-- the client of version 1.1 waits for a `100` before it sends a body (RFC 9110, section 10.1.1)
abbrev pub waits_for_leave : Request → Bool
waits_for_leave r = framed_for r.version && has_body (request_framing r) && expects (values_of (codes "Expect") r.fields)

-- the `100` answer, or nothing
abbrev pub leave_text : Request → List ℕ
leave_text r = if waits_for_leave r then codes "HTTP/1.1 100 Continue\r\n\r\n" else []

-- the text of a refusal
abbrev pub refusal_text : Code → List ℕ
refusal_text BadRequest = codes "HTTP/1.1 400 Bad Request\r\nContent-Length: 0\r\nConnection: close\r\n\r\n"
refusal_text BadGateway = codes "HTTP/1.1 502 Bad Gateway\r\nContent-Length: 0\r\nConnection: close\r\n\r\n"
refusal_text Unavailable = codes "HTTP/1.1 503 Service Unavailable\r\nContent-Length: 0\r\nConnection: close\r\n\r\n"
