-- The length of a message's body, by its head (RFC 9112, section 6.3).
use Rattle.std.specs.Prelude.{ℕ, Bool, ◌==◌, ◌&&◌, ◌||◌, nat_lt, true, List, [], ◌∷◌, if◌then◌else◌, Option, Some, None, option_map, codes}
use Rattle.std.specs.List.{list_all}
use Rattle.std.specs.Str.{bytes_eq, str_eq_ignore_ascii_case}
use Rattle.proxy_words.specs.Numerals.{is_numeral, value_of}
use Rattle.http_bodies.specs.declared.framing.Framing.{Framing}
use Rattle.http_bodies.specs.declared.framing.Framing.TheVariants.{Empty, Length, Chunked, ToEnd}
use Rattle.http_texts.specs.Fields.{parts_of}
use Rattle.http_texts.specs.declared.plans.Plan.{Plan}
use Rattle.req_view.specs.Answer.{Answer}
use Rattle.req_view.specs.Request.{Request, values_of}
use Rattle.req_view.specs.declared.version.Version.{Version}
use Rattle.req_view.specs.declared.version.Version.TheVariants.{Http10, Http11}

-- the part is this number, of at most 18 digits
abbrev pub is_number : ℕ → List ℕ → Bool
is_number count part = is_numeral 18 part && (value_of part == count)

-- the one number that all parts are
abbrev pub common : List (List ℕ) → Option ℕ
common [] = None
common (part ∷ more) = if is_numeral 18 part && list_all (is_number (value_of part)) more then Some (value_of part) else None

abbrev pub is_chunked : List ℕ → Bool
is_chunked coding = str_eq_ignore_ascii_case coding (codes "chunked")

-- The framing by the values of Transfer-Encoding and the parts of Content-Length: at most one of
-- the two fields may stand there. A length is one number, however often it stands there; the only
-- coding is `chunked`, in version 1.1. `unstated` is the framing of a message without either field.
abbrev pub by_fields : Version → Framing → List (List ℕ) → List (List ℕ) → Option Framing
by_fields version unstated [] [] = Some unstated
by_fields version unstated [] (part ∷ more) = option_map Length (common (part ∷ more))
by_fields Http11 unstated (coding ∷ []) [] = if is_chunked coding then Some Chunked else None
by_fields version unstated transfer_codings lengths = None

-- the framing of a request; none where it is unsound
abbrev pub request_framing : Request → Option Framing
request_framing r =
    by_fields r.version Empty (values_of (codes "Transfer-Encoding") r.fields) (parts_of (codes "Content-Length") r.fields)

-- no body, and no framing in the head
abbrev pub bare : Plan
bare = record { body = Empty; stated = Empty }

-- a length in the head of an answer without a body
abbrev pub stating : List (List ℕ) → Option Plan
stating [] = Some bare
stating (part ∷ more) = option_map (λ count. record { body = Empty; stated = Length count }) (common (part ∷ more))

-- an interim answer: a head alone, before the answer
abbrev pub is_interim : ℕ → Bool
is_interim status = nat_lt 99 status && nat_lt status 200

-- the plan by the status, where no rule forbids the head as a whole
abbrev pub by_status : ℕ → Bool → Version → List (List ℕ) → List (List ℕ) → Option Plan
by_status status to_head version transfer_codings lengths =
    if is_interim status then Some bare
    else if status == 204 then Some bare
    else if to_head || (status == 304) then stating lengths
    else option_map (λ framing. record { body = framing; stated = framing }) (by_fields version ToEnd transfer_codings lengths)

-- a transfer coding in an answer of version 1.0 is unsound, and so is a change of protocol
abbrev pub is_refused : ℕ → Version → List (List ℕ) → Bool
is_refused status Http10 (coding ∷ transfer_codings) = true
is_refused status version transfer_codings = status == 101

-- the plan for an answer to a request with this method; none where the framing is unsound
abbrev pub answer_plan : List ℕ → Answer → Option Plan
answer_plan method a =
    let transfer_codings = values_of (codes "Transfer-Encoding") a.fields in
    let lengths = parts_of (codes "Content-Length") a.fields in
    if is_refused a.status a.version transfer_codings then None
    else by_status a.status (bytes_eq method (codes "HEAD")) a.version transfer_codings lengths
