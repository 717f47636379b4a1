-- The text of an answer.
use Rattle.std.specs.Prelude.{◌≡◌, ℕ, List, [], ◌++◌, Bool, codes, length, if◌then◌else◌}
use Rattle.std.specs.Fmt.{decimal}
use Rattle.run_admin.specs.declared.page.Status.{Status}
use Rattle.run_admin.specs.declared.page.Status.TheVariants.{Good, BadRequest, NotFound, NotAllowed, TooSlow, TooLong, Unavailable}

abbrev pub status_number : Status → ℕ
status_number Good = 200
status_number BadRequest = 400
status_number NotFound = 404
status_number NotAllowed = 405
status_number TooSlow = 408
status_number TooLong = 431
status_number Unavailable = 503

abbrev pub reason_of : Status → List ℕ
reason_of Good = codes "OK"
reason_of BadRequest = codes "Bad Request"
reason_of NotFound = codes "Not Found"
reason_of NotAllowed = codes "Method Not Allowed"
reason_of TooSlow = codes "Request Timeout"
reason_of TooLong = codes "Request Header Fields Too Large"
reason_of Unavailable = codes "Service Unavailable"

-- the status line, the type of the body and its length
unfoldable pub head_text : Status → List ℕ → ℕ → List ℕ
head_text status kind size =
    codes "HTTP/1.1 " ++ decimal (status_number status) ++ codes " " ++ reason_of status ++ codes "\r\nContent-Type: " ++ kind
    ++ codes "\r\nContent-Length: " ++ decimal size ++ codes "\r\n"

-- the `Allow` field with the methods that the listener answers; nothing for any other status
unfoldable pub allow_text : Status → List ℕ
allow_text NotAllowed = codes "Allow: GET, HEAD\r\n"
allow_text status = []

-- the fields that stand in every answer, and the empty line that ends the head
unfoldable pub fields_text : List ℕ
fields_text = codes "Connection: close\r\nCache-Control: no-store\r\nX-Content-Type-Options: nosniff\r\nContent-Security-Policy: default-src 'none'; style-src 'unsafe-inline'; script-src 'unsafe-inline'; connect-src 'self'; frame-ancestors 'none'\r\n\r\n"

-- the body, or nothing where the answer has none
unfoldable pub body_text : List ℕ → Bool → List ℕ
body_text body whole = if whole then body else []

-- a whole answer: the head, and the body after the empty line where the answer has one
abbrev pub answer_text : Status → List ℕ → List ℕ → Bool → List ℕ
answer_text status kind body whole =
    head_text status kind (length body) ++ allow_text status ++ fields_text ++ body_text body whole
