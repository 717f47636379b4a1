-- The definitions at worked examples: what must hold, and what must not.
use Rattle.std.proofs.Common.{◌≡◌, ◌∙◌, ℕ, ◌≤◌, List, [], ◌∷◌, Some, None, true, false, codes, length, refl, sym, arith, subst}
use Rattle.std.specs.Fmt.{digits}
use Rattle.std.specs.Net.Text.{hex, hex_groups_text, ipv6_text}
use Rattle.std.specs.declared.net.ip_addr.IpAddr.TheVariants.{V4, V6}
use Rattle.http_bodies.specs.declared.framing.Framing.TheVariants.{Empty, Length, Chunked, ToEnd}
use Rattle.http_texts.specs.Framings.{request_framing, answer_plan, bare}
use Rattle.http_bodies.specs.Framings.{IsBody, PartOfBody, LacksBody}
use Rattle.http_bodies.specs.declared.framing.Framing.{Framing}
use Rattle.http_texts.specs.Messages.{IsForwarded, PartOfForwarded, LacksForwarded}
use Rattle.http_texts.specs.Messages.PartOfForwarded.{nothing, head_and_body}
use Rattle.http_texts.specs.Messages.LacksForwarded.{no_framing as badly_framed, no_body}
use Rattle.http_texts.specs.declared.fault.Fault.TheVariants.{Read, Framing as BadFraming}
use Rattle.http_texts.specs.Persistences.{wished, answer_says}
use Rattle.http_texts.specs.Replies.{leave_text}
use Rattle.http_texts.specs.Texts.{request_text, unnamed, answer_text, interim_text}
use Rattle.req_view.specs.Answer.{Answer}
use Rattle.req_view.specs.Request.{NamedValue, Request}
use Rattle.req_view.specs.declared.version.Version.{Version}
use Rattle.http_texts.specs.declared.persistence.Persistence.TheVariants.{Close, Persist, KeepAlive}
use Rattle.req_view.specs.declared.version.Version.TheVariants.{Http10, Http11}

post : List NamedValue → Request
post fields = record { method = codes "POST"; target = codes "/a"; version = Http11; fields = fields }

old_get : List NamedValue → Request
old_get fields = record { method = codes "GET"; target = codes "/a"; version = Http10; fields = fields }

answer : ℕ → Version → List NamedValue → Answer
answer status version fields = record { status = status; reason = codes "OK"; version = version; fields = fields }

host : NamedValue
host = (codes "Host", codes "h")

length_is : List ℕ → NamedValue
length_is value = (codes "Content-Length", value)

chunked : NamedValue
chunked = (codes "Transfer-Encoding", codes "chunked")

naming_a_field : Request
naming_a_field = post (host ∷ (codes "Connection", codes "x-a") ∷ (codes "X-A", codes "1") ∷ length_is (codes "3") ∷ [])

naming_a_field_framing : request_framing naming_a_field ≡ Some (Length 3)
unfolding naming_a_field post host length_is
naming_a_field_framing = refl

-- the field that Connection names isn't handed on
naming_a_field_text : request_text (unnamed Close) naming_a_field (Length 3) ≡ codes "POST /a HTTP/1.1\r\nHost: h\r\nContent-Length: 3\r\nConnection: close\r\n\r\n"
unfolding naming_a_field post host length_is digits
naming_a_field_text = refl

two_lengths : request_framing (post (length_is (codes "3") ∷ length_is (codes "4") ∷ [])) ≡ None
unfolding post length_is
two_lengths = refl

one_length_twice : request_framing (post (length_is (codes "5, 05") ∷ length_is (codes "5") ∷ [])) ≡ Some (Length 5)
unfolding post length_is
one_length_twice = refl

length_with_sign : request_framing (post (length_is (codes "+5") ∷ [])) ≡ None
unfolding post length_is
length_with_sign = refl

empty_length : request_framing (post (length_is [] ∷ [])) ≡ None
unfolding post length_is
empty_length = refl

length_and_empty_part : request_framing (post (length_is (codes "5,") ∷ [])) ≡ None
unfolding post length_is
length_and_empty_part = refl

length_of_nineteen_digits : request_framing (post (length_is (codes "1000000000000000000") ∷ [])) ≡ None
unfolding post length_is
length_of_nineteen_digits = refl

coding_in_any_case : request_framing (post ((codes "transfer-encoding", codes "CHUNKed") ∷ [])) ≡ Some Chunked
unfolding post
coding_in_any_case = refl

coding_and_length : request_framing (post (chunked ∷ length_is (codes "3") ∷ [])) ≡ None
unfolding post length_is chunked
coding_and_length = refl

length_and_coding : request_framing (post (length_is (codes "3") ∷ chunked ∷ [])) ≡ None
unfolding post length_is chunked
length_and_coding = refl

two_codings : request_framing (post (chunked ∷ chunked ∷ [])) ≡ None
unfolding post chunked
two_codings = refl

coding_list : request_framing (post ((codes "Transfer-Encoding", codes "gzip, chunked") ∷ [])) ≡ None
unfolding post
coding_list = refl

old_coding : request_framing (old_get (chunked ∷ [])) ≡ None
unfolding old_get chunked
old_coding = refl

no_framing : request_framing (old_get []) ≡ Some Empty
unfolding old_get
no_framing = refl

-- an old request without a Host field gets an empty one
old_get_text : request_text (unnamed Close) (old_get []) Empty ≡ codes "GET /a HTTP/1.1\r\nHost:\r\nConnection: close\r\n\r\n"
unfolding old_get
old_get_text = refl

-- and so does one whose Connection names Host
host_named_text : request_text (unnamed Close) (post (host ∷ (codes "connection", codes "close , HOST") ∷ [])) Empty
    ≡ codes "POST /a HTTP/1.1\r\nHost:\r\nConnection: close\r\n\r\n"
unfolding post host
host_named_text = refl

-- whose request it is stands behind the fields that came, one of the same name among them
named_text : request_text (record { asks = Close; client = Some (V4 (record { octets = 192 ∷ 0 ∷ 2 ∷ 7 ∷ [] })) })
    (post (host ∷ (codes "x-forwarded-for", codes "10.0.0.1") ∷ length_is (codes "3") ∷ [])) (Length 3)
    ≡ codes "POST /a HTTP/1.1\r\nHost: h\r\nx-forwarded-for: 10.0.0.1\r\nX-Forwarded-For: 192.0.2.7\r\nContent-Length: 3\r\nConnection: close\r\n\r\n"
unfolding post host length_is digits
named_text = refl

-- also where Connection names that field
named_anew_text : request_text (record { asks = Close; client = Some (V6 (record { segments = 0x2001 ∷ 0xdb8 ∷ 0 ∷ 0 ∷ 0 ∷ 0 ∷ 0 ∷ 1 ∷ [] })) })
    (post (host ∷ (codes "Connection", codes "X-Forwarded-For") ∷ (codes "X-Forwarded-For", codes "10.0.0.1") ∷ [])) Empty
    ≡ codes "POST /a HTTP/1.1\r\nHost: h\r\nX-Forwarded-For: 2001:db8::1\r\nConnection: close\r\n\r\n"
unfolding post host ipv6_text hex_groups_text hex
named_anew_text = refl

chunked_answer : answer_plan (codes "GET") (answer 200 Http11 (chunked ∷ [])) ≡ Some (record { body = Chunked; stated = Chunked })
unfolding answer chunked
chunked_answer = refl

chunked_to_old_client : answer_text Close false (answer 200 Http11 (chunked ∷ [])) (record { body = Chunked; stated = Chunked })
    ≡ codes "HTTP/1.1 200 OK\r\nConnection: close\r\n\r\n"
unfolding answer chunked
chunked_to_old_client = refl

chunked_to_client : answer_text Close true (answer 200 Http11 (chunked ∷ [])) (record { body = Chunked; stated = Chunked })
    ≡ codes "HTTP/1.1 200 OK\r\nTransfer-Encoding: chunked\r\nConnection: close\r\n\r\n"
unfolding answer chunked
chunked_to_client = refl

answer_to_the_end : answer_plan (codes "GET") (answer 200 Http10 []) ≡ Some (record { body = ToEnd; stated = ToEnd })
unfolding answer
answer_to_the_end = refl

not_modified : answer_plan (codes "GET") (answer 304 Http11 (length_is (codes "5") ∷ [])) ≡ Some (record { body = Empty; stated = Length 5 })
unfolding answer length_is
not_modified = refl

not_modified_text : answer_text Close true (answer 304 Http11 (length_is (codes "5") ∷ [])) (record { body = Empty; stated = Length 5 })
    ≡ codes "HTTP/1.1 304 OK\r\nContent-Length: 5\r\nConnection: close\r\n\r\n"
unfolding answer length_is digits
not_modified_text = refl

head_of_chunked : answer_plan (codes "HEAD") (answer 200 Http11 (chunked ∷ [])) ≡ Some bare
unfolding answer chunked
head_of_chunked = refl

head_of_length_and_coding : answer_plan (codes "HEAD") (answer 200 Http11 (chunked ∷ length_is (codes "7") ∷ []))
    ≡ Some (record { body = Empty; stated = Length 7 })
unfolding answer chunked length_is
head_of_length_and_coding = refl

-- a length isn't read there
no_content : answer_plan (codes "GET") (answer 204 Http11 (length_is (codes "x") ∷ [])) ≡ Some bare
unfolding answer length_is
no_content = refl

switching_protocols : answer_plan (codes "GET") (answer 101 Http11 []) ≡ None
unfolding answer
switching_protocols = refl

coding_of_an_old_server : answer_plan (codes "HEAD") (answer 200 Http10 (chunked ∷ [])) ≡ None
unfolding answer chunked
coding_of_an_old_server = refl

hints : interim_text true (answer 103 Http11 ((codes "Link", codes "x") ∷ length_is (codes "3") ∷ [])) ≡ codes "HTTP/1.1 103 OK\r\nLink: x\r\n\r\n"
unfolding answer length_is
hints = refl

-- which no old client gets
no_hints : interim_text false (answer 103 Http11 []) ≡ []
unfolding answer
no_hints = refl

-- a 100 is for the proxy alone
no_continue : interim_text true (answer 100 Http11 []) ≡ []
unfolding answer
no_continue = refl

waiting : List ℕ → Request
waiting value = post (host ∷ length_is value ∷ (codes "expect", codes "100-Continue") ∷ [])

leave_is_given : leave_text (waiting (codes "3")) ≡ codes "HTTP/1.1 100 Continue\r\n\r\n"
unfolding waiting post host length_is
leave_is_given = refl

-- a body without bytes needs none
no_leave_for_nothing : leave_text (waiting (codes "0")) ≡ []
unfolding waiting post host length_is
no_leave_for_nothing = refl

-- an old client can't wait for it
no_leave_for_old : leave_text (old_get (length_is (codes "3") ∷ (codes "Expect", codes "100-continue") ∷ [])) ≡ []
unfolding old_get length_is
no_leave_for_old = refl

-- the body goes behind the head, and no byte past it
naming_a_field_whole : IsForwarded (unnamed Close) naming_a_field (codes "abc") (codes "POST /a HTTP/1.1\r\nHost: h\r\nContent-Length: 3\r\nConnection: close\r\n\r\nabc")
unfolding naming_a_field post host length_is digits
naming_a_field_whole = record { framing = Length 3; framed = refl; body = codes "abc"; passes = (refl, refl); text_is = refl }

length_of : (w : Framing) → Some (Length 3) ≡ Some w → (used text : List ℕ) → IsBody w true used text → length used ≡ 3
length_of w same used text passes =
    let is : Length 3 ≡ w = cc in
    (subst (λ (f : Framing). IsBody f true used text) (sym is) passes).0

-- two bytes are no body of three
not_yet_whole : (text : List ℕ) → ¬ (IsForwarded (unnamed Close) naming_a_field (codes "ab") text)
not_yet_whole text w = omega (arith, length_of w.framing (sym naming_a_field_framing ∙ w.framed) (codes "ab") w.body w.passes)

-- but a part, which becomes as much
naming_a_field_part : PartOfForwarded (unnamed Close) naming_a_field (codes "ab")
    (codes "POST /a HTTP/1.1\r\nHost: h\r\nContent-Length: 3\r\nConnection: close\r\n\r\nab")
unfolding naming_a_field post host length_is digits
naming_a_field_part = head_and_body (Length 3) (codes "ab") (codes "ab") refl (omega arith, refl)

-- a byte past the body is of no part
few_bytes : (used text : List ℕ) → PartOfForwarded (unnamed Close) naming_a_field used text → length used ≤ 3
few_bytes used text nothing = omega arith
few_bytes used text (head_and_body w u body framed part) =
    let same : Some (Length 3) ≡ Some w = sym naming_a_field_framing ∙ framed in
    let is : Length 3 ≡ w = cc in
    (subst (λ (f : Framing). PartOfBody f true u body) (sym is) part).0

past_the_body : (text : List ℕ) → ¬ (PartOfForwarded (unnamed Close) naming_a_field (codes "abcd") text)
past_the_body text part = omega (arith, few_bytes (codes "abcd") text part)

-- where the input ends there, a byte is wanting
two_lack_one : LacksForwarded naming_a_field Read (codes "ab")
two_lack_one = no_body (Length 3) naming_a_field_framing (omega arith)

three_lack_none : ¬ (LacksForwarded naming_a_field Read (codes "abc"))
three_lack_none (badly_framed e none) = let wrong : Read ≡ BadFraming = e in cc
three_lack_none (no_body w framed lacks) =
    let same : Some (Length 3) ≡ Some w = sym naming_a_field_framing ∙ framed in
    let is : Length 3 ≡ w = cc in
    omega (arith, subst (λ (f : Framing). LacksBody f (codes "abc")) (sym is) lacks)

-- two lengths are bad framing, whatever follows
two_lengths_lack : (input : List ℕ) → LacksForwarded (post (length_is (codes "3") ∷ length_is (codes "4") ∷ [])) BadFraming input
two_lengths_lack input = badly_framed refl two_lengths

-- the same where the connection stays open
kept_open_text : request_text (unnamed Persist) naming_a_field (Length 3) ≡ codes "POST /a HTTP/1.1\r\nHost: h\r\nContent-Length: 3\r\n\r\n"
unfolding naming_a_field post host length_is digits
kept_open_text = refl

answer_kept_open : answer_text Persist true (answer 304 Http11 (length_is (codes "5") ∷ [])) (record { body = Empty; stated = Length 5 })
    ≡ codes "HTTP/1.1 304 OK\r\nContent-Length: 5\r\n\r\n"
unfolding answer length_is digits
answer_kept_open = refl

-- an old client that asked is told so
old_asks : wished (old_get ((codes "Connection", codes "Keep-Alive") ∷ [])) ≡ KeepAlive
unfolding old_get
old_asks = refl

old_answer_kept : answer_text KeepAlive false (answer 304 Http11 (length_is (codes "5") ∷ [])) (record { body = Empty; stated = Length 5 })
    ≡ codes "HTTP/1.1 304 OK\r\nContent-Length: 5\r\nConnection: keep-alive\r\n\r\n"
unfolding answer length_is digits
old_answer_kept = refl

-- one that didn't isn't, nor one that also asks to close
old_silent : wished (old_get []) ≡ Close
unfolding old_get
old_silent = refl

both_asked : wished (old_get ((codes "connection", codes "keep-alive, CLOSE") ∷ [])) ≡ Close
unfolding old_get
both_asked = refl

-- the answer in chunks to an old client, and the one up to the end to anyone, close it
chunks_close : answer_says true (old_get ((codes "Connection", codes "keep-alive") ∷ [])) (record { body = Chunked; stated = Chunked }) ≡ Close
unfolding old_get
chunks_close = refl

end_closes : answer_says true (post (host ∷ [])) (record { body = ToEnd; stated = ToEnd }) ≡ Close
unfolding post host
end_closes = refl

chunks_stay : answer_says true (post (host ∷ [])) (record { body = Chunked; stated = Chunked }) ≡ Persist
unfolding post host
chunks_stay = refl
