-- The definitions at worked examples: what must hold, and what must not.
use Rattle.std.proofs.Common.{◌≡◌, ℕ, List, [], ◌∷◌, Some, None, true, false, codes, length, refl, ap, arith}
use Rattle.httparse.specs.Grammar.{RequestHead, crlf, print_request, trim_ows}
use Rattle.req_view.specs.declared.version.Version.TheVariants.{Http10, Http11}
use Rattle.req_view.specs.Request.{Request, request_of, values_of, IsWelcome}
use Rattle.req_view.specs.Target.{path_of, has_fragment}

path_after_host : path_of (codes "http://h/a?b") ≡ Some (codes "/a")
path_after_host = refl

path_after_secure_host : path_of (codes "https://h/a/?b/c") ≡ Some (codes "/a/")
path_after_secure_host = refl

path_before_query : path_of (codes "/?/a") ≡ Some (codes "/")
path_before_query = refl

-- the slash of a query begins no path
host_alone : path_of (codes "http://h?b/c") ≡ Some []
host_alone = refl

no_path : path_of (codes "*") ≡ None
no_path = refl

no_path_of_authority : path_of (codes "h:443") ≡ None
no_path_of_authority = refl

head : List (List ℕ × List ℕ) → Request
head fields = record { method = codes "GET"; target = codes "/"; version = Http11; fields = fields }

old_head : List (List ℕ × List ℕ) → Request
old_head fields = record { method = codes "GET"; target = codes "/"; version = Http10; fields = fields }

one_host : IsWelcome (head ((codes "hOST", codes "h") ∷ (codes "A", codes "b") ∷ []))
unfolding head
one_host = record { names_host = refl; wants_no_tunnel = λ same. absurd (omega (arith, ap length same)); has_no_fragment = refl }

no_host : ¬ (IsWelcome (head ((codes "Hosts", codes "h") ∷ [])))
unfolding head
no_host welcome = omega (arith, welcome.names_host)

two_hosts : ¬ (IsWelcome (head ((codes "Host", codes "h") ∷ (codes "host", codes "h") ∷ [])))
unfolding head
two_hosts welcome = omega (arith, welcome.names_host)

old_without_host : IsWelcome (old_head [])
unfolding old_head
old_without_host = record { names_host = omega arith; wants_no_tunnel = λ same. absurd (omega (arith, ap length same)); has_no_fragment = refl }

old_with_two_hosts : ¬ (IsWelcome (old_head ((codes "Host", codes "h") ∷ (codes "host", codes "h") ∷ [])))
unfolding old_head
old_with_two_hosts welcome = omega (arith, welcome.names_host)

tunnel : ¬ (IsWelcome (record { method = codes "CONNECT"; target = codes "h:1"; version = Http11; fields = (codes "Host", codes "h") ∷ [] }))
tunnel welcome = welcome.wants_no_tunnel refl

-- what looks like the end of a path isn't one
fragment : ¬ (IsWelcome (record { method = codes "GET"; target = codes "/a#.png"; version = Http11; fields = (codes "Host", codes "h") ∷ [] }))
fragment welcome = let has : true ≡ false = welcome.has_no_fragment in absurd (cc has)

-- values come in the order of the fields, whatever the case of the name
values_row : values_of (codes "x-due") ((codes "X-Due", codes "5, 70") ∷ (codes "A", codes "b") ∷ (codes "x-DUE", codes "6") ∷ [])
    ≡ codes "5, 70" ∷ codes "6" ∷ []
values_row = refl

-- `GET / HTTP/1.1`, a field and the empty line are 27 bytes
plain : RequestHead
plain = record {
  blank = [];
  method = codes "GET";
  target = codes "/";
  minor = 1;
  line_end = crlf;
  fields = record { name = codes "Host"; raw = codes " h"; end = crlf } ∷ [];
  last = crlf;
}

plain_length : length (print_request plain) ≡ 27
unfolding plain print_request
plain_length = refl

plain_request : request_of plain ≡ head ((codes "Host", codes "h") ∷ [])
unfolding plain head trim_ows
plain_request = refl
