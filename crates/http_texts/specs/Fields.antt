-- The fields of a head that are handed on (RFC 9110, section 7.6.1).
use Rattle.std.specs.Prelude.{ℕ, Bool, ◌||◌, not, List, [], ◌∷◌, filter, codes}
use Rattle.std.specs.List.{flat_map, list_any}
use Rattle.std.specs.Str.{str_eq_ignore_ascii_case}
use Rattle.proxy_words.specs.Parts.{parts}
use Rattle.http_texts.specs.declared.fields.Way.{Way}
use Rattle.http_texts.specs.declared.fields.Way.TheVariants.{ToServer, ToClient}
use Rattle.req_view.specs.Request.{NamedValue, values_of}

-- the comma-separated parts of the values of all fields with a name
abbrev pub parts_of : List ℕ → List NamedValue → List (List ℕ)
parts_of name fields = flat_map parts (values_of name fields)

-- the name is one of these, ignoring case
abbrev pub is_among : List (List ℕ) → List ℕ → Bool
is_among names name = list_any (λ other. str_eq_ignore_ascii_case name other) names

-- the hop-by-hop fields, whose meaning ends with the connection
abbrev pub of_connection : List (List ℕ)
of_connection =
    codes "Connection" ∷ codes "Keep-Alive" ∷ codes "Proxy-Connection" ∷ codes "Upgrade" ∷ codes "Trailer"
    ∷ codes "Transfer-Encoding" ∷ codes "Content-Length" ∷ []

-- the fields of requests that aren't handed on
abbrev pub of_request : List (List ℕ)
of_request = codes "TE" ∷ codes "Expect" ∷ of_connection

-- the fields that aren't handed on, by the message's direction
abbrev pub dropped : Way → List (List ℕ)
dropped ToServer = of_request
dropped ToClient = of_connection

-- the name isn't one of these, and no Connection field names it
abbrev pub is_kept : List (List ℕ) → List NamedValue → List ℕ → Bool
is_kept names fields name = not (is_among (parts_of (codes "Connection") fields) name || is_among names name)

-- the fields that are handed on, in order
abbrev pub kept : List (List ℕ) → List NamedValue → List NamedValue
kept names fields = filter (λ field. is_kept names fields field.0) fields
