-- Addresses as words.
use Rattle.std.specs.Prelude.{ℕ, ◌+◌, Bool, ◌==◌, ◌&&◌, nat_le, if◌then◌else◌, List, length, take, drop, map, position, Option, Some, None, option_map, codes}
use Rattle.std.specs.Option.{option_and_then}
use Rattle.std.specs.List.{list_all, slice_split}
use Rattle.std.specs.Str.{bytes_eq}
use Rattle.proxy_words.specs.Numerals.{is_numeral, value_of}
use Rattle.proxy_config.specs.declared.parts.Bind.{Bind}
use Rattle.proxy_config.specs.declared.parts.Address.{Address}
use Rattle.proxy_config.specs.declared.parts.Host.{Host}
use Rattle.proxy_config.specs.declared.parts.Host.TheVariants.{Ip, Name}
use Rattle.proxy_config.specs.Names.{is_host}
use Rattle.proxy_config.specs.Pieces.{number_in}

infixl 10 ◌>>=◌
abbrev ◌>>=◌ : {A B : Type 0} → Option A → (A → Option B) → Option B
read >>= f = option_and_then f read

abbrev pub is_dot : ℕ → Bool
is_dot byte = byte == 46

abbrev pub is_octet : List ℕ → Bool
is_octet part = is_numeral 9 part && nat_le (value_of part) 255

-- four numbers from 0 to 255 with three dots between them
abbrev pub ip : List ℕ → Option (List ℕ)
ip word =
    let parts = slice_split is_dot word in
    if length parts == 4 && list_all is_octet parts then Some (map value_of parts) else None

-- the text before the first colon, and the text after it
abbrev pub around_colon : List ℕ → Option (List ℕ × List ℕ)
around_colon word = option_map (λ n. (take n word, drop (n + 1) word)) (position (λ byte. byte == 58) word)

abbrev pub port : List ℕ → Option ℕ
port word = number_in 1 65535 word

-- an IPv4 address, or nothing or `*` for all addresses of this machine
abbrev pub bind_ip : List ℕ → Option (Option (List ℕ))
bind_ip word = if bytes_eq word (codes "") then Some None else if bytes_eq word (codes "*") then Some None
    else option_map Some (ip word)

abbrev pub bind_of : List ℕ → Option Bind
bind_of word = do
  parts ← around_colon word
  at ← bind_ip parts.0
  number ← port parts.1
  Some (record { ip = at; port = number })

-- an IPv4 address, or else a name
abbrev pub host_of : List ℕ → Option Host
host_of word = elim (ip word) [ Some bytes ↦ Some (Ip bytes) | None ↦ if is_host word then Some (Name word) else None ]

abbrev pub address_of : List ℕ → Option Address
address_of word = do
  parts ← around_colon word
  host ← host_of parts.0
  number ← port parts.1
  Some (record { host = host; port = number })
