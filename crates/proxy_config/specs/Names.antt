-- The words that are names, beside those of sections and servers.
use Rattle.std.specs.Prelude.{ℕ, Bool, ◌||◌, ◌&&◌, ◌==◌, not, List, length, codes}
use Rattle.std.specs.List.{list_all}
use Rattle.std.specs.Char.{is_ascii_alphanumeric}
use Rattle.std.specs.Str.{bytes_eq}
use Rattle.proxy_words.specs.Names.{is_in, is_name}

-- the name of an ACL; `or` isn't one, since it separates alternatives
abbrev pub is_acl_name : List ℕ → Bool
is_acl_name word = is_name word && not (bytes_eq word (codes "or"))

abbrev pub is_token_byte : ℕ → Bool
is_token_byte byte = is_ascii_alphanumeric byte || is_in (codes "!#$%&'*+-.^_|~`") byte

-- the name of a field: a token, RFC 9110 section 5.6.2
abbrev pub is_token : List ℕ → Bool
is_token word = not (length word == 0) && list_all is_token_byte word

abbrev pub is_host_byte : ℕ → Bool
is_host_byte byte = is_ascii_alphanumeric byte || is_in (codes "-.") byte

-- the name of a host
abbrev pub is_host : List ℕ → Bool
is_host word = not (length word == 0) && list_all is_host_byte word
