-- The first words of lines.
use Rattle.std.specs.Prelude.{ℕ, Bool, ◌||◌, if◌then◌else◌, List, Option, Some, None, codes}
use Rattle.std.specs.Option.{option_or}
use Rattle.std.specs.Str.{bytes_eq}
use Rattle.proxy_config.specs.declared.keywords.Keyword.{Keyword}
use Rattle.proxy_config.specs.declared.keywords.Keyword.TheVariants.{Global, Defaults, Listen, Refused, Shared, Bind, Server, Acl, HttpRequest, UseServer}
use Rattle.proxy_config.specs.declared.values.Shared.TheVariants as shared

-- a section that the profile leaves out
abbrev pub is_refused : List ℕ → Bool
is_refused word =
    bytes_eq word (codes "frontend") || bytes_eq word (codes "backend") || bytes_eq word (codes "peers")
    || bytes_eq word (codes "resolvers") || bytes_eq word (codes "userlist") || bytes_eq word (codes "cache")
    || bytes_eq word (codes "program")

abbrev pub section_of : List ℕ → Option Keyword
section_of word =
    if bytes_eq word (codes "global") then Some Global
    else if bytes_eq word (codes "defaults") then Some Defaults
    else if bytes_eq word (codes "listen") then Some Listen
    else if is_refused word then Some Refused
    else None

abbrev pub shared_of : List ℕ → Option Keyword
shared_of word =
    if bytes_eq word (codes "mode") then Some (Shared shared.Mode)
    else if bytes_eq word (codes "balance") then Some (Shared shared.Balance)
    else if bytes_eq word (codes "retries") then Some (Shared shared.Retries)
    else if bytes_eq word (codes "option") then Some (Shared shared.Option)
    else if bytes_eq word (codes "timeout") then Some (Shared shared.Timeout)
    else if bytes_eq word (codes "log") then Some (Shared shared.Note)
    else if bytes_eq word (codes "description") then Some (Shared shared.Note)
    else None

abbrev pub listen_keyword_of : List ℕ → Option Keyword
listen_keyword_of word =
    if bytes_eq word (codes "bind") then Some Bind
    else if bytes_eq word (codes "server") then Some Server
    else if bytes_eq word (codes "acl") then Some Acl
    else if bytes_eq word (codes "http-request") then Some HttpRequest
    else if bytes_eq word (codes "use-server") then Some UseServer
    else None

abbrev pub keyword_of : List ℕ → Option Keyword
keyword_of word = option_or (option_or (section_of word) (shared_of word)) (listen_keyword_of word)
