-- The effect of one line of the file.
use Rattle.std.specs.Prelude.{ℕ, ◌+◌, Bool, true, false, ◌&&◌, nat_le, if◌then◌else◌, not, is_some, List}
use Rattle.std.specs.Prelude.{[], ◌∷◌, ◌++◌, length, Option, Some, None, Result, Ok, Err}
use Rattle.std.specs.Option.{ok_or}
use Rattle.std.specs.List.{list_any}
use Rattle.proxy_words.specs.Text.{words, uncommented}
use Rattle.proxy_config.specs.declared.faults.FaultCause.{FaultCause}
use Rattle.proxy_config.specs.declared.faults.FaultCause.TheVariants as causes
use Rattle.proxy_config.specs.declared.draft.Draft.{Draft}
use Rattle.proxy_config.specs.declared.draft.Section.{Section}
use Rattle.proxy_config.specs.declared.draft.Section.TheVariants as sections
use Rattle.proxy_config.specs.declared.keywords.Keyword.{Keyword}
use Rattle.proxy_config.specs.declared.keywords.Keyword.TheVariants as keywords
use Rattle.proxy_config.specs.declared.parts.Address.{Address}
use Rattle.proxy_config.specs.declared.parts.Server.{Server}
use Rattle.proxy_config.specs.declared.settings.Settings.{Settings}
use Rattle.proxy_config.specs.declared.values.Shared.{Shared}
use Rattle.proxy_config.specs.declared.wishes.UnresolvedUseServer.{UnresolvedUseServer}
use Rattle.proxy_config.specs.Outcomes.{◌>>=◌, unless}
use Rattle.proxy_config.specs.Keywords.{keyword_of, section_of}
use Rattle.proxy_config.specs.Pieces.{word_at, end_at}
use Rattle.proxy_words.specs.Names.{is_name, is_in}
use Rattle.proxy_config.specs.Addresses.{bind_of, address_of}
use Rattle.proxy_config.specs.Settings as server
use Rattle.proxy_config.specs.Values as values
use Rattle.proxy_config.specs.Rules.{acl_line, rule_line, server_index}
use Rattle.proxy_config.specs.Wishes.{wish_line}

-- the draft before the first line
abbrev pub start : Draft
start = record {
  section = sections.Outside;
  listen = None;
  defaults = values.built_in;
  values = values.built_in;
  bind = None;
  servers = [];
  acls = [];
  acl_lines = 0;
  rules = [];
}

-- the most servers, ACL lines and rules
abbrev pub most_servers : ℕ
most_servers = 64

abbrev pub most_acl_lines : ℕ
most_acl_lines = 256

abbrev pub most_rules : ℕ
most_rules = 256

-- `global`
unfoldable pub global_line : Draft → List (List ℕ) → Result Draft FaultCause
global_line d words = do
  end ← end_at words
  Ok (record d { section = sections.Global })

-- a name or nothing
unfoldable pub optional_name : List (List ℕ) → Result (Unit {0}) FaultCause
optional_name [] = Ok tt
optional_name (name ∷ words) = unless (not (is_name name)) causes.Name >>= λ named. end_at words

-- `defaults`, and a name or nothing: all values get their built-in defaults again
unfoldable pub defaults_line : Draft → List (List ℕ) → Result Draft FaultCause
defaults_line d words = do
  name ← optional_name words
  Ok (record d { section = sections.Defaults; defaults = values.built_in })

-- `listen NAME`, once: it begins with the values of `defaults`
unfoldable pub listen_line : Draft → ℕ → List (List ℕ) → Result Draft FaultCause
listen_line d n words = do
  again ← unless (is_some d.listen) causes.Section
  name ← word_at words
  named ← unless (not (is_name name.0)) causes.Name
  end ← end_at name.1
  Ok (record d { section = sections.Listen; listen = Some n; values = d.defaults })

-- a line that `defaults` and `listen` take
unfoldable pub value_line : Draft → Shared → List (List ℕ) → Result Draft FaultCause
value_line d shared words = elim d.section [
  | sections.Outside ↦ Err causes.Place
  | sections.Global ↦ Err causes.Place
  | sections.Defaults ↦ values.shared_line shared d.defaults words >>= λ v. Ok (record d { defaults = v })
  | sections.Listen ↦ values.shared_line shared d.values words >>= λ v. Ok (record d { values = v })
]

-- the section takes lines that only `listen` takes
abbrev pub in_listen : Section → Bool
in_listen sections.Listen = true
in_listen other = false

-- `bind A:PORT`, once
unfoldable pub bind_line : Draft → List (List ℕ) → Result Draft FaultCause
bind_line d words = do
  place ← unless (not (in_listen d.section)) causes.Place
  again ← unless (is_some d.bind) causes.Twice
  word ← word_at words
  bind ← ok_or (bind_of word.0) causes.Address
  end ← end_at word.1
  Ok (record d { bind = Some bind })

abbrev pub server_of : List ℕ → Address → Settings → Server
server_of name address s = record { name = name; address = address; maxconn = s.maxconn; maxqueue = s.maxqueue; weight = s.weight; check = server.checks s }

-- `server NAME A:PORT`, and its settings
unfoldable pub server_line : Draft → List (List ℕ) → Result Draft FaultCause
server_line d words = do
  place ← unless (not (in_listen d.section)) causes.Place
  limit ← unless (nat_le most_servers (length d.servers)) causes.Limit
  name ← word_at words
  named ← unless (not (is_name name.0)) causes.Name
  again ← unless (is_some (server_index name.0 d.servers)) causes.Twice
  second ← word_at name.1
  address ← ok_or (address_of second.0) causes.Address
  s ← server.settings server.built_in second.1
  Ok (record d { servers = d.servers ++ server_of name.0 address s ∷ [] })

-- `acl ..`
unfoldable pub test_line : Draft → List (List ℕ) → Result Draft FaultCause
test_line d words = do
  place ← unless (not (in_listen d.section)) causes.Place
  limit ← unless (nat_le most_acl_lines d.acl_lines) causes.Limit
  acls ← acl_line d.acls words
  Ok (record d { acls = acls; acl_lines = d.acl_lines + 1 })

-- there is room for one more rule beside those of the draft and this number of pins
abbrev pub has_rule_room : ℕ → Draft → Result (Unit {0}) FaultCause
has_rule_room pins d = unless (nat_le most_rules (length d.rules + pins)) causes.Limit

-- `http-request ..`, after this number of pins
unfoldable pub request_line : ℕ → Draft → List (List ℕ) → Result Draft FaultCause
request_line pins d words = do
  place ← unless (not (in_listen d.section)) causes.Place
  limit ← has_rule_room pins d
  rule ← rule_line d.acls words
  Ok (record d { rules = d.rules ++ rule ∷ [] })

-- `use-server ..`, after this number of pins: it asks for one more
unfoldable pub use_line : ℕ → Draft → ℕ → List (List ℕ) → Result UnresolvedUseServer FaultCause
use_line pins d n words = do
  place ← unless (not (in_listen d.section)) causes.Place
  limit ← has_rule_room pins d
  wish_line n d.acls words

-- a line that asks for no pin
abbrev pub plain : Result Draft FaultCause → Result (Draft × Option UnresolvedUseServer) FaultCause
plain read = read >>= λ d. Ok (d, None)

-- a line by its keyword, its number and its other words: the draft after it, and the pin that it asks for
abbrev pub keyword_line : ℕ → Draft → ℕ → Keyword → List (List ℕ) → Result (Draft × Option UnresolvedUseServer) FaultCause
keyword_line pins d n keywords.Global words = plain (global_line d words)
keyword_line pins d n keywords.Defaults words = plain (defaults_line d words)
keyword_line pins d n keywords.Listen words = plain (listen_line d n words)
keyword_line pins d n keywords.Refused words = Err causes.Section
keyword_line pins d n (keywords.Shared shared) words = plain (value_line d shared words)
keyword_line pins d n keywords.Bind words = plain (bind_line d words)
keyword_line pins d n keywords.Server words = plain (server_line d words)
keyword_line pins d n keywords.Acl words = plain (test_line d words)
keyword_line pins d n keywords.HttpRequest words = plain (request_line pins d words)
keyword_line pins d n keywords.UseServer words = use_line pins d n words >>= λ wish. Ok (d, Some wish)

-- a line by its words
unfoldable pub words_line : ℕ → Draft → ℕ → List (List ℕ) → Result (Draft × Option UnresolvedUseServer) FaultCause
words_line pins d n [] = Ok (d, None)
words_line pins d n (word ∷ words) = ok_or (keyword_of word) causes.Keyword >>= λ keyword. keyword_line pins d n keyword words

abbrev pub in_global : Section → Bool
in_global sections.Global = true
in_global other = false

-- a line of `global`: all up to the next section
abbrev pub is_ignored : Section → List (List ℕ) → Bool
is_ignored section [] = in_global section
is_ignored section (word ∷ words) = in_global section && not (is_some (section_of word))

-- a quote or a backslash
abbrev pub is_quoting : ℕ → Bool
is_quoting byte = is_in (34 ∷ 39 ∷ 92 ∷ []) byte

-- the draft after a line, by its number and whether the file becomes too long in it, after this number of pins
unfoldable pub step : ℕ → Bool → Draft → ℕ → List ℕ → Result (Draft × Option UnresolvedUseServer) FaultCause
step pins too_long d n line =
    if is_ignored d.section (words (uncommented line)) then (unless too_long causes.Limit >>= λ short. Ok (d, None))
    else do
      plain ← unless (list_any is_quoting (uncommented line)) causes.Quoting
      short ← unless too_long causes.Limit
      words_line pins d n (words (uncommented line))
