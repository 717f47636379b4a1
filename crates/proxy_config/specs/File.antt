-- The meaning of a whole file.
use Rattle.std.specs.Prelude.{◌≡◌, ℕ, ◌+◌, ◌==◌, Bool, true, false, nat_lt, is_some, if◌then◌else◌, List}
use Rattle.std.specs.Prelude.{[], ◌∷◌, length, take, count_by, Option, Some, None, Result, Ok, Err}
use Rattle.std.specs.Str.Lines.{lines}
use Rattle.proxy_words.specs.Text.{is_line_feed, words, uncommented}
use Rattle.proxy_config.specs.declared.faults.FaultCause.{FaultCause}
use Rattle.proxy_config.specs.declared.faults.FaultCause.TheVariants as causes
use Rattle.proxy_config.specs.declared.faults.ConfigFault.{ConfigFault}
use Rattle.proxy_config.specs.declared.faults.ReadError.{ReadError}
use Rattle.proxy_config.specs.declared.faults.ReadError.TheVariants as errors
use Rattle.proxy_config.specs.declared.draft.Draft.{Draft}
use Rattle.proxy_config.specs.declared.draft.Section.TheVariants as sections
use Rattle.proxy_config.specs.declared.keywords.Keyword.{Keyword}
use Rattle.proxy_config.specs.declared.keywords.Keyword.TheVariants as keywords
use Rattle.proxy_config.specs.declared.parts.Bind.{Bind}
use Rattle.proxy_config.specs.declared.parts.Config.{Config}
use Rattle.proxy_config.specs.declared.parts.Server.{Server}
use Rattle.proxy_config.specs.Draft as draft
use Rattle.proxy_config.specs.Resolved.{Resolved, start, resolved_line}
use Rattle.proxy_config.specs.declared.wishes.UnresolvedUseServer.{UnresolvedUseServer}
use Rattle.proxy_config.specs.Keywords.{keyword_of}
use Rattle.proxy_config.specs.Values.{queue_timeout, set_time}

-- the most bytes of a file
abbrev pub most_bytes : ℕ
most_bytes = 1048576

-- the number of the line with the first byte past the limit, in a file that is too long
abbrev pub long_line : List ℕ → Option ℕ
long_line bytes = if nat_lt most_bytes (length bytes) then Some (count_by is_line_feed (take most_bytes bytes) + 1) else None

abbrev pub is_line : Option ℕ → ℕ → Bool
is_line None n = false
is_line (Some line) n = line == n

-- a line's outcome, with its number beside the cause, and the outcome of what comes after it
abbrev pub then_lines : {A B : Type 0} → ℕ → Result B FaultCause → (B → Result A ConfigFault) → Result A ConfigFault
then_lines n (Ok made) more = more made
then_lines n (Err cause) more = Err (record { line = n; cause = cause })

-- the lines from this number on, each after the result of those before it: the first faulty one is named
abbrev pub run : List Server → Option ℕ → Resolved → ℕ → List (List ℕ) → Result Resolved ConfigFault
run servers long r n [] = Ok r
run servers long r n (line ∷ lines) =
    then_lines n (resolved_line servers (is_line long n) r n line) (λ next. run servers long next (n + 1) lines)

-- the keyword of a line
abbrev pub first_keyword : List (List ℕ) → Option Keyword
first_keyword [] = None
first_keyword (word ∷ words) = keyword_of word

abbrev pub keyword_in : List ℕ → Option Keyword
keyword_in line = first_keyword (words (uncommented line))

-- a section that the profile leaves out, or a second `listen`
abbrev pub ends_listen : Draft → Option Keyword → Bool
ends_listen d (Some keywords.Refused) = true
ends_listen d (Some keywords.Listen) = is_some d.listen
ends_listen d other = false

-- a faulty line changes nothing, except that one that begins such a section ends the `listen`: what
-- follows it belongs to no section that counts, up to the next section word
abbrev pub after_fault : Draft → Option Keyword → Draft
after_fault d keyword = if ends_listen d keyword then record d { section = sections.Outside } else d

abbrev pub unless_faulty : Draft → Option Keyword → Result (Draft × Option UnresolvedUseServer) FaultCause → Draft
unless_faulty d keyword (Ok (next, wish)) = next
unless_faulty d keyword (Err cause) = after_fault d keyword

-- the draft after all lines, ignoring faulty ones: a rule may name any of its servers, wherever
-- that one stands, and no pin changes them
abbrev pub survey : Option ℕ → Draft → ℕ → List (List ℕ) → Draft
survey long d n [] = d
survey long d n (line ∷ lines) = survey long (unless_faulty d (keyword_in line) (draft.step 0 (is_line long n) d n line)) (n + 1) lines

abbrev pub declared_servers : List ℕ → List Server
declared_servers bytes = (survey (long_line bytes) draft.start 1 (lines bytes)).servers

abbrev pub missing : {A : Type 0} → ℕ → Result A ConfigFault
missing line = Err (record { line = line; cause = causes.Missing })

-- the result of the lines: a `listen` with a `bind` and at least one server
abbrev pub whole : Option ℕ → Option Bind → Resolved → Result Config ConfigFault
whole None bind r = missing 0
whole (Some line) None r = missing line
whole (Some line) (Some bind) r = if length r.draft.servers == 0 then missing line else Ok (record {
  bind = bind;
  servers = r.draft.servers;
  retries = r.draft.values.retries;
  redispatch = r.draft.values.redispatch;
  abortonclose = r.draft.values.abortonclose;
  queue_timeout = queue_timeout r.draft.values;
  connect_timeout = set_time r.draft.values.connect;
  client_timeout = set_time r.draft.values.client;
  server_timeout = set_time r.draft.values.server;
  acls = r.draft.acls;
  rules = r.draft.rules;
  pins = r.pins;
})

abbrev pub finished : Result Resolved ConfigFault → Result Config ConfigFault
finished (Ok r) = whole r.draft.listen r.draft.bind r
finished (Err fault) = Err fault

-- the configuration of a file, or its first fault
abbrev pub reading : List ℕ → Result Config ConfigFault
reading bytes = finished (run (declared_servers bytes) (long_line bytes) start 1 (lines bytes))

-- what a function returned is the definition's result, except for want of memory
abbrev pub FileAnswers : {X : Type 0} → Result X ReadError → Result X ConfigFault → Type 0
FileAnswers (Ok x) read = read ≡ Ok x
FileAnswers (Err errors.NoMemory) read = Unit {0}
FileAnswers (Err (errors.Fault fault)) read = read ≡ Err fault
