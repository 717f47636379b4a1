-- The lines of `defaults` and `listen`.
use Rattle.std.specs.Prelude.{ℕ, true, false, if◌then◌else◌, not, nat_lt, List, Option, Some, None, Result, Ok, codes}
use Rattle.std.specs.Option.{ok_or}
use Rattle.std.specs.Str.{bytes_eq}
use Rattle.proxy_words.specs.Numerals.{numeral}
use Rattle.proxy_words.specs.Times.{time}
use Rattle.proxy_config.specs.declared.faults.FaultCause.{FaultCause}
use Rattle.proxy_config.specs.declared.faults.FaultCause.TheVariants as causes
use Rattle.proxy_config.specs.declared.values.Values.{Values}
use Rattle.proxy_config.specs.declared.values.Shared.{Shared}
use Rattle.proxy_config.specs.declared.values.Shared.TheVariants as shared
use Rattle.proxy_config.specs.declared.values.Timeout.{Timeout}
use Rattle.proxy_config.specs.declared.values.Timeout.TheVariants as timeouts
use Rattle.proxy_config.specs.declared.values.Switch.{Switch}
use Rattle.proxy_config.specs.declared.values.Switch.TheVariants as switches
use Rattle.proxy_config.specs.Outcomes.{◌>>=◌, unless}
use Rattle.proxy_config.specs.Pieces.{word_at, end_at}

-- the values before any line
abbrev pub built_in : Values
built_in = record { retries = 3; redispatch = false; abortonclose = false; queue = 0; connect = 0; client = 0; server = 0 }

-- a line whose only word after the first is this one
unfoldable pub fixed_line : List ℕ → Values → List (List ℕ) → Result Values FaultCause
fixed_line only v words = do
  word ← word_at words
  other ← unless (not (bytes_eq word.0 only)) causes.Keyword
  end ← end_at word.1
  Ok v

-- `retries N`
unfoldable pub retries_line : Values → List (List ℕ) → Result Values FaultCause
retries_line v words = do
  word ← word_at words
  n ← ok_or (numeral 9 word.0) causes.Number
  end ← end_at word.1
  Ok (record v { retries = n })

abbrev pub switch_of : List ℕ → Option Switch
switch_of word =
    if bytes_eq word (codes "redispatch") then Some switches.Redispatch
    else if bytes_eq word (codes "abortonclose") then Some switches.Abortonclose
    else if bytes_eq word (codes "httplog") then Some switches.Unused
    else if bytes_eq word (codes "dontlognull") then Some switches.Unused
    else None

abbrev pub switched : Switch → Values → Values
switched switches.Redispatch v = record v { redispatch = true }
switched switches.Abortonclose v = record v { abortonclose = true }
switched switches.Unused v = v

-- `option NAME`
unfoldable pub option_line : Values → List (List ℕ) → Result Values FaultCause
option_line v words = do
  word ← word_at words
  switch ← ok_or (switch_of word.0) causes.Keyword
  end ← end_at word.1
  Ok (switched switch v)

abbrev pub timeout_of : List ℕ → Option Timeout
timeout_of word =
    if bytes_eq word (codes "queue") then Some timeouts.Queue
    else if bytes_eq word (codes "connect") then Some timeouts.Connect
    else if bytes_eq word (codes "client") then Some timeouts.Client
    else if bytes_eq word (codes "server") then Some timeouts.Server
    else None

abbrev pub with_timeout : Timeout → ℕ → Values → Values
with_timeout timeouts.Queue t v = record v { queue = t }
with_timeout timeouts.Connect t v = record v { connect = t }
with_timeout timeouts.Client t v = record v { client = t }
with_timeout timeouts.Server t v = record v { server = t }

-- `timeout NAME T`
unfoldable pub timeout_line : Values → List (List ℕ) → Result Values FaultCause
timeout_line v words = do
  first ← word_at words
  timeout ← ok_or (timeout_of first.0) causes.Keyword
  second ← word_at first.1
  t ← ok_or (time second.0) causes.Number
  end ← end_at second.1
  Ok (with_timeout timeout t v)

-- the values after a line, by its first word and the others
abbrev pub shared_line : Shared → Values → List (List ℕ) → Result Values FaultCause
shared_line shared.Mode v words = fixed_line (codes "http") v words
shared_line shared.Balance v words = fixed_line (codes "leastconn") v words
shared_line shared.Retries v words = retries_line v words
shared_line shared.Option v words = option_line v words
shared_line shared.Timeout v words = timeout_line v words
shared_line shared.Note v words = Ok v

-- a time that is set; 0 is no limit
abbrev pub set_time : ℕ → Option ℕ
set_time t = if nat_lt 0 t then Some t else None

-- the longest stay in a queue: without a value of its own that of a connect, and 0 is no limit
abbrev pub queue_timeout : Values → Option ℕ
queue_timeout v = if nat_lt 0 v.queue then Some v.queue else set_time v.connect
