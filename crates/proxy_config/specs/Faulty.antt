-- The positions of each cause that the words of a line decide: the words that have it, whatever words follow them.
use Rattle.std.specs.Prelude.{◌≡◌, ℕ, ◌+◌, ◌<◌, ◌==◌, ◌||◌, Bool, nat_le, true, false, is_some, List, [], ◌∷◌, ◌++◌, length, Option, Some, None, codes}
use Rattle.std.specs.Str.{bytes_eq}
use Rattle.proxy_words.specs.Names.{is_name}
use Rattle.proxy_words.specs.Numerals.{numeral}
use Rattle.proxy_words.specs.Times.{time}
use Rattle.proxy_config.specs.declared.draft.Draft.{Draft}
use Rattle.proxy_config.specs.declared.faults.FaultCause.{FaultCause}
use Rattle.proxy_config.specs.declared.faults.FaultCause.TheVariants as causes
use Rattle.proxy_config.specs.declared.keywords.Keyword.TheVariants as keywords
use Rattle.proxy_config.specs.declared.parts.Server.{Server}
use Rattle.proxy_config.specs.declared.parts.Acl.{Acl}
use Rattle.proxy_config.specs.declared.parts.Expression.{Expression}
use Rattle.proxy_config.specs.declared.parts.Term.{Term}
use Rattle.proxy_config.specs.declared.parts.Address.{Address}
use Rattle.proxy_config.specs.declared.parts.Action.{Action}
use Rattle.proxy_config.specs.declared.settings.Setting.{Setting}
use Rattle.proxy_config.specs.declared.settings.Setting.TheVariants.{Weight, Maxconn, Maxqueue, Inter, Rise, Fall}
use Rattle.proxy_config.specs.declared.values.Shared.TheVariants as shared
use Rattle.proxy_config.specs.declared.values.Timeout.{Timeout}
use Rattle.proxy_config.specs.Addresses.{bind_of, address_of}
use Rattle.proxy_config.specs.ConditionGrammar.{AreSeparated}
use Rattle.proxy_config.specs.Conditions.{acl_index, is_or}
use Rattle.proxy_config.specs.Draft.{in_listen, most_servers, most_acl_lines, most_rules}
use Rattle.proxy_config.specs.Resolved.{Resolved}
use Rattle.proxy_config.specs.Keywords.{keyword_of}
use Rattle.proxy_config.specs.Names.{is_acl_name}
use Rattle.proxy_config.specs.Pieces.{number_in, number_from, time_from}
use Rattle.proxy_config.specs.CauseTable.{in_values}
use Rattle.proxy_config.specs.Rules.{action_of, server_index}
use Rattle.proxy_config.specs.Samples.{expression_of}
use Rattle.proxy_config.specs.Settings.{is_check, setting_of}
use Rattle.proxy_config.specs.Values.{switch_of, timeout_of}

-- a line of rules may stand here: the section is the `listen`, and there is room for one more
pub record TakesRule (r : Resolved) : Type 0 where
  pub place : in_listen r.draft.section ≡ true
  pub room : nat_le most_rules (length r.draft.rules + length r.pins) ≡ false

-- a server with this name may stand here: the section is the `listen`, there is room for it, and no
-- other server has its name
pub record TakesServer (d : Draft) (name : List ℕ) : Type 0 where
  pub place : in_listen d.section ≡ true
  pub room : nat_le most_servers (length d.servers) ≡ false
  pub named : is_name name ≡ true
  pub fresh : is_some (server_index name d.servers) ≡ false

-- the number or the time that a word means for a setting
abbrev pub value_in : Setting → List ℕ → Option ℕ
value_in Weight word = number_in 0 256 word
value_in Maxconn word = numeral 9 word
value_in Maxqueue word = numeral 9 word
value_in Inter word = time_from 1 word
value_in Rise word = number_from 1 word
value_in Fall word = number_from 1 word

-- the word begins with `!`
abbrev pub has_sign : List ℕ → Bool
has_sign [] = false
has_sign (byte ∷ word) = byte == 33

abbrev pub is_guard : List ℕ → Bool
is_guard word = bytes_eq word (codes "if") || bytes_eq word (codes "unless")

-- no row is empty, but for the last one
abbrev pub LastMayBeEmpty : List (List Term) → Type 0
LastMayBeEmpty [] = Unit {0}
LastMayBeEmpty (terms ∷ []) = Unit {0}
LastMayBeEmpty (terms ∷ next ∷ more) = (0 < length terms) × LastMayBeEmpty (next ∷ more)

-- words after which a term of a condition may stand: rows of terms with separators between them
pub record IsFront (acls : List Acl) (words : List (List ℕ)) : Type 0 where
  pub rows : List (List Term)
  pub spelled : AreSeparated acls words rows
  pub begun : LastMayBeEmpty rows

-- A word can't stand where a term may: it is the name of an ACL without an earlier line, or it is
-- no name, no brace, no separator, and has no `!`.
pub data NoTerm (acls : List Acl) (word : List ℕ) : FaultCause → Type 0 where
  undeclared : is_acl_name word ≡ true → acl_index word acls ≡ None → NoTerm acls word causes.Unknown
  no_name : is_acl_name word ≡ false → has_sign word ≡ false → bytes_eq word (codes "{") ≡ false → is_or word ≡ false → NoTerm acls word causes.Condition

pub data HasFault (servers : List Server) (r : Resolved) : List (List ℕ) → FaultCause → Type 0 where
  -- `keyword`: an unknown first word; another mode or balance; an unknown option, timeout, action or setting
  no_keyword : (word : List ℕ) (more : List (List ℕ)) → keyword_of word ≡ None → HasFault servers r (word ∷ more) causes.Keyword
  another_mode : (word mode : List ℕ) (more : List (List ℕ)) → keyword_of word ≡ Some (keywords.Shared shared.Mode) → in_values r.draft.section ≡ true
      → bytes_eq mode (codes "http") ≡ false
      → HasFault servers r (word ∷ mode ∷ more) causes.Keyword
  another_balance : (word balance : List ℕ) (more : List (List ℕ)) → keyword_of word ≡ Some (keywords.Shared shared.Balance) → in_values r.draft.section ≡ true
      → bytes_eq balance (codes "leastconn") ≡ false
      → HasFault servers r (word ∷ balance ∷ more) causes.Keyword
  no_option : (word option : List ℕ) (more : List (List ℕ)) → keyword_of word ≡ Some (keywords.Shared shared.Option) → in_values r.draft.section ≡ true
      → switch_of option ≡ None
      → HasFault servers r (word ∷ option ∷ more) causes.Keyword
  no_timeout : (word timeout : List ℕ) (more : List (List ℕ)) → keyword_of word ≡ Some (keywords.Shared shared.Timeout) → in_values r.draft.section ≡ true
      → timeout_of timeout ≡ None
      → HasFault servers r (word ∷ timeout ∷ more) causes.Keyword
  no_action : (word action : List ℕ) (more : List (List ℕ)) → keyword_of word ≡ Some keywords.HttpRequest → TakesRule r → action_of action ≡ None
      → HasFault servers r (word ∷ action ∷ more) causes.Keyword
  no_setting : (word name at : List ℕ) (address : Address) (setting value : List ℕ) (more : List (List ℕ)) → keyword_of word ≡ Some keywords.Server
      → TakesServer r.draft name → address_of at ≡ Some address
      → is_check setting ≡ false → setting_of setting ≡ None → HasFault servers r (word ∷ name ∷ at ∷ setting ∷ value ∷ more) causes.Keyword
  -- `words`: one word too few at the end, or one too many
  no_number : (word : List ℕ) → keyword_of word ≡ Some (keywords.Shared shared.Retries) → in_values r.draft.section ≡ true
      → HasFault servers r (word ∷ []) causes.Words
  no_time : (word timeout : List ℕ) (which : Timeout) → keyword_of word ≡ Some (keywords.Shared shared.Timeout) → in_values r.draft.section ≡ true
      → timeout_of timeout ≡ Some which
      → HasFault servers r (word ∷ timeout ∷ []) causes.Words
  no_address : (word name : List ℕ) → keyword_of word ≡ Some keywords.Server → TakesServer r.draft name → HasFault servers r (word ∷ name ∷ []) causes.Words
  behind_global : (word surplus : List ℕ) (more : List (List ℕ)) → keyword_of word ≡ Some keywords.Global
      → HasFault servers r (word ∷ surplus ∷ more) causes.Words
  behind_a_number : (word digits surplus : List ℕ) (number : ℕ) (more : List (List ℕ)) → keyword_of word ≡ Some (keywords.Shared shared.Retries)
      → in_values r.draft.section ≡ true → numeral 9 digits ≡ Some number
      → HasFault servers r (word ∷ digits ∷ surplus ∷ more) causes.Words
  -- `number`: a word that isn't a number or a time, or one out of range
  no_retries : (word digits : List ℕ) (more : List (List ℕ)) → keyword_of word ≡ Some (keywords.Shared shared.Retries) → in_values r.draft.section ≡ true
      → numeral 9 digits ≡ None
      → HasFault servers r (word ∷ digits ∷ more) causes.Number
  no_milliseconds : (word timeout digits : List ℕ) (which : Timeout) (more : List (List ℕ)) → keyword_of word ≡ Some (keywords.Shared shared.Timeout)
      → in_values r.draft.section ≡ true → timeout_of timeout ≡ Some which → time digits ≡ None
      → HasFault servers r (word ∷ timeout ∷ digits ∷ more) causes.Number
  no_value : (word name at : List ℕ) (address : Address) (setting value : List ℕ) (which : Setting) (more : List (List ℕ))
      → keyword_of word ≡ Some keywords.Server → TakesServer r.draft name → address_of at ≡ Some address
      → is_check setting ≡ false → setting_of setting ≡ Some which → value_in which value ≡ None
      → HasFault servers r (word ∷ name ∷ at ∷ setting ∷ value ∷ more) causes.Number
  -- `address`: a word that isn't an address
  no_bind_address : (word at : List ℕ) (more : List (List ℕ)) → keyword_of word ≡ Some keywords.Bind → in_listen r.draft.section ≡ true
      → is_some r.draft.bind ≡ false
      → bind_of at ≡ None
      → HasFault servers r (word ∷ at ∷ more) causes.Address
  no_server_address : (word name at : List ℕ) (more : List (List ℕ)) → keyword_of word ≡ Some keywords.Server → TakesServer r.draft name → address_of at ≡ None
      → HasFault servers r (word ∷ name ∷ at ∷ more) causes.Address
  -- `name`: a word that isn't a name
  no_defaults_name : (word name : List ℕ) (more : List (List ℕ)) → keyword_of word ≡ Some keywords.Defaults → is_name name ≡ false
      → HasFault servers r (word ∷ name ∷ more) causes.Name
  no_listen_name : (word name : List ℕ) (more : List (List ℕ)) → keyword_of word ≡ Some keywords.Listen → is_some r.draft.listen ≡ false → is_name name ≡ false
      → HasFault servers r (word ∷ name ∷ more) causes.Name
  no_server_name : (word name : List ℕ) (more : List (List ℕ)) → keyword_of word ≡ Some keywords.Server → in_listen r.draft.section ≡ true
      → nat_le most_servers (length r.draft.servers) ≡ false → is_name name ≡ false
      → HasFault servers r (word ∷ name ∷ more) causes.Name
  no_acl_name : (word name : List ℕ) (more : List (List ℕ)) → keyword_of word ≡ Some keywords.Acl → in_listen r.draft.section ≡ true
      → nat_le most_acl_lines r.draft.acl_lines ≡ false → is_acl_name name ≡ false
      → HasFault servers r (word ∷ name ∷ more) causes.Name
  no_pin_name : (word name : List ℕ) (more : List (List ℕ)) → keyword_of word ≡ Some keywords.UseServer → TakesRule r → is_name name ≡ false
      → HasFault servers r (word ∷ name ∷ more) causes.Name
  -- `twice`: a second `bind`, or a server's name again
  bind_again : (word : List ℕ) (more : List (List ℕ)) → keyword_of word ≡ Some keywords.Bind → in_listen r.draft.section ≡ true → is_some r.draft.bind ≡ true
      → HasFault servers r (word ∷ more) causes.Twice
  server_again : (word name : List ℕ) (more : List (List ℕ)) → keyword_of word ≡ Some keywords.Server → in_listen r.draft.section ≡ true
      → nat_le most_servers (length r.draft.servers) ≡ false → is_name name ≡ true
      → is_some (server_index name r.draft.servers) ≡ true → HasFault servers r (word ∷ name ∷ more) causes.Twice
  -- `unknown`: a server that isn't one of the file's
  no_server : (word name : List ℕ) (more : List (List ℕ)) → keyword_of word ≡ Some keywords.UseServer → TakesRule r → is_name name ≡ true
      → server_index name servers ≡ None
      → HasFault servers r (word ∷ name ∷ more) causes.Unknown
  -- `condition`: a word that isn't an expression; another word than `if` or `unless`
  no_expression : (word action value : List ℕ) (which : Action) (more : List (List ℕ)) → keyword_of word ≡ Some keywords.HttpRequest → TakesRule r
      → action_of action ≡ Some which → expression_of value ≡ None
      → HasFault servers r (word ∷ action ∷ value ∷ more) causes.Condition
  no_guard : (word name other : List ℕ) (index : ℕ) (more : List (List ℕ)) → keyword_of word ≡ Some keywords.UseServer → TakesRule r → is_name name ≡ true
      → server_index name servers ≡ Some index
      → bytes_eq other (codes "if") ≡ false → bytes_eq other (codes "unless") ≡ false → HasFault servers r (word ∷ name ∷ other ∷ more) causes.Condition
  -- `unknown` and `condition`: in a condition, after any terms, an ACL without an earlier line, or
  -- a word that can't begin a term
  no_term_of_rule : (word action value guard : List ℕ) (which : Action) (expression : Expression) (front : List (List ℕ)) (term : List ℕ)
      (more : List (List ℕ)) (cause : FaultCause) → keyword_of word ≡ Some keywords.HttpRequest → TakesRule r → action_of action ≡ Some which
      → expression_of value ≡ Some expression → is_guard guard ≡ true → IsFront r.draft.acls front → NoTerm r.draft.acls term cause
      → HasFault servers r (word ∷ action ∷ value ∷ guard ∷ (front ++ term ∷ more)) cause
  no_term_of_pin : (word name guard : List ℕ) (index : ℕ) (front : List (List ℕ)) (term : List ℕ) (more : List (List ℕ)) (cause : FaultCause)
      → keyword_of word ≡ Some keywords.UseServer → TakesRule r → is_name name ≡ true → server_index name servers ≡ Some index → is_guard guard ≡ true
      → IsFront r.draft.acls front → NoTerm r.draft.acls term cause
      → HasFault servers r (word ∷ name ∷ guard ∷ (front ++ term ∷ more)) cause
  -- `limit`: one server, ACL line or rule too many
  servers_full : (word : List ℕ) (more : List (List ℕ)) → keyword_of word ≡ Some keywords.Server → in_listen r.draft.section ≡ true
      → nat_le most_servers (length r.draft.servers) ≡ true → HasFault servers r (word ∷ more) causes.Limit
  acl_lines_full : (word : List ℕ) (more : List (List ℕ)) → keyword_of word ≡ Some keywords.Acl → in_listen r.draft.section ≡ true
      → nat_le most_acl_lines r.draft.acl_lines ≡ true → HasFault servers r (word ∷ more) causes.Limit
  rules_full : (word : List ℕ) (more : List (List ℕ)) → keyword_of word ≡ Some keywords.HttpRequest → in_listen r.draft.section ≡ true
      → nat_le most_rules (length r.draft.rules + length r.pins) ≡ true → HasFault servers r (word ∷ more) causes.Limit
  pins_full : (word : List ℕ) (more : List (List ℕ)) → keyword_of word ≡ Some keywords.UseServer → in_listen r.draft.section ≡ true
      → nat_le most_rules (length r.draft.rules + length r.pins) ≡ true → HasFault servers r (word ∷ more) causes.Limit
