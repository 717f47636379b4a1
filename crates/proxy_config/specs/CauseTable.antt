-- The positions of the causes that depend on the lines before.
use Rattle.std.specs.Prelude.{◌≡◌, ◌⊎◌, ◌↔◌, ℕ, ◌+◌, nat_le, Bool, true, false, is_some, List, [], ◌∷◌, length, Some, Err}
use Rattle.std.specs.List.{list_any}
use Rattle.proxy_words.specs.Text.{words, uncommented}
use Rattle.proxy_config.specs.declared.faults.FaultCause.TheVariants as causes
use Rattle.proxy_config.specs.declared.parts.Server.{Server}
use Rattle.proxy_config.specs.declared.draft.Draft.{Draft}
use Rattle.proxy_config.specs.declared.draft.Section.{Section}
use Rattle.proxy_config.specs.declared.draft.Section.TheVariants as sections
use Rattle.proxy_config.specs.declared.keywords.Keyword.{Keyword}
use Rattle.proxy_config.specs.declared.keywords.Keyword.TheVariants as keywords
use Rattle.proxy_config.specs.Keywords.{keyword_of}
use Rattle.proxy_config.specs.Draft.{in_listen, is_ignored, is_quoting, most_servers, most_acl_lines, most_rules}
use Rattle.proxy_config.specs.Resolved.{Resolved, resolved_line}

-- the words of a line; and whether `global` ignores the line
abbrev pub words_of : List ℕ → List (List ℕ)
words_of line = words (uncommented line)

-- a quote or a backslash before the comment, in a line that is not ignored
abbrev pub IsQuoted : Draft → List ℕ → Type 0
IsQuoted d line = (is_ignored d.section (words_of line) ≡ false) × (list_any is_quoting (uncommented line) ≡ true)

abbrev pub in_values : Section → Bool
in_values sections.Defaults = true
in_values sections.Listen = true
in_values other = false

-- a section that takes the keyword's lines
abbrev pub takes : Section → Keyword → Bool
takes section keywords.Global = true
takes section keywords.Defaults = true
takes section keywords.Listen = true
takes section keywords.Refused = true
takes section (keywords.Shared shared) = in_values section
takes section other = in_listen section

-- a known keyword in a section that doesn't take it
abbrev pub IsMisplaced : Draft → List (List ℕ) → Type 0
IsMisplaced d [] = ⊥
IsMisplaced d (word ∷ words) = (keyword : Keyword) × (keyword_of word ≡ Some keyword) × (takes d.section keyword ≡ false)

-- a section that the profile leaves out, or a second `listen`
abbrev pub BeginsRefused : Draft → List (List ℕ) → Type 0
BeginsRefused d [] = ⊥
BeginsRefused d (word ∷ words) = (keyword_of word ≡ Some keywords.Refused) ⊎ ((keyword_of word ≡ Some keywords.Listen) × (is_some d.listen ≡ true))

-- there are as many servers, lines of ACLs or rules as allowed, and the keyword's line is one more
abbrev pub is_full : Resolved → Keyword → Bool
is_full r keywords.Server = nat_le most_servers (length r.draft.servers)
is_full r keywords.Acl = nat_le most_acl_lines r.draft.acl_lines
is_full r keywords.HttpRequest = nat_le most_rules (length r.draft.rules + length r.pins)
is_full r keywords.UseServer = nat_le most_rules (length r.draft.rules + length r.pins)
is_full r other = false

-- one server, line of an ACL or rule too many, in a section that takes it
abbrev pub IsOneTooMany : Resolved → List (List ℕ) → Type 0
IsOneTooMany r [] = ⊥
IsOneTooMany r (word ∷ words) = (keyword : Keyword) × (keyword_of word ≡ Some keyword) × (takes r.draft.section keyword ≡ true) × (is_full r keyword ≡ true)

-- The line is read word by word: it isn't ignored, it has no quote, and the file doesn't become too long in it.
pub record IsRead (d : Draft) (too_long : Bool) (line : List ℕ) : Type 0 where
  pub heeded : is_ignored d.section (words_of line) ≡ false
  pub unquoted : list_any is_quoting (uncommented line) ≡ false
  pub short : too_long ≡ false

-- Each of these causes stands in these positions, and nowhere else.
pub record EachInItsRow (servers : List Server) (too_long : Bool) (r : Resolved) (n : ℕ) (line : List ℕ) : Type 0 where
  pub quoting : (resolved_line servers too_long r n line ≡ Err causes.Quoting) ↔ IsQuoted r.draft line
  pub place : (resolved_line servers too_long r n line ≡ Err causes.Place) ↔ (IsRead r.draft too_long line × IsMisplaced r.draft (words_of line))
  pub section : (resolved_line servers too_long r n line ≡ Err causes.Section) ↔ (IsRead r.draft too_long line × BeginsRefused r.draft (words_of line))
  -- the line in which the file becomes too long, unless a quote comes first there (in a line that
  -- `global` ignores none does), or the one with one item too many
  pub limit : (resolved_line servers too_long r n line ≡ Err causes.Limit)
      ↔ (((too_long ≡ true) × (¬ IsQuoted r.draft line)) ⊎ (IsRead r.draft too_long line × IsOneTooMany r (words_of line)))
  pub missing : ¬ (resolved_line servers too_long r n line ≡ Err causes.Missing)
