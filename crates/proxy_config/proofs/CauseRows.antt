-- Where the causes that the lines before a line decide can stand.
use Rattle.std.proofs.Common.{◌≡◌, ◌∙◌, ◌⊎◌, inl, inr, ◌||◌, ◌+◌, nat_le, ℕ, Bool, true, false, not, List}
use Rattle.std.proofs.Common.{[], ◌∷◌, length, Option, Some, None, Result, Err, refl, sym, ap, subst}
use Rattle.std.specs.Option.{is_some}
use Rattle.std.specs.List.{list_any}
use Rattle.std.proofs.lemmas.Bool.{or_left}
use Rattle.proxy_words.specs.Text.{uncommented}
use Rattle.proxy_config.specs.declared.faults.FaultCause.{FaultCause}
use Rattle.proxy_config.specs.declared.faults.FaultCause.TheVariants as causes
use Rattle.proxy_config.specs.declared.draft.Draft.{Draft}
use Rattle.proxy_config.specs.declared.draft.Section.{Section}
use Rattle.proxy_config.specs.declared.draft.Section.TheVariants as sections
use Rattle.proxy_config.specs.declared.keywords.Keyword.{Keyword}
use Rattle.proxy_config.specs.declared.keywords.Keyword.TheVariants as keywords
use Rattle.proxy_config.specs.declared.parts.Server.{Server}
use Rattle.proxy_config.specs.declared.values.Shared.{Shared}
use Rattle.proxy_words.specs.Names.{is_name}
use Rattle.proxy_config.specs.Addresses.{address_of}
use Rattle.proxy_config.specs.Rules.{server_index}
use Rattle.proxy_config.specs.Keywords.{keyword_of}
use Rattle.proxy_config.specs.Settings as server
use Rattle.proxy_config.specs.Draft as draft
use Rattle.proxy_config.specs.Faulty.HasFault.{servers_full, acl_lines_full, rules_full, pins_full}
use Rattle.proxy_config.specs.Outcomes.{unless}
use Rattle.proxy_config.specs.Resolved.{Resolved, resolved_words, resolved_line}
use Rattle.proxy_config.proofs.Faulty.{has_fault}
use Rattle.proxy_config.proofs.Resolving.{pinned_line, placed, line_of, line_by, words_resolved, stepped, line_stepped}
use Rattle.proxy_config.specs.CauseTable.{words_of, in_values, takes, is_full, IsMisplaced, IsOneTooMany, BeginsRefused, IsRead, EachInItsRow}
use Rattle.proxy_config.proofs.Causes.{is_of_words, Within, within_ok, within_err, within_bind, within_or, within_unless}
use Rattle.proxy_config.proofs.Causes.{within_word, within_end, within_shared, within_settings, within_acl, within_rule, within_pin}

-- what the lines before a line decide: one too many only where it is full
abbrev is_count : Bool → FaultCause → Bool
is_count full causes.Limit = full
is_count full causes.Twice = true
is_count full other = false

abbrev is_place : FaultCause → Bool
is_place causes.Place = true
is_place other = false

abbrev is_section : FaultCause → Bool
is_section causes.Section = true
is_section other = false

-- what can stand once the section takes the line
abbrev is_placed : Bool → FaultCause → Bool
is_placed full cause = is_of_words cause || is_count full cause

-- what can stand in a line that begins no section
abbrev is_of_keywords : FaultCause → Bool
is_of_keywords cause = is_placed true cause || is_place cause

-- what can stand in a line that is read by its words
abbrev is_of_lines : FaultCause → Bool
is_of_lines cause = is_of_keywords cause || is_section cause

pub weaker : {A : Type 0} {may : FaultCause → Bool} {r : Result A FaultCause} (also : FaultCause → Bool) → Within may r
    → Within (λ cause. may cause || also cause) r
weaker {A} {may} also within = record { fault = λ cause is. or_left (may cause) (also cause) (within.fault cause is) }

-- where a cause can't stand, it doesn't
pub never : {A : Type 0} {may : FaultCause → Bool} {r : Result A FaultCause} (cause : FaultCause) → Within may r → may cause ≡ false → r ≡ Err cause → ⊥
never cause within holds is = let both : true ≡ false = sym (within.fault cause is) ∙ holds in absurd (let none = both in cc)

within_full : (full : Bool) → Within (is_placed full) (unless full causes.Limit)
within_full true = within_err causes.Limit refl
within_full false = within_ok tt

or_full : {A : Type 0} {r : Result A FaultCause} (full : Bool) → Within (is_placed full) r → Within (is_placed true) r
or_full full within = record { fault = λ cause is. wider cause (within.fault cause is) }
  where
    wider : (cause : FaultCause) → is_placed full cause ≡ true → is_placed true cause ≡ true
    wider causes.Limit holds = refl
    wider other holds = holds

-- lines of words alone
global_line : (d : Draft) (words : List (List ℕ)) → Within is_of_words (draft.global_line d words)
unfolding draft.global_line
global_line d words = within_bind _ _ (within_end words) (λ e. within_ok _)

optional_name : (words : List (List ℕ)) → Within is_of_words (draft.optional_name words)
unfolding draft.optional_name
optional_name [] = within_ok tt
optional_name (name ∷ words) = within_bind _ _ (within_unless _ causes.Name refl) (λ named. within_end words)

defaults_line : (d : Draft) (words : List (List ℕ)) → Within is_of_words (draft.defaults_line d words)
unfolding draft.defaults_line
defaults_line d words = within_bind _ _ (optional_name words) (λ name. within_ok _)

-- a `listen`, where none stood before
first_listen : (d : Draft) (n : ℕ) (words : List (List ℕ)) → is_some d.listen ≡ false → Within is_of_words (draft.listen_line d n words)
unfolding draft.listen_line
first_listen d n words first = rw first (within_bind _ _ (within_word words)
    (λ name. within_bind _ _ (within_unless _ causes.Name refl) (λ named. within_bind _ _ (within_end name.1) (λ e. within_ok _))))

second_listen : (d : Draft) (n : ℕ) (words : List (List ℕ)) → is_some d.listen ≡ true → draft.listen_line d n words ≡ Err causes.Section
unfolding draft.listen_line
second_listen d n words second = rw second refl

-- the lines that `listen` takes, within it
bind_in : (d : Draft) (words : List (List ℕ)) → draft.in_listen d.section ≡ true → Within (is_placed false) (draft.bind_line d words)
unfolding draft.bind_line
bind_in d words inside = rw inside (within_bind _ _ (within_unless _ causes.Twice refl) (λ again.
    weaker (is_count _) (within_bind _ _ (within_word words)
    (λ word. within_bind _ _ (within_or _ causes.Address refl) (λ b. within_bind _ _ (within_end word.1) (λ e. within_ok _))))))

server_in : (d : Draft) (words : List (List ℕ)) → draft.in_listen d.section ≡ true
    → Within (is_placed (nat_le draft.most_servers (length d.servers))) (draft.server_line d words)
unfolding draft.server_line
server_in d words inside = rw inside (within_bind _ _ (within_full _)
    (λ limit. within_bind _ _ (weaker (is_count _) (within_word words)) (λ name.
    within_bind _ _ (within_unless (not (is_name name.0)) causes.Name refl)
    (λ named. within_bind _ _ (within_unless (is_some (server_index name.0 d.servers)) causes.Twice refl) (λ again.
    weaker (is_count _) (within_bind _ _ (within_word name.1) (λ second. within_bind _ _ (within_or (address_of second.0) causes.Address refl) (λ address.
    within_bind _ _ (within_settings server.built_in second.1) (λ s. within_ok _)))))))))

test_in : (d : Draft) (words : List (List ℕ)) → draft.in_listen d.section ≡ true
    → Within (is_placed (nat_le draft.most_acl_lines d.acl_lines)) (draft.test_line d words)
unfolding draft.test_line
test_in d words inside = rw inside (within_bind _ _ (within_full _)
    (λ limit. within_bind _ _ (weaker (is_count _) (within_acl d.acls words)) (λ acls. within_ok _)))

request_in : (pins : ℕ) (d : Draft) (words : List (List ℕ)) → draft.in_listen d.section ≡ true
    → Within (is_placed (nat_le draft.most_rules (length d.rules + pins))) (draft.request_line pins d words)
unfolding draft.request_line
request_in pins d words inside = rw inside (within_bind _ _ (within_full _)
    (λ limit. within_bind _ _ (weaker (is_count _) (within_rule d.acls words)) (λ rule. within_ok _)))

use_in : (servers : List Server) (r : Resolved) (words : List (List ℕ)) → draft.in_listen r.draft.section ≡ true
    → Within (is_placed (nat_le draft.most_rules (length r.draft.rules + length r.pins))) (pinned_line servers r words)
unfolding pinned_line
use_in servers r words inside = rw inside (within_bind _ _ (within_full _)
    (λ limit. within_bind _ _ (weaker (is_count _) (within_pin servers r.draft.acls words)) (λ pin. within_ok _)))

-- and outside it
bind_out : (d : Draft) (words : List (List ℕ)) → draft.in_listen d.section ≡ false → draft.bind_line d words ≡ Err causes.Place
unfolding draft.bind_line
bind_out d words outside = rw outside refl

server_out : (d : Draft) (words : List (List ℕ)) → draft.in_listen d.section ≡ false → draft.server_line d words ≡ Err causes.Place
unfolding draft.server_line
server_out d words outside = rw outside refl

test_out : (d : Draft) (words : List (List ℕ)) → draft.in_listen d.section ≡ false → draft.test_line d words ≡ Err causes.Place
unfolding draft.test_line
test_out d words outside = rw outside refl

request_out : (pins : ℕ) (d : Draft) (words : List (List ℕ)) → draft.in_listen d.section ≡ false → draft.request_line pins d words ≡ Err causes.Place
unfolding draft.request_line
request_out pins d words outside = rw outside refl

use_out : (servers : List Server) (r : Resolved) (words : List (List ℕ)) → draft.in_listen r.draft.section ≡ false
    → pinned_line servers r words ≡ Err causes.Place
unfolding pinned_line
use_out servers r words outside = rw outside refl

value_out : (d : Draft) (kind : Shared) (words : List (List ℕ)) (section : Section) → d.section ≡ section → in_values section ≡ false
    → draft.value_line d kind words ≡ Err causes.Place
unfolding draft.value_line
value_out d kind words sections.Outside is outside = rw is refl
value_out d kind words sections.Global is outside = rw is refl
value_out d kind words sections.Defaults is outside = cc
value_out d kind words sections.Listen is outside = cc

value_in : (d : Draft) (kind : Shared) (words : List (List ℕ)) (section : Section) → d.section ≡ section → in_values section ≡ true
    → Within is_of_words (draft.value_line d kind words)
unfolding draft.value_line
value_in d kind words sections.Outside is inside = absurd (let none = inside in cc)
value_in d kind words sections.Global is inside = absurd (let none = inside in cc)
value_in d kind words sections.Defaults is inside = rw is (within_bind _ _ (within_shared kind d.defaults words) (λ v. within_ok _))
value_in d kind words sections.Listen is inside = rw is (within_bind _ _ (within_shared kind d.values words) (λ v. within_ok _))

-- a draft behind pins has the faults that it has
within_placed : {may : FaultCause → Bool} (r : Resolved) (read : Result Draft FaultCause) → Within may read → Within may (placed r.pins read)
within_placed r read within = within_bind _ _ within (λ d. within_ok _)

out_placed : {cause : FaultCause} (r : Resolved) (read : Result Draft FaultCause) → read ≡ Err cause → placed r.pins read ≡ Err cause
out_placed r read is = ap (placed r.pins) is

-- a line whose section doesn't take it
pub line_out : (servers : List Server) (r : Resolved) (n : ℕ) (keyword : Keyword) (words : List (List ℕ)) → takes r.draft.section keyword ≡ false
    → line_of servers r n keyword words ≡ Err causes.Place
line_out servers r n keywords.Global words outside = absurd (let none = outside in cc)
line_out servers r n keywords.Defaults words outside = absurd (let none = outside in cc)
line_out servers r n keywords.Listen words outside = absurd (let none = outside in cc)
line_out servers r n keywords.Refused words outside = absurd (let none = outside in cc)
line_out servers r n (keywords.Shared kind) words outside = out_placed r _ (value_out r.draft kind words r.draft.section refl outside)
line_out servers r n keywords.Bind words outside = out_placed r _ (bind_out r.draft words outside)
line_out servers r n keywords.Server words outside = out_placed r _ (server_out r.draft words outside)
line_out servers r n keywords.Acl words outside = out_placed r _ (test_out r.draft words outside)
line_out servers r n keywords.HttpRequest words outside = out_placed r _ (request_out (length r.pins) r.draft words outside)
line_out servers r n keywords.UseServer words outside = use_out servers r words outside

-- a keyword that begins a section
abbrev begins : Keyword → Bool
begins keywords.Global = true
begins keywords.Defaults = true
begins keywords.Listen = true
begins keywords.Refused = true
begins other = false

-- a line that its section takes and that begins none
line_in : (servers : List Server) (r : Resolved) (n : ℕ) (keyword : Keyword) (words : List (List ℕ)) → begins keyword ≡ false
    → takes r.draft.section keyword ≡ true
    → Within (is_placed (is_full r keyword)) (line_of servers r n keyword words)
line_in servers r n keywords.Global words other inside = absurd (let none = other in cc)
line_in servers r n keywords.Defaults words other inside = absurd (let none = other in cc)
line_in servers r n keywords.Listen words other inside = absurd (let none = other in cc)
line_in servers r n keywords.Refused words other inside = absurd (let none = other in cc)
line_in servers r n (keywords.Shared kind) words other inside =
    within_placed r _ (weaker (is_count _) (value_in r.draft kind words r.draft.section refl inside))
line_in servers r n keywords.Bind words other inside = within_placed r _ (bind_in r.draft words inside)
line_in servers r n keywords.Server words other inside = within_placed r _ (server_in r.draft words inside)
line_in servers r n keywords.Acl words other inside = within_placed r _ (test_in r.draft words inside)
line_in servers r n keywords.HttpRequest words other inside = within_placed r _ (request_in (length r.pins) r.draft words inside)
line_in servers r n keywords.UseServer words other inside = use_in servers r words inside

-- a line that begins a section, taken or refused
listen_row : (d : Draft) (n : ℕ) (words : List (List ℕ)) (b : Bool) → is_some d.listen ≡ b
    → Within (λ cause. is_of_words cause || is_section cause) (draft.listen_line d n words)
listen_row d n words true second = subst (λ (r : Result Draft FaultCause). Within (λ cause. is_of_words cause || is_section cause) r)
    (sym (second_listen d n words second)) (within_err causes.Section refl)
listen_row d n words false first = weaker is_section (first_listen d n words first)

section_row : (servers : List Server) (r : Resolved) (n : ℕ) (keyword : Keyword) (words : List (List ℕ)) → begins keyword ≡ true
    → Within (λ cause. is_of_words cause || is_section cause) (line_of servers r n keyword words)
section_row servers r n keywords.Global words one = within_placed r _ (weaker is_section (global_line r.draft words))
section_row servers r n keywords.Defaults words one = within_placed r _ (weaker is_section (defaults_line r.draft words))
section_row servers r n keywords.Listen words one = within_placed r _ (listen_row r.draft n words (is_some r.draft.listen) refl)
section_row servers r n keywords.Refused words one = within_err causes.Section refl
section_row servers r n other words one = absurd (let none = one in cc)

-- a fault in the place of a line is that of a keyword that its section doesn't take
place_only : (servers : List Server) (r : Resolved) (n : ℕ) (keyword : Keyword) (words : List (List ℕ)) (b t : Bool) → begins keyword ≡ b
    → takes r.draft.section keyword ≡ t
    → line_of servers r n keyword words ≡ Err causes.Place → takes r.draft.section keyword ≡ false
place_only servers r n keyword words true t one taken is = absurd (never causes.Place (section_row servers r n keyword words one) refl is)
place_only servers r n keyword words false true other taken is = absurd (never causes.Place (line_in servers r n keyword words other taken) refl is)
place_only servers r n keyword words false false other taken is = taken

-- a fault of a limit is that of one thing too many
limit_only : (servers : List Server) (r : Resolved) (n : ℕ) (keyword : Keyword) (words : List (List ℕ)) (b t : Bool) → begins keyword ≡ b
    → takes r.draft.section keyword ≡ t
    → line_of servers r n keyword words ≡ Err causes.Limit → (takes r.draft.section keyword ≡ true) × (is_full r keyword ≡ true)
limit_only servers r n keyword words true t one taken is = absurd (never causes.Limit (section_row servers r n keyword words one) refl is)
limit_only servers r n keyword words false true other taken is = (taken, (line_in servers r n keyword words other taken).fault causes.Limit is)
limit_only servers r n keyword words false false other taken is =
    let both : (let one : Result Resolved FaultCause = Err causes.Limit in one ≡ Err causes.Place) = sym is ∙ line_out servers r n keyword words taken in
    absurd (let none = both in cc)

all_lines : {r : Result Resolved FaultCause} → Within (λ cause. is_of_words cause || is_section cause) r → Within is_of_lines r
all_lines within = record { fault = λ cause is. wider cause (within.fault cause is) }
  where
    wider : (cause : FaultCause) → (is_of_words cause || is_section cause) ≡ true → is_of_lines cause ≡ true
    wider causes.Quoting holds = holds
    wider causes.Missing holds = holds
    wider causes.Place holds = refl
    wider causes.Limit holds = refl
    wider causes.Twice holds = refl
    wider causes.Section holds = refl
    wider causes.Keyword holds = refl
    wider causes.Words holds = refl
    wider causes.Number holds = refl
    wider causes.Address holds = refl
    wider causes.Name holds = refl
    wider causes.Unknown holds = refl
    wider causes.Condition holds = refl

-- neither of the other two causes stands in a line of a keyword
line_causes : (servers : List Server) (r : Resolved) (n : ℕ) (keyword : Keyword) (words : List (List ℕ)) (b t : Bool) → begins keyword ≡ b
    → takes r.draft.section keyword ≡ t
    → Within is_of_lines (line_of servers r n keyword words)
line_causes servers r n keyword words true t one taken = all_lines (section_row servers r n keyword words one)
line_causes servers r n keyword words false true other taken =
    weaker is_section (weaker is_place (or_full _ (line_in servers r n keyword words other taken)))
line_causes servers r n keyword words false false other taken =
    subst (λ (r : Result Resolved FaultCause). Within is_of_lines r) (sym (line_out servers r n keyword words taken)) (within_err causes.Place refl)

not_of_section : (servers : List Server) (r : Resolved) (n : ℕ) (keyword : Keyword) (words : List (List ℕ)) (t : Bool) → begins keyword ≡ false
    → takes r.draft.section keyword ≡ t
    → line_of servers r n keyword words ≡ Err causes.Section → ⊥
not_of_section servers r n keyword words true other taken is = never causes.Section (line_in servers r n keyword words other taken) refl is
not_of_section servers r n keyword words false other taken is =
    let both : (let one : Result Resolved FaultCause = Err causes.Section in one ≡ Err causes.Place) = sym is ∙ line_out servers r n keyword words taken in
    absurd (let none = both in cc)

-- a fault of a section is that of one that is refused
section_only : (servers : List Server) (r : Resolved) (n : ℕ) (keyword : Keyword) (words : List (List ℕ))
    → line_of servers r n keyword words ≡ Err causes.Section
    → (keyword ≡ keywords.Refused) ⊎ ((keyword ≡ keywords.Listen) × (is_some r.draft.listen ≡ true))
section_only servers r n keywords.Global words is = absurd (never causes.Section (within_placed r _ (global_line r.draft words)) refl is)
section_only servers r n keywords.Defaults words is = absurd (never causes.Section (within_placed r _ (defaults_line r.draft words)) refl is)
section_only servers r n keywords.Listen words is = inr (refl, again (is_some r.draft.listen) refl)
  where
    again : (b : Bool) → is_some r.draft.listen ≡ b → is_some r.draft.listen ≡ true
    again true second = second
    again false first = absurd (never causes.Section (within_placed r _ (first_listen r.draft n words first)) refl is)
section_only servers r n keywords.Refused words is = inl refl
section_only servers r n (keywords.Shared kind) words is =
    absurd (not_of_section servers r n (keywords.Shared kind) words (takes r.draft.section (keywords.Shared kind)) refl refl is)
section_only servers r n keywords.Bind words is = absurd (not_of_section servers r n keywords.Bind words (takes r.draft.section keywords.Bind) refl refl is)
section_only servers r n keywords.Server words is =
    absurd (not_of_section servers r n keywords.Server words (takes r.draft.section keywords.Server) refl refl is)
section_only servers r n keywords.Acl words is = absurd (not_of_section servers r n keywords.Acl words (takes r.draft.section keywords.Acl) refl refl is)
section_only servers r n keywords.HttpRequest words is =
    absurd (not_of_section servers r n keywords.HttpRequest words (takes r.draft.section keywords.HttpRequest) refl refl is)
section_only servers r n keywords.UseServer words is =
    absurd (not_of_section servers r n keywords.UseServer words (takes r.draft.section keywords.UseServer) refl refl is)

-- the same of a line by its words
words_causes : (servers : List Server) (r : Resolved) (n : ℕ) (words : List (List ℕ)) → Within is_of_lines (line_by servers r n words)
words_causes servers r n [] = within_ok r
words_causes servers r n (word ∷ words) =
    within_bind _ _ (within_or (keyword_of word) causes.Keyword refl)
    (λ keyword. line_causes servers r n keyword words (begins keyword) (takes r.draft.section keyword) refl refl)

words_place : (servers : List Server) (r : Resolved) (n : ℕ) (words : List (List ℕ)) → line_by servers r n words ≡ Err causes.Place → IsMisplaced r.draft words
words_place servers r n [] is = absurd (let none = is in cc)
words_place servers r n (word ∷ words) is = of (keyword_of word) refl
  where
    of : (o : Option Keyword) → keyword_of word ≡ o → (keyword : Keyword) × (keyword_of word ≡ Some keyword) × (takes r.draft.section keyword ≡ false)
    of None known = absurd (let fault : (let one : Result Resolved FaultCause = Err causes.Keyword in one ≡ Err causes.Place) = (rw known at is) in
        let none = fault in
        cc)
    of (Some keyword) known = (keyword, known, place_only servers r n keyword words (begins keyword) (takes r.draft.section keyword) refl refl (rw known at is))

words_misplaced : (servers : List Server) (r : Resolved) (n : ℕ) (words : List (List ℕ)) → IsMisplaced r.draft words
    → line_by servers r n words ≡ Err causes.Place
words_misplaced servers r n [] is = absurd is
words_misplaced servers r n (word ∷ words) is = rw is.1 (line_out servers r n is.0 words is.2)

words_section : (servers : List Server) (r : Resolved) (n : ℕ) (words : List (List ℕ)) → line_by servers r n words ≡ Err causes.Section
    → BeginsRefused r.draft words
words_section servers r n [] is = absurd (let none = is in cc)
words_section servers r n (word ∷ words) is = of (keyword_of word) refl
  where
    of : (o : Option Keyword) → keyword_of word ≡ o
        → (keyword_of word ≡ Some keywords.Refused) ⊎ ((keyword_of word ≡ Some keywords.Listen) × (is_some r.draft.listen ≡ true))
    of None known = absurd (let fault : (let one : Result Resolved FaultCause = Err causes.Keyword in one ≡ Err causes.Section) = (rw known at is) in
        let none = fault in cc)
    of (Some keyword) known = elim (section_only servers r n keyword words (rw known at is)) [
      | inl refused ↦ inl (known ∙ ap Some refused)
      | inr again ↦ inr (known ∙ ap Some again.0, again.1)
    ]

words_refused : (servers : List Server) (r : Resolved) (n : ℕ) (words : List (List ℕ)) → BeginsRefused r.draft words
    → line_by servers r n words ≡ Err causes.Section
words_refused servers r n [] is = absurd is
words_refused servers r n (word ∷ words) (inl refused) = rw refused refl
words_refused servers r n (word ∷ words) (inr again) = rw again.0 (out_placed r _ (second_listen r.draft n words again.1))

words_limit : (servers : List Server) (r : Resolved) (n : ℕ) (words : List (List ℕ)) → line_by servers r n words ≡ Err causes.Limit → IsOneTooMany r words
words_limit servers r n [] is = absurd (let none = is in cc)
words_limit servers r n (word ∷ words) is = of (keyword_of word) refl
  where
    of : (o : Option Keyword) → keyword_of word ≡ o
        → (keyword : Keyword) × (keyword_of word ≡ Some keyword) × (takes r.draft.section keyword ≡ true) × (is_full r keyword ≡ true)
    of None known = absurd (let fault : (let one : Result Resolved FaultCause = Err causes.Keyword in one ≡ Err causes.Limit) = (rw known at is) in
        let none = fault in
        cc)
    of (Some keyword) known =
        let one = limit_only servers r n keyword words (begins keyword) (takes r.draft.section keyword) refl refl (rw known at is) in
        (keyword, known, one.0, one.1)

words_full : (servers : List Server) (r : Resolved) (n : ℕ) (words : List (List ℕ)) → IsOneTooMany r words → line_by servers r n words ≡ Err causes.Limit
words_full servers r n [] is = absurd is
words_full servers r n (word ∷ words) is = sym (words_resolved servers r n (word ∷ words)) ∙ of is.0 is.1 is.2 is.3
  where
    of : (keyword : Keyword) → keyword_of word ≡ Some keyword → takes r.draft.section keyword ≡ true → is_full r keyword ≡ true
        → resolved_words servers r n (word ∷ words) ≡ Err causes.Limit
    of keywords.Server known inside full = has_fault servers r n _ _ (servers_full word words known inside full)
    of keywords.Acl known inside full = has_fault servers r n _ _ (acl_lines_full word words known inside full)
    of keywords.HttpRequest known inside full = has_fault servers r n _ _ (rules_full word words known inside full)
    of keywords.UseServer known inside full = has_fault servers r n _ _ (pins_full word words known inside full)
    of other known inside full = absurd (let none = full in cc)

abbrev is_of_step : FaultCause → Bool
is_of_step causes.Quoting = true
is_of_step causes.Limit = true
is_of_step other = false

no_other : (one cause : FaultCause) → is_of_step one ≡ true → (let fault : Result Resolved FaultCause = Err one in fault ≡ Err cause) → is_of_step cause ≡ false
    → ⊥
no_other one cause holds is fails = let same : one ≡ cause = same_cause is in
    let both : true ≡ false = sym holds ∙ ap is_of_step same ∙ fails in absurd (let none = both in cc)
  where
    same_cause : {a b : FaultCause} → (let fault : Result Resolved FaultCause = Err a in fault ≡ Err b) → a ≡ b
    same_cause is = cc

-- where a cause that words alone can give is given, they were read
read_only : (ignored quoted too_long : Bool) (r : Resolved) (read : Result Resolved FaultCause) (cause : FaultCause)
    → stepped ignored quoted too_long r read ≡ Err cause
    → is_of_step cause ≡ false → (ignored ≡ false) × (quoted ≡ false) × (too_long ≡ false) × (read ≡ Err cause)
read_only true quoted true r read cause is other = absurd (no_other causes.Limit cause refl is other)
read_only true quoted false r read cause is other = absurd (let none = is in cc)
read_only false true too_long r read cause is other = absurd (no_other causes.Quoting cause refl is other)
read_only false false true r read cause is other = absurd (no_other causes.Limit cause refl is other)
read_only false false false r read cause is other = (refl, refl, refl, is)

quoting_only : (ignored quoted too_long : Bool) (r : Resolved) (read : Result Resolved FaultCause) → Within is_of_lines read
    → stepped ignored quoted too_long r read ≡ Err causes.Quoting
    → (ignored ≡ false) × (quoted ≡ true)
quoting_only true quoted true r read within is = absurd (let none = is in cc)
quoting_only true quoted false r read within is = absurd (let none = is in cc)
quoting_only false true too_long r read within is = (refl, refl)
quoting_only false false true r read within is = absurd (let none = is in cc)
quoting_only false false false r read within is = absurd (never causes.Quoting within refl is)

-- where `limit` is given, the file is too long and no quote comes first, or the words were read
limit_where : (ignored quoted too_long : Bool) (r : Resolved) (read : Result Resolved FaultCause) → stepped ignored quoted too_long r read ≡ Err causes.Limit
    → ((too_long ≡ true) × ((ignored ≡ false) × (quoted ≡ true) → ⊥)) ⊎ ((ignored ≡ false) × (quoted ≡ false) × (too_long ≡ false) × (read ≡ Err causes.Limit))
limit_where true quoted true r read is = inl (refl, λ both. let none = both.0 in cc)
limit_where true quoted false r read is = absurd (let none = is in cc)
limit_where false true too_long r read is = absurd (let none = is in cc)
limit_where false false true r read is = inl (refl, λ both. let none = both.1 in cc)
limit_where false false false r read is = inr (refl, refl, refl, is)

limit_unless : (ignored quoted : Bool) (r : Resolved) (read : Result Resolved FaultCause) → ((ignored ≡ false) × (quoted ≡ true) → ⊥)
    → stepped ignored quoted true r read ≡ Err causes.Limit
limit_unless true quoted r read unquoted = refl
limit_unless false true r read unquoted = absurd (unquoted (refl, refl))
limit_unless false false r read unquoted = refl

-- each of these causes stands in its row, and nowhere else
pub each_in_its_row : (servers : List Server) (too_long : Bool) (r : Resolved) (n : ℕ) (line : List ℕ) → EachInItsRow servers too_long r n line
each_in_its_row servers too_long r n line =
    let ignored = draft.is_ignored r.draft.section (words_of line) in
    let quoted = list_any draft.is_quoting (uncommented line) in
    let read = line_by servers r n (words_of line) in
    let causes_of = words_causes servers r n (words_of line) in
    let step : resolved_line servers too_long r n line ≡ stepped ignored quoted too_long r read = line_stepped servers too_long r n line in
    let to_read : (read_is : IsRead r.draft too_long line) → resolved_line servers too_long r n line ≡ read = λ it. step
    ∙ rw (it.heeded, it.unquoted, it.short) refl in
    record {
      quoting = (λ is. quoting_only ignored quoted too_long r read causes_of (sym step ∙ is), λ is. step ∙ rw (is.0, is.1) refl);
      place = (
        λ is. let parts = read_only ignored quoted too_long r read causes.Place (sym step ∙ is) refl in
            (record { heeded = parts.0; unquoted = parts.1; short = parts.2 }, words_place servers r n (words_of line) parts.3),
        λ is. to_read is.0 ∙ words_misplaced servers r n (words_of line) is.1,
      );
      section = (
        λ is. let parts = read_only ignored quoted too_long r read causes.Section (sym step ∙ is) refl in
            (record { heeded = parts.0; unquoted = parts.1; short = parts.2 }, words_section servers r n (words_of line) parts.3),
        λ is. to_read is.0 ∙ words_refused servers r n (words_of line) is.1,
      );
      limit = (
        λ is. elim (limit_where ignored quoted too_long r read (sym step ∙ is)) [
          | inl long ↦ inl long
          | inr parts ↦ inr (record { heeded = parts.0; unquoted = parts.1; short = parts.2 }, words_limit servers r n (words_of line) parts.3)
        ],
        λ is. elim is [
          | inl long ↦ step ∙ ap (λ b. stepped ignored quoted b r read) long.0 ∙ limit_unless ignored quoted r read long.1
          | inr full ↦ to_read full.0 ∙ words_full servers r n (words_of line) full.1
        ],
      );
      missing = λ is. never causes.Missing causes_of refl (read_only ignored quoted too_long r read causes.Missing (sym step ∙ is) refl).3;
    }
