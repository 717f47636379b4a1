-- Each line is read from the left.
use Rattle.std.proofs.Common.{◌≡◌, ◌⊎◌, inl, inr, ◌+◌, ℕ, zero, suc, true, cond, not, List}
use Rattle.std.proofs.Common.{[], ◌∷◌, length, Some, Result, Ok, Err, refl, sym, ◌∙◌, arith, codes}
use Rattle.std.specs.Option.{ok_or, is_some}
use Rattle.std.specs.Prelude.{nat_le}
use Rattle.std.specs.Str.{bytes_eq}
use Rattle.proxy_words.specs.Numerals.{numeral}
use Rattle.proxy_words.specs.Times.{time}
use Rattle.proxy_config.specs.declared.faults.FaultCause.{FaultCause}
use Rattle.proxy_config.specs.declared.faults.FaultCause.TheVariants as causes
use Rattle.proxy_config.specs.declared.draft.Draft.{Draft}
use Rattle.proxy_config.specs.declared.draft.Section.{Section}
use Rattle.proxy_config.specs.declared.draft.Section.TheVariants as sections
use Rattle.proxy_config.specs.declared.keywords.Keyword.{Keyword}
use Rattle.proxy_config.specs.declared.keywords.Keyword.TheVariants as keywords
use Rattle.proxy_config.specs.declared.parts.Acl.{Acl}
use Rattle.proxy_config.specs.declared.parts.Server.{Server}
use Rattle.proxy_config.specs.declared.settings.Settings.{Settings}
use Rattle.proxy_config.specs.declared.settings.Setting.{Setting}
use Rattle.proxy_config.specs.declared.values.Values.{Values}
use Rattle.proxy_config.specs.declared.values.Shared.{Shared}
use Rattle.proxy_config.specs.declared.values.Shared.TheVariants as shared
use Rattle.proxy_config.specs.Outcomes.{◌>>=◌, unless}
use Rattle.proxy_config.specs.Pieces.{word_at, end_at}
use Rattle.proxy_words.specs.Names.{is_name}
use Rattle.proxy_config.specs.Names.{is_acl_name}
use Rattle.proxy_config.specs.Addresses.{bind_of, address_of}
use Rattle.proxy_config.specs.Keywords.{keyword_of}
use Rattle.proxy_config.specs.Samples.{test_to_end, expression_of}
use Rattle.proxy_config.specs.Conditions.{guard_at, optional_guard}
use Rattle.proxy_config.specs.Rules.{acl_line, action_of, rule_line, server_index, with_test}
use Rattle.proxy_config.specs.Resolved.{Resolved, resolved_words}
use Rattle.proxy_config.proofs.Resolving.{pin_line, pinned_line, placed, line_of, line_by, words_resolved}
use Rattle.proxy_config.specs.Settings as server
use Rattle.proxy_config.specs.Values as values
use Rattle.proxy_config.specs.Draft as draft
use Rattle.proxy_config.specs.LeftToRight.{CannotStand, IsLeftToRight}
use Rattle.proxy_config.proofs.LeftReaders.{Blame, count, stands, always, LeftReader, same, left_ok, left_err}
use Rattle.proxy_config.proofs.LeftReaders.{left_unless, left_or, left_if, left_word, left_end, left_made, left_cons, left_none}
use Rattle.proxy_config.proofs.LeftTests.{left_test, left_guard, left_optional}

left_fixed : (n : ℕ) (only : List ℕ) (v : Values) → LeftReader n (values.fixed_line only v)
unfolding values.fixed_line
left_fixed n only v = left_word _ (λ word. left_unless (not (bytes_eq word only)) causes.Keyword _ (left_end v))

left_retries : (n : ℕ) (v : Values) → LeftReader n (values.retries_line v)
unfolding values.retries_line
left_retries n v = left_word _ (λ word. left_or (numeral 9 word) causes.Number _ (λ retries. left_end (record v { retries = retries })))

left_option : (n : ℕ) (v : Values) → LeftReader n (values.option_line v)
unfolding values.option_line
left_option n v = left_word _ (λ word. left_or (values.switch_of word) causes.Keyword _ (λ switch. left_end (values.switched switch v)))

left_timeout : (n : ℕ) (v : Values) → LeftReader n (values.timeout_line v)
unfolding values.timeout_line
left_timeout n v = left_word _ (λ first. left_or (values.timeout_of first) causes.Keyword _
    (λ timeout. left_word _ (λ second. left_or (time second) causes.Number _ (λ t. left_end (values.with_timeout timeout t v)))))

left_shared : (n : ℕ) (kind : Shared) (v : Values) → LeftReader n (values.shared_line kind v)
left_shared n shared.Mode v = left_fixed n (codes "http") v
left_shared n shared.Balance v = left_fixed n (codes "leastconn") v
left_shared n shared.Retries v = left_retries n v
left_shared n shared.Option v = left_option n v
left_shared n shared.Timeout v = left_timeout n v
left_shared n shared.Note v = left_ok (λ words. v)

-- a setting's value, and then what reads on
left_set : {n : ℕ} (setting : Setting) (word : List ℕ) (s : Settings) (next : List (List ℕ) → Settings → Result Settings FaultCause)
    → ((t : Settings) → LeftReader n (λ words. next words t)) → LeftReader n (λ words. server.set setting word s >>= next words)
left_set {n} setting word s next left = by_value (server.set setting word s) refl
  where
    by_value : (r : Result Settings FaultCause) → server.set setting word s ≡ r → LeftReader n (λ words. server.set setting word s >>= next words)
    by_value (Ok t) is = same _ (λ words. next words t) (λ words. rw is refl) (left t)
    by_value (Err cause) is = same _ (λ words. Err cause) (λ words. rw is refl) (left_err cause)

-- what reads on behind a word of the settings
setting_behind : Settings → List ℕ → List (List ℕ) → Result Settings FaultCause
setting_behind s word words = cond (server.is_check word) (server.settings (record s { check = true }) words)
    (ok_or (server.setting_of word) causes.Keyword >>= λ setting. word_at words >>= λ value. server.set setting value.0 s >>= λ next.
    server.settings next value.1)

setting_step : (s : Settings) (word : List ℕ) (words : List (List ℕ)) → server.settings s (word ∷ words) ≡ setting_behind s word words
unfolding setting_behind
setting_step s word [] = refl
setting_step s word (value ∷ words) = refl

left_settings : (n : ℕ) (s : Settings) → LeftReader n (server.settings s)
unfolding setting_behind
left_settings zero s = left_none (server.settings s) (λ other is. absurd (let none = is in cc))
left_settings (suc n) s = left_cons (server.settings s) (setting_behind s) (setting_step s) (λ other is. absurd (let none = is in cc))
    (λ word. left_if (server.is_check word) _ _ (left_settings n (record s { check = true }))
    (left_or (server.setting_of word) causes.Keyword _ (λ setting. left_word _ (λ value. left_set setting value s _ (λ next. left_settings n next)))))

left_acl : (n : ℕ) (acls : List Acl) → LeftReader n (acl_line acls)
unfolding acl_line
left_acl n acls = left_word _ (λ name. left_unless (not (is_acl_name name)) causes.Name _
    (left_made test_to_end (λ test. with_test name test acls) (left_test n)))

left_rule : (n : ℕ) (acls : List Acl) → LeftReader n (rule_line acls)
unfolding rule_line
left_rule n acls = left_word _ (λ first. left_or (action_of first) causes.Keyword _
    (λ action. left_word _ (λ second. left_or (expression_of second) causes.Condition _ (λ value.
    left_made (optional_guard acls) (λ guard. record { action = action; value = value; guard = guard }) (left_optional n acls)))))

left_pin : (n : ℕ) (servers : List Server) (acls : List Acl) → LeftReader n (pin_line servers acls)
unfolding pin_line
left_pin n servers acls = left_word _ (λ name. left_unless (not (is_name name)) causes.Name _ (left_or (server_index name servers) causes.Unknown _ (λ server.
    left_word _ (λ first. left_made (guard_at acls first) (λ guard. record { server = server; guard = guard }) (left_guard n acls first)))))

left_global : (n : ℕ) (d : Draft) → LeftReader n (draft.global_line d)
unfolding draft.global_line
left_global n d = left_end (record d { section = sections.Global })

left_name : (n : ℕ) → LeftReader n draft.optional_name
unfolding draft.optional_name
left_name zero = left_none draft.optional_name (λ other is. absurd (let none = is in cc))
left_name (suc n) = left_cons draft.optional_name (λ word others. unless (not (is_name word)) causes.Name >>= λ named. end_at others) (λ word others. refl)
    (λ other is. absurd (let none = is in cc))
    (λ word. left_unless (not (is_name word)) causes.Name _ (same end_at (λ words. end_at words >>= λ end. Ok tt) end_same (left_end tt)))
  where
    end_same : (words : List (List ℕ)) → end_at words ≡ (end_at words >>= λ end. Ok tt)
    end_same [] = refl
    end_same (word ∷ words) = refl

left_defaults : (n : ℕ) (d : Draft) → LeftReader n (draft.defaults_line d)
unfolding draft.defaults_line
left_defaults n d = left_made draft.optional_name (λ name. record d { section = sections.Defaults; defaults = values.built_in }) (left_name n)

left_listen : (n : ℕ) (d : Draft) (line : ℕ) → LeftReader n (draft.listen_line d line)
unfolding draft.listen_line
left_listen n d line = left_unless (is_some d.listen) causes.Section _ (left_word _ (λ name. left_unless (not (is_name name)) causes.Name _
    (left_end (record d { section = sections.Listen; listen = Some line; values = d.defaults }))))

left_bind : (n : ℕ) (d : Draft) → LeftReader n (draft.bind_line d)
unfolding draft.bind_line
left_bind n d = left_unless (not (draft.in_listen d.section)) causes.Place _ (left_unless (is_some d.bind) causes.Twice _ (left_word _ (λ word.
    left_or (bind_of word) causes.Address _ (λ bind. left_end (record d { bind = Some bind })))))

left_server : (n : ℕ) (d : Draft) → LeftReader n (draft.server_line d)
unfolding draft.server_line
left_server n d = left_unless (not (draft.in_listen d.section)) causes.Place _
    (left_unless (nat_le draft.most_servers (length d.servers)) causes.Limit _ (left_word _ (λ name.
    left_unless (not (is_name name)) causes.Name _
    (left_unless (is_some (server_index name d.servers)) causes.Twice _ (left_word _ (λ second. left_or (address_of second) causes.Address _ (λ address.
    left_made (server.settings server.built_in) _ (left_settings n server.built_in))))))))

left_test_line : (n : ℕ) (d : Draft) → LeftReader n (draft.test_line d)
unfolding draft.test_line
left_test_line n d = left_unless (not (draft.in_listen d.section)) causes.Place _
    (left_unless (nat_le draft.most_acl_lines d.acl_lines) causes.Limit _ (left_made (acl_line d.acls) _ (left_acl n d.acls)))

left_request : (n : ℕ) (pins : ℕ) (d : Draft) → LeftReader n (draft.request_line pins d)
unfolding draft.request_line
left_request n pins d = left_unless (not (draft.in_listen d.section)) causes.Place _
    (left_unless (nat_le draft.most_rules (length d.rules + pins)) causes.Limit _ (left_made (rule_line d.acls) _ (left_rule n d.acls)))

left_use : (n : ℕ) (servers : List Server) (r : Resolved) → LeftReader n (pinned_line servers r)
unfolding pinned_line
left_use n servers r = left_unless (not (draft.in_listen r.draft.section)) causes.Place _
    (left_unless (nat_le draft.most_rules (length r.draft.rules + length r.pins)) causes.Limit _
    (left_made (pin_line servers r.draft.acls) _ (left_pin n servers r.draft.acls)))

left_value_line : (n : ℕ) (d : Draft) (kind : Shared) (section : Section) → d.section ≡ section → LeftReader n (draft.value_line d kind)
unfolding draft.value_line
left_value_line n d kind sections.Outside is = same (draft.value_line d kind) (λ words. Err causes.Place) (λ words. rw is refl) (left_err causes.Place)
left_value_line n d kind sections.Global is = same (draft.value_line d kind) (λ words. Err causes.Place) (λ words. rw is refl) (left_err causes.Place)
left_value_line n d kind sections.Defaults is =
    same (draft.value_line d kind) (λ words. values.shared_line kind d.defaults words >>= λ v. Ok (record d { defaults = v })) (λ words. rw is refl)
    (left_made (values.shared_line kind d.defaults) _ (left_shared n kind d.defaults))
left_value_line n d kind sections.Listen is =
    same (draft.value_line d kind) (λ words. values.shared_line kind d.values words >>= λ v. Ok (record d { values = v })) (λ words. rw is refl)
    (left_made (values.shared_line kind d.values) _ (left_shared n kind d.values))

left_placed : (n : ℕ) (r : Resolved) (read : List (List ℕ) → Result Draft FaultCause) → LeftReader n read → LeftReader n (λ words. placed r.pins (read words))
left_placed n r read left = left_made read (λ d. record { draft = d; pins = r.pins }) left

left_keyword : (n : ℕ) (servers : List Server) (r : Resolved) (line : ℕ) (keyword : Keyword) → LeftReader n (line_of servers r line keyword)
left_keyword n servers r line keywords.Global = left_placed n r _ (left_global n r.draft)
left_keyword n servers r line keywords.Defaults = left_placed n r _ (left_defaults n r.draft)
left_keyword n servers r line keywords.Listen = left_placed n r _ (left_listen n r.draft line)
left_keyword n servers r line keywords.Refused = left_err causes.Section
left_keyword n servers r line (keywords.Shared kind) = left_placed n r _ (left_value_line n r.draft kind r.draft.section refl)
left_keyword n servers r line keywords.Bind = left_placed n r _ (left_bind n r.draft)
left_keyword n servers r line keywords.Server = left_placed n r _ (left_server n r.draft)
left_keyword n servers r line keywords.Acl = left_placed n r _ (left_test_line n r.draft)
left_keyword n servers r line keywords.HttpRequest = left_placed n r _ (left_request n (length r.pins) r.draft)
left_keyword n servers r line keywords.UseServer = left_use n servers r

left_by : (n : ℕ) (servers : List Server) (r : Resolved) (line : ℕ) → LeftReader n (line_by servers r line)
left_by zero servers r line = left_none (line_by servers r line) (λ other is. absurd (let none = is in cc))
left_by (suc n) servers r line = left_cons (line_by servers r line)
    (λ word others. ok_or (keyword_of word) causes.Keyword >>= λ keyword. line_of servers r line keyword others)
    (λ word others. refl) (λ other is. absurd (let none = is in cc))
    (λ word. left_or (keyword_of word) causes.Keyword _ (λ keyword. left_keyword n servers r line keyword))

left_line : (n : ℕ) (servers : List Server) (r : Resolved) (line : ℕ) → LeftReader n (resolved_words servers r line)
left_line n servers r line = same (resolved_words servers r line) (line_by servers r line) (words_resolved servers r line) (left_by n servers r line)

-- each line is read from the left
pub words-left : (servers : List Server) (r : Resolved) (line : ℕ) → IsLeftToRight (resolved_words servers r line)
words-left servers r line words cause fault = of ((left_line (length words) servers r line).blame words cause (omega arith) fault)
  where
    of : Blame (resolved_words servers r line) words cause → (cause ≡ causes.Words) ⊎ CannotStand (resolved_words servers r line) words cause
    of (count few) = inl few
    of (stands s) = inr s
    of (always whatever) = absurd
        (let none : (let one : Result Resolved FaultCause = Ok r in one ≡ Err cause) = sym (words_resolved servers r line []) ∙ whatever [] in cc)
