-- The servers that all lines declare, faulty lines aside, are those of the draft that one pass keeps.
use Rattle.std.proofs.Common.{◌≡◌, ◌∙◌, ◌+◌, ℕ, Bool, true, false, cond, not, List, [], ◌∷◌, length, Option, Some, None, Result, Ok, Err, refl, sym, ap}
use Rattle.std.specs.List.{list_any}
use Rattle.std.specs.Option.{ok_or}
use Rattle.proxy_words.specs.Text.{uncommented, words}
use Rattle.proxy_config.specs.declared.faults.FaultCause.{FaultCause}
use Rattle.proxy_config.specs.declared.faults.FaultCause.TheVariants as causes
use Rattle.proxy_config.specs.declared.faults.ConfigFault.{ConfigFault}
use Rattle.proxy_config.specs.declared.draft.Draft.{Draft}
use Rattle.proxy_config.specs.declared.draft.Section.TheVariants as sections
use Rattle.proxy_config.specs.declared.keywords.Keyword.{Keyword}
use Rattle.proxy_config.specs.declared.keywords.Keyword.TheVariants as keywords
use Rattle.proxy_config.specs.declared.parts.Pin.{Pin}
use Rattle.proxy_config.specs.declared.parts.Server.{Server}
use Rattle.proxy_config.specs.declared.progress.Progress.{Progress}
use Rattle.proxy_config.specs.declared.wishes.UnresolvedUseServer.{UnresolvedUseServer}
use Rattle.proxy_config.specs.Outcomes.{◌>>=◌, unless}
use Rattle.proxy_config.specs.Keywords.{keyword_of}
use Rattle.proxy_config.specs.Rules.{rule_line}
use Rattle.proxy_config.specs.Draft as draft
use Rattle.proxy_config.specs.Resolved.{Resolved, resolve}
use Rattle.proxy_config.specs.Wishes.{asked_pin}
use Rattle.proxy_config.specs.Progress.{took, take_line}
use Rattle.proxy_config.specs.File.{is_line, survey, first_keyword, keyword_in, ends_listen, after_fault, unless_faulty}
use Rattle.proxy_config.specs.Laws.{TakenIn}
use Rattle.proxy_config.proofs.Outcomes.{bind_ok, from_ok}
use Rattle.proxy_config.proofs.Refits.{global_refit, defaults_refit, listen_refit, value_refit, bind_refit, server_refit, test_refit}

-- the draft without its rules
abbrev bare : Draft → Draft
bare d = record d { rules = [] }

after_bare : (d : Draft) (keyword : Option Keyword) → bare (after_fault (bare d) keyword) ≡ bare (after_fault d keyword)
after_bare d keyword = by_test (ends_listen d keyword) refl (same_end keyword)
  where
    same_end : (keyword : Option Keyword) → ends_listen (bare d) keyword ≡ ends_listen d keyword
    same_end None = refl
    same_end (Some keywords.Refused) = refl
    same_end (Some keywords.Listen) = refl
    same_end (Some other) = refl

    by_test : (b : Bool) → ends_listen d keyword ≡ b → ends_listen (bare d) keyword ≡ ends_listen d keyword
        → bare (after_fault (bare d) keyword) ≡ bare (after_fault d keyword)
    by_test true e same =
        ap (λ (t : Bool). bare (cond t (record (bare d) { section = sections.Outside }) (bare d))) (same ∙ e)
        ∙ sym (ap (λ (t : Bool). bare (cond t (record d { section = sections.Outside }) d)) e)
    by_test false e same =
        ap (λ (t : Bool). bare (cond t (record (bare d) { section = sections.Outside }) (bare d))) (same ∙ e)
        ∙ sym (ap (λ (t : Bool). bare (cond t (record d { section = sections.Outside }) d)) e)

moved : (d : Draft) (keyword : Option Keyword) (r read : Result Draft FaultCause) → read ≡ (r >>= λ x. Ok (bare x))
    → bare (unless_faulty (bare d) keyword (draft.plain read)) ≡ bare (unless_faulty d keyword (draft.plain r))
moved d keyword (Ok e) read is = ap (λ (x : Result Draft FaultCause). bare (unless_faulty (bare d) keyword (draft.plain x))) is
moved d keyword (Err cause) read is =
    ap (λ (x : Result Draft FaultCause). bare (unless_faulty (bare d) keyword (draft.plain x))) is ∙ after_bare d keyword

-- a line that changes rules alone, and ends no section
kept : (d : Draft) (keyword : Option Keyword) (r : Result Draft FaultCause) → ends_listen d keyword ≡ false → ((e : Draft) → r ≡ Ok e → bare e ≡ bare d)
    → bare (unless_faulty d keyword (draft.plain r)) ≡ bare d
kept d keyword (Ok e) stays same = same e refl
kept d keyword (Err cause) stays same = ap (λ (t : Bool). bare (cond t (record d { section = sections.Outside }) d)) stays

-- a line that asks for a pin
asked : (d : Draft) (keyword : Option Keyword) (r : Result UnresolvedUseServer FaultCause) → ends_listen d keyword ≡ false
    → unless_faulty d keyword (r >>= λ wish. Ok (d, Some wish)) ≡ d
asked d keyword (Ok wish) stays = refl
asked d keyword (Err cause) stays = ap (λ (t : Bool). cond t (record d { section = sections.Outside }) d) stays

request_same : (pins : ℕ) (d e : Draft) (ws : List (List ℕ)) → draft.request_line pins d ws ≡ Ok e → bare e ≡ bare d
unfolding draft.request_line
request_same pins d e ws is =
    let place = bind_ok (unless (not (draft.in_listen d.section)) causes.Place) _ e is in
    let limit = bind_ok (draft.has_rule_room pins d) _ e place.2 in
    let rule = bind_ok (rule_line d.acls ws) _ e limit.2 in
    ap bare (sym (from_ok _ e rule.2))

line_bare : (pins other : ℕ) (d : Draft) (n : ℕ) (keyword : Keyword) (ws : List (List ℕ))
    → bare (unless_faulty (bare d) (Some keyword) (draft.keyword_line other (bare d) n keyword ws))
    ≡ bare (unless_faulty d (Some keyword) (draft.keyword_line pins d n keyword ws))
line_bare pins other d n keywords.Global ws = moved d (Some keywords.Global) (draft.global_line d ws) _ (global_refit (λ r. []) d ws)
line_bare pins other d n keywords.Defaults ws = moved d (Some keywords.Defaults) (draft.defaults_line d ws) _ (defaults_refit (λ r. []) d ws)
line_bare pins other d n keywords.Listen ws = moved d (Some keywords.Listen) (draft.listen_line d n ws) _ (listen_refit (λ r. []) d n ws)
line_bare pins other d n keywords.Refused ws = refl
line_bare pins other d n (keywords.Shared kind) ws =
    moved d (Some (keywords.Shared kind)) (draft.value_line d kind ws) _ (value_refit (λ r. []) d kind ws d.section refl)
line_bare pins other d n keywords.Bind ws = moved d (Some keywords.Bind) (draft.bind_line d ws) _ (bind_refit (λ r. []) d ws)
line_bare pins other d n keywords.Server ws = moved d (Some keywords.Server) (draft.server_line d ws) _ (server_refit (λ r. []) d ws)
line_bare pins other d n keywords.Acl ws = moved d (Some keywords.Acl) (draft.test_line d ws) _ (test_refit (λ r. []) d ws)
line_bare pins other d n keywords.HttpRequest ws =
    kept (bare d) (Some keywords.HttpRequest) (draft.request_line other (bare d) ws) refl (λ e is. request_same other (bare d) e ws is)
    ∙ sym (kept d (Some keywords.HttpRequest) (draft.request_line pins d ws) refl (λ e is. request_same pins d e ws is))
line_bare pins other d n keywords.UseServer ws =
    ap bare (asked (bare d) (Some keywords.UseServer) (draft.use_line other (bare d) n ws) refl)
    ∙ ap bare (sym (asked d (Some keywords.UseServer) (draft.use_line pins d n ws) refl))

words_bare : (pins other : ℕ) (d : Draft) (n : ℕ) (ws : List (List ℕ))
    → bare (unless_faulty (bare d) (first_keyword ws) (draft.words_line other (bare d) n ws))
    ≡ bare (unless_faulty d (first_keyword ws) (draft.words_line pins d n ws))
unfolding draft.words_line
words_bare pins other d n [] = refl
words_bare pins other d n (word ∷ ws) = by_keyword (keyword_of word)
  where
    by_keyword : (known : Option Keyword) → bare
        (unless_faulty (bare d) known (ok_or known causes.Keyword >>= λ keyword. draft.keyword_line other (bare d) n keyword ws))
        ≡ bare (unless_faulty d known (ok_or known causes.Keyword >>= λ keyword. draft.keyword_line pins d n keyword ws))
    by_keyword None = refl
    by_keyword (Some keyword) = line_bare pins other d n keyword ws

-- what a line leaves of all but rules, behind any number of pins
step_bare : (pins other : ℕ) (too_long : Bool) (d : Draft) (n : ℕ) (line : List ℕ)
    → bare (unless_faulty (bare d) (keyword_in line) (draft.step other too_long (bare d) n line))
    ≡ bare (unless_faulty d (keyword_in line) (draft.step pins too_long d n line))
unfolding draft.step
step_bare pins other too_long d n line =
    by_test (draft.is_ignored d.section (words (uncommented line))) (list_any draft.is_quoting (uncommented line)) too_long
  where
    by_test : (ignored quoted long : Bool)
        → bare (unless_faulty (bare d) (keyword_in line) (cond ignored (unless long causes.Limit >>= λ short. Ok (bare d, None))
        (unless quoted causes.Quoting >>= λ plain. unless long causes.Limit >>= λ short. draft.words_line other (bare d) n (words (uncommented line)))))
        ≡ bare (unless_faulty d (keyword_in line) (cond ignored (unless long causes.Limit >>= λ short. Ok (d, None))
        (unless quoted causes.Quoting >>= λ plain. unless long causes.Limit >>= λ short. draft.words_line pins d n (words (uncommented line)))))
    by_test true quoted true = after_bare d (keyword_in line)
    by_test true quoted false = refl
    by_test false true long = after_bare d (keyword_in line)
    by_test false false true = after_bare d (keyword_in line)
    by_test false false false = words_bare pins other d n (words (uncommented line))

-- so the number of pins makes no difference, nor do rules
step_same : (pins other : ℕ) (too_long : Bool) (d e : Draft) (n : ℕ) (line : List ℕ) → bare d ≡ bare e
    → bare (unless_faulty d (keyword_in line) (draft.step pins too_long d n line))
    ≡ bare (unless_faulty e (keyword_in line) (draft.step other too_long e n line))
step_same pins other too_long d e n line same =
    sym (step_bare pins 0 too_long d n line)
    ∙ ap (λ (x : Draft). bare (unless_faulty x (keyword_in line) (draft.step 0 too_long x n line))) same ∙ step_bare other 0 too_long e n line

-- the draft of the survey after a line
abbrev next : Option ℕ → Draft → ℕ → List ℕ → Draft
next long d n line = unless_faulty d (keyword_in line) (draft.step 0 (is_line long n) d n line)

survey_same : (long : Option ℕ) (d e : Draft) (n : ℕ) (lines : List (List ℕ)) → bare d ≡ bare e
    → (survey long d n lines).servers ≡ (survey long e n lines).servers
survey_same long d e n [] same = ap (λ (x : Draft). x.servers) same
survey_same long d e n (line ∷ lines) same =
    survey_same long (next long d n line) (next long e n line) (n + 1) lines (step_same 0 0 (is_line long n) d e n line same)

took_draft : (known : Option ConfigFault) (p : Progress) (n : ℕ) (keyword : Option Keyword) (r : Result (Draft × Option UnresolvedUseServer) FaultCause)
    → (took known p n keyword r).draft ≡ unless_faulty p.draft keyword r
took_draft None p n keyword (Ok (d, None)) = refl
took_draft None p n keyword (Ok (d, Some wish)) = refl
took_draft None p n keyword (Err cause) = refl
took_draft (Some fault) p n keyword (Ok (d, wish)) = refl
took_draft (Some fault) p n keyword (Err cause) = refl

-- a line that is read makes no difference to the servers that the lines declare
pub survey-take : (long : Option ℕ) (p : Progress) (n : ℕ) (line : List ℕ) (lines : List (List ℕ))
    → (survey long p.draft n (line ∷ lines)).servers ≡ (survey long (take_line (is_line long n) p n line).draft (n + 1) lines).servers
survey-take long p n line lines = survey_same long (next long p.draft n line) (take_line (is_line long n) p n line).draft (n + 1) lines
    (step_same 0 (length p.wishes) (is_line long n) p.draft p.draft n line refl
    ∙ ap bare (sym (took_draft p.fault p n (keyword_in line) (draft.step (length p.wishes) (is_line long n) p.draft n line))))

-- a line that is taken in leaves the draft that it makes, whatever pin it asks for
resolved_draft : (servers : List Server) (ps : List Pin) (x : Draft × Option UnresolvedUseServer) (e : Resolved) → resolve servers ps x ≡ Ok e → e.draft ≡ x.0
resolved_draft servers ps (d, None) e is = ap (λ (r : Resolved). r.draft) (sym (from_ok _ e is))
resolved_draft servers ps (d, Some wish) e is =
    let pin = bind_ok (asked_pin servers wish) _ e is in ap (λ (r : Resolved). r.draft) (sym (from_ok _ e pin.2))

-- where all lines are taken in, the survey finds the same servers
pub survey-taken : (servers : List Server) (long : Option ℕ) (r e : Resolved) (n : ℕ) (lines : List (List ℕ)) → TakenIn servers long r n lines e
    → (survey long r.draft n lines).servers ≡ e.draft.servers
survey-taken servers long r e n [] taken = ap (λ (x : Resolved). x.draft.servers) (sym taken)
survey-taken servers long r e n (line ∷ lines) taken =
    let read = bind_ok (draft.step (length r.pins) (is_line long n) r.draft n line) _ taken.0 taken.1 in
    survey_same long (next long r.draft n line) taken.0.draft (n + 1) lines
    (step_same 0 (length r.pins) (is_line long n) r.draft r.draft n line refl
    ∙ ap (λ (x : Result (Draft × Option UnresolvedUseServer) FaultCause). bare (unless_faulty r.draft (keyword_in line) x)) read.1
    ∙ ap bare (sym (resolved_draft servers r.pins read.0 taken.0 read.2)))
    ∙ survey-taken servers long taken.0 e (n + 1) lines taken.2
