-- A line by its keyword where all servers are known.
use Rattle.std.proofs.Common.{◌≡◌, ◌∙◌, ◌++◌, ℕ, Bool, true, false, cond, not, List, [], ◌∷◌, length, Some, None, Result, Ok, Err, refl, sym, ap}
use Rattle.std.specs.Option.{ok_or}
use Rattle.std.specs.List.{list_any}
use Rattle.proxy_words.specs.Names.{is_name}
use Rattle.proxy_words.specs.Text.{uncommented, words}
use Rattle.proxy_config.specs.declared.faults.FaultCause.{FaultCause}
use Rattle.proxy_config.specs.declared.faults.FaultCause.TheVariants as causes
use Rattle.proxy_config.specs.declared.draft.Draft.{Draft}
use Rattle.proxy_config.specs.declared.keywords.Keyword.{Keyword}
use Rattle.proxy_config.specs.declared.keywords.Keyword.TheVariants as keywords
use Rattle.proxy_config.specs.declared.parts.Acl.{Acl}
use Rattle.proxy_config.specs.declared.parts.Pin.{Pin}
use Rattle.proxy_config.specs.declared.parts.Server.{Server}
use Rattle.proxy_config.specs.declared.wishes.UnresolvedUseServer.{UnresolvedUseServer}
use Rattle.proxy_config.specs.Outcomes.{◌>>=◌, unless}
use Rattle.proxy_config.specs.Pieces.{word_at}
use Rattle.proxy_config.specs.Conditions.{guard_at}
use Rattle.proxy_config.specs.Keywords.{keyword_of}
use Rattle.proxy_config.specs.Rules.{server_index}
use Rattle.proxy_config.specs.Draft as draft
use Rattle.proxy_config.specs.Resolved.{Resolved, resolve, resolved_words, resolved_line}
use Rattle.proxy_config.specs.Wishes as wished
use Rattle.proxy_config.proofs.Outcomes.{same_next}
use Rattle.proxy_config.proofs.LeftReaders.{assoc}

-- `use-server NAME` and a guard
unfoldable pub pin_line : List Server → List Acl → List (List ℕ) → Result Pin FaultCause
pin_line servers acls words = do
  name ← word_at words
  named ← unless (not (is_name name.0)) causes.Name
  server ← ok_or (server_index name.0 servers) causes.Unknown
  first ← word_at name.1
  guard ← guard_at acls first.0 first.1
  Ok (record { server = server; guard = guard })

-- a pin is what its wish comes to
pin_granted : (servers : List Server) (n : ℕ) (acls : List Acl) (ws : List (List ℕ))
    → pin_line servers acls ws ≡ (wished.wish_line n acls ws >>= wished.asked_pin servers)
unfolding pin_line wished.wish_line
pin_granted servers n acls ws = sym (assoc (word_at ws) _ (wished.asked_pin servers) ∙ same_next (word_at ws) _ _ (λ name name_is.
    assoc (unless (not (is_name name.0)) causes.Name) _ (wished.asked_pin servers) ∙ same_next (unless (not (is_name name.0)) causes.Name) _ _ (λ named named_is.
    same_next (ok_or (server_index name.0 servers) causes.Unknown) _ _ (λ server server_is.
    assoc (word_at name.1) _ (λ guard. Ok (record { server = server; guard = guard }))))))

-- a draft behind these pins
abbrev pub placed : List Pin → Result Draft FaultCause → Result Resolved FaultCause
placed ps read = read >>= λ d. Ok (record { draft = d; pins = ps })

-- a `use-server` line
unfoldable pub pinned_line : List Server → Resolved → List (List ℕ) → Result Resolved FaultCause
pinned_line servers r words = do
  place ← unless (not (draft.in_listen r.draft.section)) causes.Place
  limit ← draft.has_rule_room (length r.pins) r.draft
  pin ← pin_line servers r.draft.acls words
  Ok (record r { pins = r.pins ++ pin ∷ [] })

-- a line by its keyword, its number and its other words
abbrev pub line_of : List Server → Resolved → ℕ → Keyword → List (List ℕ) → Result Resolved FaultCause
line_of servers r n keywords.Global words = placed r.pins (draft.global_line r.draft words)
line_of servers r n keywords.Defaults words = placed r.pins (draft.defaults_line r.draft words)
line_of servers r n keywords.Listen words = placed r.pins (draft.listen_line r.draft n words)
line_of servers r n keywords.Refused words = Err causes.Section
line_of servers r n (keywords.Shared shared) words = placed r.pins (draft.value_line r.draft shared words)
line_of servers r n keywords.Bind words = placed r.pins (draft.bind_line r.draft words)
line_of servers r n keywords.Server words = placed r.pins (draft.server_line r.draft words)
line_of servers r n keywords.Acl words = placed r.pins (draft.test_line r.draft words)
line_of servers r n keywords.HttpRequest words = placed r.pins (draft.request_line (length r.pins) r.draft words)
line_of servers r n keywords.UseServer words = pinned_line servers r words

-- a line by its words
abbrev pub line_by : List Server → Resolved → ℕ → List (List ℕ) → Result Resolved FaultCause
line_by servers r n [] = Ok r
line_by servers r n (word ∷ words) = ok_or (keyword_of word) causes.Keyword >>= λ keyword. line_of servers r n keyword words

plainly : (servers : List Server) (ps : List Pin) (read : Result Draft FaultCause) → (draft.plain read >>= resolve servers ps) ≡ placed ps read
plainly servers ps (Ok d) = refl
plainly servers ps (Err cause) = refl

use_resolved : (servers : List Server) (r : Resolved) (n : ℕ) (ws : List (List ℕ))
    → pinned_line servers r ws ≡ ((draft.use_line (length r.pins) r.draft n ws >>= λ wish. Ok (r.draft, Some wish)) >>= resolve servers r.pins)
unfolding pinned_line draft.use_line
use_resolved servers r n ws =
    let asked : UnresolvedUseServer → Result Resolved FaultCause = λ wish. resolve servers r.pins (r.draft, Some wish) in
    let pinned : Pin → Result Resolved FaultCause = λ pin. Ok (record r { pins = r.pins ++ pin ∷ [] }) in
    sym (assoc (draft.use_line (length r.pins) r.draft n ws) _ (resolve servers r.pins)
    ∙ assoc (unless (not (draft.in_listen r.draft.section)) causes.Place) _ asked
    ∙ same_next (unless (not (draft.in_listen r.draft.section)) causes.Place) _ _ (λ place place_is.
    assoc (draft.has_rule_room (length r.pins) r.draft) _ asked ∙ same_next (draft.has_rule_room (length r.pins) r.draft) _ _ (λ limit limit_is.
    sym (ap (λ (pin : Result Pin FaultCause). pin >>= pinned) (pin_granted servers n r.draft.acls ws)
    ∙ assoc (wished.wish_line n r.draft.acls ws) (wished.asked_pin servers) pinned))))

line_resolved : (servers : List Server) (r : Resolved) (n : ℕ) (keyword : Keyword) (ws : List (List ℕ))
    → (draft.keyword_line (length r.pins) r.draft n keyword ws >>= resolve servers r.pins) ≡ line_of servers r n keyword ws
line_resolved servers r n keywords.Global ws = plainly servers r.pins _
line_resolved servers r n keywords.Defaults ws = plainly servers r.pins _
line_resolved servers r n keywords.Listen ws = plainly servers r.pins _
line_resolved servers r n keywords.Refused ws = refl
line_resolved servers r n (keywords.Shared kind) ws = plainly servers r.pins _
line_resolved servers r n keywords.Bind ws = plainly servers r.pins _
line_resolved servers r n keywords.Server ws = plainly servers r.pins _
line_resolved servers r n keywords.Acl ws = plainly servers r.pins _
line_resolved servers r n keywords.HttpRequest ws = plainly servers r.pins _
line_resolved servers r n keywords.UseServer ws = sym (use_resolved servers r n ws)

pub words_resolved : (servers : List Server) (r : Resolved) (n : ℕ) (ws : List (List ℕ)) → resolved_words servers r n ws ≡ line_by servers r n ws
unfolding draft.words_line
words_resolved servers r n [] = refl
words_resolved servers r n (word ∷ ws) = assoc (ok_or (keyword_of word) causes.Keyword) _ (resolve servers r.pins)
    ∙ same_next (ok_or (keyword_of word) causes.Keyword) _ _ (λ keyword keyword_is. line_resolved servers r n keyword ws)

-- what a line makes of what those before it came to, by three tests and its words
abbrev pub stepped : {A : Type 0} → Bool → Bool → Bool → A → Result A FaultCause → Result A FaultCause
stepped ignored quoted too_long r read = cond ignored (unless too_long causes.Limit >>= λ short. Ok r)
    (unless quoted causes.Quoting >>= λ plain. unless too_long causes.Limit >>= λ short. read)

pub line_stepped : (servers : List Server) (too_long : Bool) (r : Resolved) (n : ℕ) (line : List ℕ)
    → resolved_line servers too_long r n line ≡ stepped (draft.is_ignored r.draft.section (words (uncommented line)))
    (list_any draft.is_quoting (uncommented line)) too_long r (line_by servers r n (words (uncommented line)))
unfolding draft.step
line_stepped servers too_long r n line =
    by_tests (draft.is_ignored r.draft.section (words (uncommented line))) (list_any draft.is_quoting (uncommented line)) too_long
  where
    by_tests : (ignored quoted long : Bool)
        → (stepped ignored quoted long (r.draft, None) (draft.words_line (length r.pins) r.draft n (words (uncommented line))) >>= resolve servers r.pins)
        ≡ stepped ignored quoted long r (line_by servers r n (words (uncommented line)))
    by_tests true quoted true = refl
    by_tests true quoted false = refl
    by_tests false true long = refl
    by_tests false false true = refl
    by_tests false false false = words_resolved servers r n (words (uncommented line))
