-- Lines of other keywords go by no rule.
use Rattle.std.proofs.Common.{◌≡◌, ◌∙◌, ℕ, not, List, length, Ok, refl, sym}
use Rattle.std.specs.Option.{ok_or, is_some}
use Rattle.std.specs.Prelude.{nat_le}
use Rattle.proxy_config.specs.declared.faults.FaultCause.TheVariants as causes
use Rattle.proxy_config.specs.declared.draft.Draft.{Draft}
use Rattle.proxy_config.specs.declared.draft.Section.{Section}
use Rattle.proxy_config.specs.declared.draft.Section.TheVariants as sections
use Rattle.proxy_config.specs.declared.parts.Rule.{Rule}
use Rattle.proxy_config.specs.declared.values.Shared.{Shared}
use Rattle.proxy_config.specs.Outcomes.{◌>>=◌, unless}
use Rattle.proxy_config.specs.Pieces.{word_at, end_at}
use Rattle.proxy_words.specs.Names.{is_name}
use Rattle.proxy_config.specs.Addresses.{bind_of, address_of}
use Rattle.proxy_config.specs.Rules.{acl_line, server_index}
use Rattle.proxy_config.specs.Settings as server
use Rattle.proxy_config.specs.Values as values
use Rattle.proxy_config.specs.Draft as draft
use Rattle.proxy_config.proofs.Outcomes.{same_next}
use Rattle.proxy_config.proofs.LeftReaders.{assoc}

-- the draft with other rules
abbrev pub refit : (List Rule → List Rule) → Draft → Draft
refit r d = record d { rules = r d.rules }

pub global_refit : (r : List Rule → List Rule) (d : Draft) (ws : List (List ℕ))
    → draft.global_line (refit r d) ws ≡ (draft.global_line d ws >>= λ x. Ok (refit r x))
unfolding draft.global_line
global_refit r d ws = sym (assoc (end_at ws) _ (λ x. Ok (refit r x)))

pub defaults_refit : (r : List Rule → List Rule) (d : Draft) (ws : List (List ℕ))
    → draft.defaults_line (refit r d) ws ≡ (draft.defaults_line d ws >>= λ x. Ok (refit r x))
unfolding draft.defaults_line
defaults_refit r d ws = sym (assoc (draft.optional_name ws) _ (λ x. Ok (refit r x)))

pub listen_refit : (r : List Rule → List Rule) (d : Draft) (n : ℕ) (ws : List (List ℕ))
    → draft.listen_line (refit r d) n ws ≡ (draft.listen_line d n ws >>= λ x. Ok (refit r x))
unfolding draft.listen_line
listen_refit r d n ws = sym (assoc (unless (is_some d.listen) causes.Section) _ (λ x. Ok (refit r x))
    ∙ same_next (unless (is_some d.listen) causes.Section) _ _ (λ again again_is.
    assoc (word_at ws) _ (λ x. Ok (refit r x)) ∙ same_next (word_at ws) _ _ (λ name name_is.
    assoc (unless (not (is_name name.0)) causes.Name) _ (λ x. Ok (refit r x)) ∙ same_next (unless (not (is_name name.0)) causes.Name) _ _ (λ named named_is.
    assoc (end_at name.1) _ (λ x. Ok (refit r x))))))

pub value_refit : (r : List Rule → List Rule) (d : Draft) (kind : Shared) (ws : List (List ℕ)) (section : Section)
    → d.section ≡ section → draft.value_line (refit r d) kind ws ≡ (draft.value_line d kind ws >>= λ x. Ok (refit r x))
unfolding draft.value_line
value_refit r d kind ws sections.Outside is = rw is refl
value_refit r d kind ws sections.Global is = rw is refl
value_refit r d kind ws sections.Defaults is = rw is (sym (assoc (values.shared_line kind d.defaults ws) _ (λ x. Ok (refit r x))))
value_refit r d kind ws sections.Listen is = rw is (sym (assoc (values.shared_line kind d.values ws) _ (λ x. Ok (refit r x))))

pub bind_refit : (r : List Rule → List Rule) (d : Draft) (ws : List (List ℕ))
    → draft.bind_line (refit r d) ws ≡ (draft.bind_line d ws >>= λ x. Ok (refit r x))
unfolding draft.bind_line
bind_refit r d ws = sym (assoc (unless (not (draft.in_listen d.section)) causes.Place) _ (λ x. Ok (refit r x))
    ∙ same_next (unless (not (draft.in_listen d.section)) causes.Place) _ _ (λ place place_is.
    assoc (unless (is_some d.bind) causes.Twice) _ (λ x. Ok (refit r x)) ∙ same_next (unless (is_some d.bind) causes.Twice) _ _ (λ again again_is.
    assoc (word_at ws) _ (λ x. Ok (refit r x)) ∙ same_next (word_at ws) _ _ (λ word word_is.
    assoc (ok_or (bind_of word.0) causes.Address) _ (λ x. Ok (refit r x)) ∙ same_next (ok_or (bind_of word.0) causes.Address) _ _ (λ bind bind_is.
    assoc (end_at word.1) _ (λ x. Ok (refit r x)))))))

pub server_refit : (r : List Rule → List Rule) (d : Draft) (ws : List (List ℕ))
    → draft.server_line (refit r d) ws ≡ (draft.server_line d ws >>= λ x. Ok (refit r x))
unfolding draft.server_line
server_refit r d ws = sym (assoc (unless (not (draft.in_listen d.section)) causes.Place) _ (λ x. Ok (refit r x))
    ∙ same_next (unless (not (draft.in_listen d.section)) causes.Place) _ _ (λ place place_is.
    assoc (unless (nat_le draft.most_servers (length d.servers)) causes.Limit) _ (λ x. Ok (refit r x))
    ∙ same_next (unless (nat_le draft.most_servers (length d.servers)) causes.Limit) _ _ (λ limit limit_is.
    assoc (word_at ws) _ (λ x. Ok (refit r x)) ∙ same_next (word_at ws) _ _ (λ name name_is.
    assoc (unless (not (is_name name.0)) causes.Name) _ (λ x. Ok (refit r x)) ∙ same_next (unless (not (is_name name.0)) causes.Name) _ _ (λ named named_is.
    assoc (unless (is_some (server_index name.0 d.servers)) causes.Twice) _ (λ x. Ok (refit r x))
    ∙ same_next (unless (is_some (server_index name.0 d.servers)) causes.Twice) _ _ (λ again again_is.
    assoc (word_at name.1) _ (λ x. Ok (refit r x)) ∙ same_next (word_at name.1) _ _ (λ second second_is.
    assoc (ok_or (address_of second.0) causes.Address) _ (λ x. Ok (refit r x))
    ∙ same_next (ok_or (address_of second.0) causes.Address) _ _ (λ address address_is.
    assoc (server.settings server.built_in second.1) _ (λ x. Ok (refit r x))))))))))

pub test_refit : (r : List Rule → List Rule) (d : Draft) (ws : List (List ℕ))
    → draft.test_line (refit r d) ws ≡ (draft.test_line d ws >>= λ x. Ok (refit r x))
unfolding draft.test_line
test_refit r d ws = sym (assoc (unless (not (draft.in_listen d.section)) causes.Place) _ (λ x. Ok (refit r x))
    ∙ same_next (unless (not (draft.in_listen d.section)) causes.Place) _ _ (λ place place_is.
    assoc (unless (nat_le draft.most_acl_lines d.acl_lines) causes.Limit) _ (λ x. Ok (refit r x))
    ∙ same_next (unless (nat_le draft.most_acl_lines d.acl_lines) causes.Limit) _ _ (λ limit limit_is.
    assoc (acl_line d.acls ws) _ (λ x. Ok (refit r x)))))
