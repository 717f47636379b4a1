-- Each cause stands where it is said to.
use Rattle.std.proofs.Common.{◌≡◌, ℕ, true, List, [], ◌∷◌, ◌++◌, Option, Some, None, Err, refl, ap, ◌∙◌}
use Rattle.std.specs.Option.{ok_or}
use Rattle.base_lists.proofs.Never.{false_true}
use Rattle.proxy_config.specs.declared.draft.Section.{Section}
use Rattle.proxy_config.specs.declared.draft.Section.TheVariants as sections
use Rattle.proxy_config.specs.declared.faults.FaultCause.{FaultCause}
use Rattle.proxy_config.specs.declared.faults.FaultCause.TheVariants as causes
use Rattle.proxy_config.specs.declared.keywords.Keyword.{Keyword}
use Rattle.proxy_config.specs.declared.keywords.Keyword.TheVariants as keywords
use Rattle.proxy_config.specs.declared.parts.Server.{Server}
use Rattle.proxy_config.specs.declared.settings.Setting.{Setting}
use Rattle.proxy_config.specs.declared.settings.Setting.TheVariants.{Weight, Maxconn, Maxqueue, Inter, Rise, Fall}
use Rattle.proxy_config.specs.declared.settings.Settings.{Settings}
use Rattle.proxy_config.specs.declared.values.Shared.{Shared}
use Rattle.proxy_config.specs.declared.values.Shared.TheVariants as shared
use Rattle.proxy_config.specs.declared.values.Values.{Values}
use Rattle.proxy_config.specs.Draft as draft
use Rattle.proxy_config.specs.Faulty as fault
use Rattle.proxy_config.specs.Faulty.{HasFault, TakesRule, TakesServer}
use Rattle.proxy_config.specs.Resolved.{Resolved, resolved_words}
use Rattle.proxy_config.specs.Keywords.{keyword_of}
use Rattle.proxy_config.proofs.TermFaults.{in_guard}
use Rattle.proxy_config.proofs.Resolving.{pin_line, pinned_line, placed, line_of, words_resolved}
use Rattle.proxy_config.specs.Conditions as conditions
use Rattle.proxy_config.specs.Outcomes.{◌>>=◌}
use Rattle.proxy_config.specs.CauseTable.{in_values}
use Rattle.proxy_config.specs.Rules as rules
use Rattle.proxy_config.specs.Settings as server
use Rattle.proxy_config.specs.Values as values

-- a fault of a keyword's line is one of the line
of_line : (servers : List Server) (r : Resolved) (n : ℕ) (word : List ℕ) (more : List (List ℕ)) (keyword : Keyword) (cause : FaultCause)
    → keyword_of word ≡ Some keyword → line_of servers r n keyword more ≡ Err cause → resolved_words servers r n (word ∷ more) ≡ Err cause
of_line servers r n word more keyword cause is faulty =
    words_resolved servers r n (word ∷ more) ∙ ap (λ (o : Option Keyword). ok_or o causes.Keyword >>= λ k. line_of servers r n k more) is ∙ faulty

-- a fault of the values' line is one in both sections that take it
of_values : (r : Resolved) (kind : Shared) (more : List (List ℕ)) (cause : FaultCause) → in_values r.draft.section ≡ true
    → ((v : Values) → values.shared_line kind v more ≡ Err cause) → placed r.pins (draft.value_line r.draft kind more) ≡ Err cause
unfolding draft.value_line
of_values r kind more cause inside faulty = by_section r.draft.section refl inside
  where
    by_section : (section : Section) → r.draft.section ≡ section → in_values section ≡ true → placed r.pins (draft.value_line r.draft kind more) ≡ Err cause
    by_section sections.Outside e never = false_true never
    by_section sections.Global e never = false_true never
    by_section sections.Defaults e takes = rw (e, faulty r.draft.defaults) refl
    by_section sections.Listen e takes = rw (e, faulty r.draft.values) refl

set_fails : (which : Setting) (value : List ℕ) (s : Settings) → fault.value_in which value ≡ None → server.set which value s ≡ Err causes.Number
set_fails Weight value s none = rw none refl
set_fails Maxconn value s none = rw none refl
set_fails Maxqueue value s none = rw none refl
set_fails Inter value s none = rw none refl
set_fails Rise value s none = rw none refl
set_fails Fall value s none = rw none refl

module _ (servers : List Server) (r : Resolved) (n : ℕ) where
  pub has_fault : (words : List (List ℕ)) (cause : FaultCause) → HasFault servers r words cause → resolved_words servers r n words ≡ Err cause
  unfolding draft.global_line draft.defaults_line draft.optional_name draft.listen_line draft.bind_line draft.server_line draft.test_line
      draft.request_line pinned_line rules.acl_line rules.rule_line pin_line conditions.guard_at conditions.optional_guard values.fixed_line values.retries_line
      values.option_line values.timeout_line
  has_fault words cause (fault.no_keyword word more none) =
      words_resolved servers r n (word ∷ more) ∙ ap (λ (o : Option Keyword). ok_or o causes.Keyword >>= λ k. line_of servers r n k more) none
  has_fault words cause (fault.another_mode word mode more is inside other) =
      of_line servers r n word (mode ∷ more) (keywords.Shared shared.Mode) causes.Keyword is
      (of_values r shared.Mode (mode ∷ more) causes.Keyword inside (λ v. rw other refl))
  has_fault words cause (fault.another_balance word balance more is inside other) =
      of_line servers r n word (balance ∷ more) (keywords.Shared shared.Balance) causes.Keyword is
      (of_values r shared.Balance (balance ∷ more) causes.Keyword inside (λ v. rw other refl))
  has_fault words cause (fault.no_option word option more is inside none) =
      of_line servers r n word (option ∷ more) (keywords.Shared shared.Option) causes.Keyword is
      (of_values r shared.Option (option ∷ more) causes.Keyword inside (λ v. rw none refl))
  has_fault words cause (fault.no_timeout word timeout more is inside none) =
      of_line servers r n word (timeout ∷ more) (keywords.Shared shared.Timeout) causes.Keyword is
      (of_values r shared.Timeout (timeout ∷ more) causes.Keyword inside (λ v. rw none refl))
  has_fault words cause (fault.no_action word action more is takes none) =
      of_line servers r n word (action ∷ more) keywords.HttpRequest causes.Keyword is (rw (takes.place, takes.room, none) refl)
  has_fault words cause (fault.no_setting word name at address setting value more is takes there uncheck none) =
      of_line servers r n word (name ∷ at ∷ setting ∷ value ∷ more) keywords.Server causes.Keyword is
      (rw (takes.place, takes.room, takes.named, takes.fresh, there, uncheck, none) refl)
  has_fault words cause (fault.no_number word is inside) =
      of_line servers r n word [] (keywords.Shared shared.Retries) causes.Words is (of_values r shared.Retries [] causes.Words inside (λ v. refl))
  has_fault words cause (fault.no_time word timeout which is inside some) =
      of_line servers r n word (timeout ∷ []) (keywords.Shared shared.Timeout) causes.Words is
      (of_values r shared.Timeout (timeout ∷ []) causes.Words inside (λ v. rw some refl))
  has_fault words cause (fault.no_address word name is takes) =
      of_line servers r n word (name ∷ []) keywords.Server causes.Words is (rw (takes.place, takes.room, takes.named, takes.fresh) refl)
  has_fault words cause (fault.behind_global word surplus more is) = of_line servers r n word (surplus ∷ more) keywords.Global causes.Words is refl
  has_fault words cause (fault.behind_a_number word digits surplus number more is inside some) =
      of_line servers r n word (digits ∷ surplus ∷ more) (keywords.Shared shared.Retries) causes.Words is
      (of_values r shared.Retries (digits ∷ surplus ∷ more) causes.Words inside (λ v. rw some refl))
  has_fault words cause (fault.no_retries word digits more is inside none) =
      of_line servers r n word (digits ∷ more) (keywords.Shared shared.Retries) causes.Number is
      (of_values r shared.Retries (digits ∷ more) causes.Number inside (λ v. rw none refl))
  has_fault words cause (fault.no_milliseconds word timeout digits which more is inside some none) =
      of_line servers r n word (timeout ∷ digits ∷ more) (keywords.Shared shared.Timeout) causes.Number is
      (of_values r shared.Timeout (timeout ∷ digits ∷ more) causes.Number inside (λ v. rw (some, none) refl))
  has_fault words cause (fault.no_value word name at address setting value which more is takes there uncheck some none) =
      of_line servers r n word (name ∷ at ∷ setting ∷ value ∷ more) keywords.Server causes.Number is
      (rw (takes.place, takes.room, takes.named, takes.fresh, there, uncheck, some, set_fails which value server.built_in none) refl)
  has_fault words cause (fault.no_bind_address word at more is place first none) =
      of_line servers r n word (at ∷ more) keywords.Bind causes.Address is (rw (place, first, none) refl)
  has_fault words cause (fault.no_server_address word name at more is takes none) =
      of_line servers r n word (name ∷ at ∷ more) keywords.Server causes.Address is (rw (takes.place, takes.room, takes.named, takes.fresh, none) refl)
  has_fault words cause (fault.no_defaults_name word name more is none) = of_line servers r n word (name ∷ more) keywords.Defaults causes.Name is (rw none refl)
  has_fault words cause (fault.no_listen_name word name more is first none) =
      of_line servers r n word (name ∷ more) keywords.Listen causes.Name is (rw (first, none) refl)
  has_fault words cause (fault.no_server_name word name more is place room none) =
      of_line servers r n word (name ∷ more) keywords.Server causes.Name is (rw (place, room, none) refl)
  has_fault words cause (fault.no_acl_name word name more is place room none) =
      of_line servers r n word (name ∷ more) keywords.Acl causes.Name is (rw (place, room, none) refl)
  has_fault words cause (fault.no_pin_name word name more is takes none) =
      of_line servers r n word (name ∷ more) keywords.UseServer causes.Name is (rw (takes.place, takes.room, none) refl)
  has_fault words cause (fault.bind_again word more is place again) = of_line servers r n word more keywords.Bind causes.Twice is (rw (place, again) refl)
  has_fault words cause (fault.server_again word name more is place room named again) =
      of_line servers r n word (name ∷ more) keywords.Server causes.Twice is (rw (place, room, named, again) refl)
  has_fault words cause (fault.no_server word name more is takes named none) =
      of_line servers r n word (name ∷ more) keywords.UseServer causes.Unknown is (rw (takes.place, takes.room, named, none) refl)
  has_fault words cause (fault.no_expression word action value which more is takes some none) =
      of_line servers r n word (action ∷ value ∷ more) keywords.HttpRequest causes.Condition is (rw (takes.place, takes.room, some, none) refl)
  has_fault words cause (fault.no_guard word name other index more is takes named some no_if no_unless) =
      of_line servers r n word (name ∷ other ∷ more) keywords.UseServer causes.Condition is (rw (takes.place, takes.room, named, some, no_if, no_unless) refl)
  has_fault words cause (fault.no_term_of_rule word action value guard which expression front term more c is takes some one guards begun none) =
      of_line servers r n word (action ∷ value ∷ guard ∷ (front ++ term ∷ more)) keywords.HttpRequest c is
      (rw (takes.place, takes.room, some, one, in_guard r.draft.acls guard front term more c guards begun none) refl)
  has_fault words cause (fault.no_term_of_pin word name guard index front term more c is takes named some guards begun none) =
      of_line servers r n word (name ∷ guard ∷ (front ++ term ∷ more)) keywords.UseServer c is
      (rw (takes.place, takes.room, named, some, in_guard r.draft.acls guard front term more c guards begun none) refl)
  has_fault words cause (fault.servers_full word more is place full) = of_line servers r n word more keywords.Server causes.Limit is (rw (place, full) refl)
  has_fault words cause (fault.acl_lines_full word more is place full) = of_line servers r n word more keywords.Acl causes.Limit is (rw (place, full) refl)
  has_fault words cause (fault.rules_full word more is place full) = of_line servers r n word more keywords.HttpRequest causes.Limit is (rw (place, full) refl)
  has_fault words cause (fault.pins_full word more is place full) = of_line servers r n word more keywords.UseServer causes.Limit is (rw (place, full) refl)
