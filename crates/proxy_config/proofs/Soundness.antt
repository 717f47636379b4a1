-- Each line that is taken in keeps what holds of accepted configurations.
use Rattle.std.proofs.Common.{◌≡◌, inl, inr, ◌+◌, ◌<◌, ◌≤◌, ◌^◌, ◌==◌, ℕ, Bool, true, false, cond, not, List}
use Rattle.std.proofs.Common.{[], ◌∷◌, length, Option, Some, None, Result, Ok, Err, refl, sym, ◌∙◌, subst, arith, length-append}
use Rattle.std.specs.Option.{ok_or, is_some, option_and_then, IfSome}
use Rattle.std.specs.List.{AllByRecursion, list_any}
use Rattle.std.specs.Str.Lines.{lines}
use Rattle.std.specs.Prelude.{nat_le, nat_lt, codes}
use Rattle.std.specs.Str.{bytes_eq}
use Rattle.std.proofs.lemmas.List.Elements.{All-from_recursion}
use Rattle.std.specs.Result.{IfOk}
use Rattle.std.proofs.lemmas.Bool.Decides.{nat_tests}
use Rattle.std.proofs.lemmas.Bool.{leb-false}
use Rattle.std.proofs.lemmas.Option.{same_Some}
use Rattle.base_lists.proofs.Members.{all_push}
use borrow.Author.Tests.{ltb-false, ltb-true}
use Rattle.proxy_words.specs.Numerals.{numeral}
use Rattle.proxy_words.specs.Times.{time}
use Rattle.proxy_words.specs.Text.{uncommented, words}
use Rattle.proxy_config.specs.declared.faults.FaultCause.{FaultCause}
use Rattle.proxy_config.specs.declared.faults.FaultCause.TheVariants as causes
use Rattle.proxy_config.specs.declared.faults.ConfigFault.{ConfigFault}
use Rattle.proxy_config.specs.declared.faults.ReadError.{ReadError}
use Rattle.proxy_config.specs.declared.parts.Bind.{Bind}
use Rattle.proxy_config.specs.declared.parts.Config.{Config}
use Rattle.proxy_config.specs.declared.draft.Draft.{Draft}
use Rattle.proxy_config.specs.declared.draft.Section.{Section}
use Rattle.proxy_config.specs.declared.draft.Section.TheVariants as sections
use Rattle.proxy_config.specs.declared.keywords.Keyword.{Keyword}
use Rattle.proxy_config.specs.declared.keywords.Keyword.TheVariants as keywords
use Rattle.proxy_config.specs.declared.parts.Address.{Address}
use Rattle.proxy_config.specs.declared.parts.Server.{Server}
use Rattle.proxy_config.specs.declared.settings.Settings.{Settings}
use Rattle.proxy_config.specs.declared.settings.Setting.{Setting}
use Rattle.proxy_config.specs.declared.settings.Setting.TheVariants.{Weight, Maxconn, Maxqueue, Inter, Rise, Fall}
use Rattle.proxy_config.specs.declared.values.Switch.{Switch}
use Rattle.proxy_config.specs.declared.values.Switch.TheVariants as switches
use Rattle.proxy_config.specs.declared.values.Timeout.{Timeout}
use Rattle.proxy_config.specs.declared.values.Timeout.TheVariants as timeouts
use Rattle.proxy_config.specs.declared.values.Values.{Values}
use Rattle.proxy_config.specs.declared.values.Shared.TheVariants as shared
use Rattle.proxy_words.proofs.Limits.{numeral_small, time_small}
use Rattle.proxy_config.specs.declared.values.Shared.{Shared}
use Rattle.proxy_config.specs.Outcomes.{unless}
use Rattle.proxy_config.specs.Pieces.{word_at, end_at, number_in, number_from, time_from}
use Rattle.proxy_words.specs.Names.{is_name}
use Rattle.proxy_config.specs.Addresses.{bind_of, address_of}
use Rattle.proxy_config.specs.Keywords.{keyword_of}
use Rattle.proxy_config.specs.Settings as server
use Rattle.proxy_config.specs.Values as values
use Rattle.proxy_config.specs.Rules.{acl_line, rule_line, server_index}
use Rattle.proxy_config.specs.Resolved.{Resolved, start, resolved_line}
use Rattle.proxy_config.specs.declared.parts.Pin.{Pin}
use Rattle.proxy_config.proofs.Resolving.{pin_line, pinned_line, placed, line_of, line_by, line_stepped}
use Rattle.proxy_config.specs.Draft as draft
use Rattle.proxy_config.specs.File.{FileAnswers, declared_servers, is_line, long_line, reading, whole}
use Rattle.proxy_config.specs.Laws.{TakenIn, Says}
use Rattle.proxy_config.specs.Sound.{IsSoundCheck, IsSoundGuard, IsSoundServer, IsSoundTime, IsSoundConfig}
use Rattle.proxy_config.proofs.Outcomes.{bind_ok, chosen, from_ok, ok_or_ok, unless_ok}
use Rattle.proxy_config.proofs.FirstFaults.{reading-ok}
use Rattle.proxy_config.proofs.GuardRanges.{acls_longer, more_pins, more_rules, pin_sound, rule_sound}
use Rattle.proxy_config.proofs.Surveys.{survey-taken}

-- what a number or a time within ends is
number_in-most : (least most : ℕ) (o : Option ℕ) (n : ℕ) → option_and_then (λ m. cond (nat_lt m least) None (cond (nat_lt most m) None (Some m))) o ≡ Some n
    → n ≤ most
number_in-most least most None n is = absurd (let none = is in cc)
number_in-most least most (Some m) n is = elim (chosen (nat_lt m least) _ _ _ is) [
  | inl small ↦ absurd (let none = small.1 in cc)
  | inr enough ↦ elim (chosen (nat_lt most m) _ _ _ enough.1) [
    | inl large ↦ absurd (let none = large.1 in cc)
    | inr within ↦ let same : m ≡ n = same_Some m n within.1 in let most_is : m ≤ most = ltb-false most m within.0 in omega arith
  ]
]

from-least : (least : ℕ) (o : Option ℕ) (n : ℕ) → option_and_then (λ m. cond (nat_lt m least) None (Some m)) o ≡ Some n → least ≤ n
from-least least None n is = absurd (let none = is in cc)
from-least least (Some m) n is = elim (chosen (nat_lt m least) _ _ _ is) [
  | inl small ↦ absurd (let none = small.1 in cc)
  | inr enough ↦ let same : m ≡ n = same_Some m n enough.1 in let least_is : least ≤ m = ltb-false m least enough.0 in omega arith
]

record SoundSettings (s : Settings) : Type 0 where
  weight : s.weight ≤ 256
  inter : 0 < s.inter
  rise : 0 < s.rise
  fall : 0 < s.fall

set_keeps : (setting : Setting) (word : List ℕ) (s t : Settings) → server.set setting word s ≡ Ok t → SoundSettings s → SoundSettings t
set_keeps Weight word s t is sound =
    let n = bind_ok (ok_or (number_in 0 256 word) causes.Number) _ t is in
    let most : n.0 ≤ 256 = number_in-most 0 256 (numeral 9 word) n.0 (ok_or_ok _ causes.Number n.0 n.1) in
    subst SoundSettings (from_ok _ t n.2) (record { weight = most; inter = sound.inter; rise = sound.rise; fall = sound.fall })
set_keeps Maxconn word s t is sound =
    let n = bind_ok (ok_or (numeral 9 word) causes.Number) _ t is in
    subst SoundSettings (from_ok _ t n.2) (record { weight = sound.weight; inter = sound.inter; rise = sound.rise; fall = sound.fall })
set_keeps Maxqueue word s t is sound =
    let n = bind_ok (ok_or (numeral 9 word) causes.Number) _ t is in
    subst SoundSettings (from_ok _ t n.2) (record { weight = sound.weight; inter = sound.inter; rise = sound.rise; fall = sound.fall })
set_keeps Inter word s t is sound =
    let n = bind_ok (ok_or (time_from 1 word) causes.Number) _ t is in
    let least : 1 ≤ n.0 = from-least 1 (time word) n.0 (ok_or_ok _ causes.Number n.0 n.1) in
    subst SoundSettings (from_ok _ t n.2) (record { weight = sound.weight; inter = least; rise = sound.rise; fall = sound.fall })
set_keeps Rise word s t is sound =
    let n = bind_ok (ok_or (number_from 1 word) causes.Number) _ t is in
    let least : 1 ≤ n.0 = from-least 1 (numeral 9 word) n.0 (ok_or_ok _ causes.Number n.0 n.1) in
    subst SoundSettings (from_ok _ t n.2) (record { weight = sound.weight; inter = sound.inter; rise = least; fall = sound.fall })
set_keeps Fall word s t is sound =
    let n = bind_ok (ok_or (number_from 1 word) causes.Number) _ t is in
    let least : 1 ≤ n.0 = from-least 1 (numeral 9 word) n.0 (ok_or_ok _ causes.Number n.0 n.1) in
    subst SoundSettings (from_ok _ t n.2) (record { weight = sound.weight; inter = sound.inter; rise = sound.rise; fall = least })

with_check : (s : Settings) → SoundSettings s → SoundSettings (record s { check = true })
with_check s sound = record { weight = sound.weight; inter = sound.inter; rise = sound.rise; fall = sound.fall }

settings_keep : (s : Settings) (words : List (List ℕ)) (t : Settings) → server.settings s words ≡ Ok t → SoundSettings s → SoundSettings t
settings_keep s [] t is sound = subst SoundSettings (from_ok s t is) sound
settings_keep s (word ∷ []) t is sound = elim (chosen (server.is_check word) _ _ _ is) [
  | inl check ↦ subst SoundSettings (from_ok _ t check.1) (with_check s sound)
  | inr other ↦ let setting = bind_ok (ok_or (server.setting_of word) causes.Keyword) _ t other.1 in absurd (let none = setting.2 in cc)
]
settings_keep s (word ∷ value ∷ words) t is sound = elim (chosen (server.is_check word) _ _ _ is) [
  | inl check ↦ settings_keep (record s { check = true }) (value ∷ words) t check.1 (with_check s sound)
  | inr other ↦
      let setting = bind_ok (ok_or (server.setting_of word) causes.Keyword) _ t other.1 in
      let next = bind_ok (server.set setting.0 value s) _ t setting.2 in
      settings_keep next.0 words t next.2 (set_keeps setting.0 value s next.0 next.1 sound)
]

checks_sound : (b : Bool) (s : Settings) → SoundSettings s → IfSome (cond b (Some (record { inter = s.inter; rise = s.rise; fall = s.fall })) None) IsSoundCheck
checks_sound true s sound = record { inter = sound.inter; rise = sound.rise; fall = sound.fall }
checks_sound false s sound = tt

server_sound : (name : List ℕ) (address : Address) (s : Settings) → SoundSettings s → IsSoundServer (draft.server_of name address s)
server_sound name address s sound = record { weight = sound.weight; check = checks_sound s.check s sound }

-- what holds of the values of a section
record SoundValues (v : Values) : Type 0 where
  retries : v.retries ≤ 999999999
  queue : v.queue < 2 ^ 62
  connect : v.connect < 2 ^ 62
  client : v.client < 2 ^ 62
  server : v.server < 2 ^ 62

built_in_sound : SoundValues values.built_in
built_in_sound = record { retries = omega arith; queue = omega arith; connect = omega arith; client = omega arith; server = omega arith }

set_sound : (timeout : Timeout) (t : ℕ) (v : Values) → t < 2 ^ 62 → SoundValues v → SoundValues (values.with_timeout timeout t v)
set_sound timeouts.Queue t v small sound = record {
  retries = sound.retries;
  queue = small;
  connect = sound.connect;
  client = sound.client;
  server = sound.server;
}
set_sound timeouts.Connect t v small sound = record {
  retries = sound.retries;
  queue = sound.queue;
  connect = small;
  client = sound.client;
  server = sound.server;
}
set_sound timeouts.Client t v small sound = record {
  retries = sound.retries;
  queue = sound.queue;
  connect = sound.connect;
  client = small;
  server = sound.server;
}
set_sound timeouts.Server t v small sound = record {
  retries = sound.retries;
  queue = sound.queue;
  connect = sound.connect;
  client = sound.client;
  server = small;
}

switched_sound : (switch : Switch) (v : Values) → SoundValues v → SoundValues (values.switched switch v)
switched_sound switches.Redispatch v sound = record {
  retries = sound.retries;
  queue = sound.queue;
  connect = sound.connect;
  client = sound.client;
  server = sound.server;
}
switched_sound switches.Abortonclose v sound = record {
  retries = sound.retries;
  queue = sound.queue;
  connect = sound.connect;
  client = sound.client;
  server = sound.server;
}
switched_sound switches.Unused v sound = sound

fixed_sound : (only : List ℕ) (v w : Values) (words : List (List ℕ)) → values.fixed_line only v words ≡ Ok w → SoundValues v → SoundValues w
unfolding values.fixed_line
fixed_sound only v w words is sound =
    let word = bind_ok (word_at words) _ w is in
    let other = bind_ok (unless (not (bytes_eq word.0.0 only)) causes.Keyword) _ w word.2 in
    let end = bind_ok (end_at word.0.1) _ w other.2 in
    subst SoundValues (from_ok _ w end.2) sound

retries_sound : (v w : Values) (words : List (List ℕ)) → values.retries_line v words ≡ Ok w → SoundValues v → SoundValues w
unfolding values.retries_line
retries_sound v w words is sound =
    let word = bind_ok (word_at words) _ w is in
    let n = bind_ok (ok_or (numeral 9 word.0.0) causes.Number) _ w word.2 in
    let end = bind_ok (end_at word.0.1) _ w n.2 in
    let small : n.0 < 10 ^ 9 = numeral_small 9 word.0.0 n.0 (ok_or_ok _ causes.Number n.0 n.1) in
    subst SoundValues (from_ok _ w end.2) (record {
      retries = omega (arith, small);
      queue = sound.queue;
      connect = sound.connect;
      client = sound.client;
      server = sound.server;
    })

option_sound : (v w : Values) (words : List (List ℕ)) → values.option_line v words ≡ Ok w → SoundValues v → SoundValues w
unfolding values.option_line
option_sound v w words is sound =
    let word = bind_ok (word_at words) _ w is in
    let switch = bind_ok (ok_or (values.switch_of word.0.0) causes.Keyword) _ w word.2 in
    let end = bind_ok (end_at word.0.1) _ w switch.2 in
    subst SoundValues (from_ok _ w end.2) (switched_sound switch.0 v sound)

timeout_line_sound : (v w : Values) (words : List (List ℕ)) → values.timeout_line v words ≡ Ok w → SoundValues v → SoundValues w
unfolding values.timeout_line
timeout_line_sound v w words is sound =
    let first = bind_ok (word_at words) _ w is in
    let timeout = bind_ok (ok_or (values.timeout_of first.0.0) causes.Keyword) _ w first.2 in
    let second = bind_ok (word_at first.0.1) _ w timeout.2 in
    let t = bind_ok (ok_or (time second.0.0) causes.Number) _ w second.2 in
    let end = bind_ok (end_at second.0.1) _ w t.2 in
    let small : t.0 < 2 ^ 57 = time_small second.0.0 t.0 (ok_or_ok _ causes.Number t.0 t.1) in
    subst SoundValues (from_ok _ w end.2) (set_sound timeout.0 t.0 v (omega (arith, small)) sound)

shared_sound : (kind : Shared) (v w : Values) (words : List (List ℕ)) → values.shared_line kind v words ≡ Ok w → SoundValues v → SoundValues w
shared_sound shared.Mode v w words is sound = fixed_sound (codes "http") v w words is sound
shared_sound shared.Balance v w words is sound = fixed_sound (codes "leastconn") v w words is sound
shared_sound shared.Retries v w words is sound = retries_sound v w words is sound
shared_sound shared.Option v w words is sound = option_sound v w words is sound
shared_sound shared.Timeout v w words is sound = timeout_line_sound v w words is sound
shared_sound shared.Note v w words is sound = subst SoundValues (from_ok v w is) sound

-- what holds of each draft behind pins
record SoundDraft (known : List Server) (pins_are : List Pin) (d : Draft) : Type 0 where
  most : length d.servers ≤ 64
  servers : AllByRecursion IsSoundServer d.servers
  rules : length d.rules + length pins_are ≤ 256
  pins : AllByRecursion (λ pin. pin.server < length known) pins_are
  rule_guards : AllByRecursion (λ rule. IfSome rule.guard (IsSoundGuard (length d.acls))) d.rules
  pin_guards : AllByRecursion (λ pin. IsSoundGuard (length d.acls) pin.guard) pins_are
  defaults : SoundValues d.defaults
  values : SoundValues d.values

abbrev SoundResolved : List Server → Resolved → Type 0
SoundResolved known r = SoundDraft known r.pins r.draft

global_keeps : (known : List Server) (ps : List Pin) (d e : Draft) (words : List (List ℕ)) → draft.global_line d words ≡ Ok e → SoundDraft known ps d
    → SoundDraft known ps e
unfolding draft.global_line
global_keeps known ps d e words is sound =
    let end = bind_ok (end_at words) _ e is in
    subst (SoundDraft known ps) (from_ok _ e end.2)
    (record {
      most = sound.most;
      servers = sound.servers;
      rules = sound.rules;
      pins = sound.pins;
      rule_guards = sound.rule_guards;
      pin_guards = sound.pin_guards;
      defaults = sound.defaults;
      values = sound.values;
    })

defaults_keep : (known : List Server) (ps : List Pin) (d e : Draft) (words : List (List ℕ)) → draft.defaults_line d words ≡ Ok e → SoundDraft known ps d
    → SoundDraft known ps e
unfolding draft.defaults_line
defaults_keep known ps d e words is sound =
    let name = bind_ok (draft.optional_name words) _ e is in
    subst (SoundDraft known ps) (from_ok _ e name.2)
    (record {
      most = sound.most;
      servers = sound.servers;
      rules = sound.rules;
      pins = sound.pins;
      rule_guards = sound.rule_guards;
      pin_guards = sound.pin_guards;
      defaults = built_in_sound;
      values = sound.values;
    })

listen_keeps : (known : List Server) (ps : List Pin) (d e : Draft) (n : ℕ) (words : List (List ℕ)) → draft.listen_line d n words ≡ Ok e → SoundDraft known ps d
    → SoundDraft known ps e
unfolding draft.listen_line
listen_keeps known ps d e n words is sound =
    let again = bind_ok (unless (is_some d.listen) causes.Section) _ e is in
    let name = bind_ok (word_at words) _ e again.2 in
    let named = bind_ok (unless (not (is_name name.0.0)) causes.Name) _ e name.2 in
    let end = bind_ok (end_at name.0.1) _ e named.2 in
    subst (SoundDraft known ps) (from_ok _ e end.2)
    (record {
      most = sound.most;
      servers = sound.servers;
      rules = sound.rules;
      pins = sound.pins;
      rule_guards = sound.rule_guards;
      pin_guards = sound.pin_guards;
      defaults = sound.defaults;
      values = sound.defaults;
    })

value_keeps : (known : List Server) (ps : List Pin) (d e : Draft) (kind : Shared) (words : List (List ℕ)) (section : Section) → d.section ≡ section
    → draft.value_line d kind words ≡ Ok e → SoundDraft known ps d → SoundDraft known ps e
unfolding draft.value_line
value_keeps known ps d e kind words sections.Outside at_ is sound = let fault : (let one : Result Draft FaultCause = Err causes.Place in one ≡ Ok e) =
    (rw at_ at is) in
    absurd (let none = fault in cc)
value_keeps known ps d e kind words sections.Global at_ is sound = let fault : (let one : Result Draft FaultCause = Err causes.Place in one ≡ Ok e) =
    (rw at_ at is) in
    absurd (let none = fault in cc)
value_keeps known ps d e kind words sections.Defaults at_ is sound =
    let v = bind_ok (values.shared_line kind d.defaults words) _ e (rw at_ at is) in
    subst (SoundDraft known ps) (from_ok _ e v.2)
    (record {
      most = sound.most;
      servers = sound.servers;
      rules = sound.rules;
      pins = sound.pins;
      rule_guards = sound.rule_guards;
      pin_guards = sound.pin_guards;
      defaults = shared_sound kind d.defaults v.0 words v.1 sound.defaults;
      values = sound.values;
    })
value_keeps known ps d e kind words sections.Listen at_ is sound =
    let v = bind_ok (values.shared_line kind d.values words) _ e (rw at_ at is) in
    subst (SoundDraft known ps) (from_ok _ e v.2)
    (record {
      most = sound.most;
      servers = sound.servers;
      rules = sound.rules;
      pins = sound.pins;
      rule_guards = sound.rule_guards;
      pin_guards = sound.pin_guards;
      defaults = sound.defaults;
      values = shared_sound kind d.values v.0 words v.1 sound.values;
    })

bind_keeps : (known : List Server) (ps : List Pin) (d e : Draft) (words : List (List ℕ)) → draft.bind_line d words ≡ Ok e → SoundDraft known ps d
    → SoundDraft known ps e
unfolding draft.bind_line
bind_keeps known ps d e words is sound =
    let place = bind_ok (unless (not (draft.in_listen d.section)) causes.Place) _ e is in
    let again = bind_ok (unless (is_some d.bind) causes.Twice) _ e place.2 in
    let word = bind_ok (word_at words) _ e again.2 in
    let bind = bind_ok (ok_or (bind_of word.0.0) causes.Address) _ e word.2 in
    let end = bind_ok (end_at word.0.1) _ e bind.2 in
    subst (SoundDraft known ps) (from_ok _ e end.2)
    (record {
      most = sound.most;
      servers = sound.servers;
      rules = sound.rules;
      pins = sound.pins;
      rule_guards = sound.rule_guards;
      pin_guards = sound.pin_guards;
      defaults = sound.defaults;
      values = sound.values;
    })

test_keeps : (known : List Server) (ps : List Pin) (d e : Draft) (words : List (List ℕ)) → draft.test_line d words ≡ Ok e → SoundDraft known ps d
    → SoundDraft known ps e
unfolding draft.test_line
test_keeps known ps d e words is sound =
    let place = bind_ok (unless (not (draft.in_listen d.section)) causes.Place) _ e is in
    let limit = bind_ok (unless (nat_le draft.most_acl_lines d.acl_lines) causes.Limit) _ e place.2 in
    let acls = bind_ok (acl_line d.acls words) _ e limit.2 in
    let longer : length d.acls ≤ length acls.0 = acls_longer d.acls acls.0 words acls.1 in
    subst (SoundDraft known ps) (from_ok _ e acls.2) (record {
      most = sound.most;
      servers = sound.servers;
      rules = sound.rules;
      pins = sound.pins;
      rule_guards = more_rules (length d.acls) (length acls.0) longer d.rules sound.rule_guards;
      pin_guards = more_pins (length d.acls) (length acls.0) longer ps sound.pin_guards;
      defaults = sound.defaults;
      values = sound.values;
    })

request_keeps : (known : List Server) (ps : List Pin) (d e : Draft) (words : List (List ℕ)) → draft.request_line (length ps) d words ≡ Ok e
    → SoundDraft known ps d → SoundDraft known ps e
unfolding draft.request_line
request_keeps known ps d e words is sound =
    let place = bind_ok (unless (not (draft.in_listen d.section)) causes.Place) _ e is in
    let limit = bind_ok (draft.has_rule_room (length ps) d) _ e place.2 in
    let rule = bind_ok (rule_line d.acls words) _ e limit.2 in
    let room : length d.rules + length ps < 256 = leb-false 256 _ (unless_ok _ causes.Limit limit.0 limit.1) in
    subst (SoundDraft known ps) (from_ok _ e rule.2) (record {
      most = sound.most;
      servers = sound.servers;
      rules = omega (arith, length-append d.rules (rule.0 ∷ []));
      pins = sound.pins;
      rule_guards = all_push (λ rule. IfSome rule.guard (IsSoundGuard (length d.acls))) d.rules rule.0 sound.rule_guards
          (rule_sound d.acls words rule.0 rule.1);
      pin_guards = sound.pin_guards;
      defaults = sound.defaults;
      values = sound.values;
    })

use_keeps : (known : List Server) (r e : Resolved) (words : List (List ℕ)) → pinned_line known r words ≡ Ok e → SoundResolved known r → SoundResolved known e
unfolding pinned_line
use_keeps known r e words is sound =
    let d = r.draft in
    let ps = r.pins in
    let place = bind_ok (unless (not (draft.in_listen d.section)) causes.Place) _ e is in
    let limit = bind_ok (draft.has_rule_room (length ps) d) _ e place.2 in
    let pin = bind_ok (pin_line known d.acls words) _ e limit.2 in
    let room : length d.rules + length ps < 256 = leb-false 256 _ (unless_ok _ causes.Limit limit.0 limit.1) in
    let one = pin_sound known d.acls words pin.0 pin.1 in
    subst (SoundResolved known) (from_ok _ e pin.2) (record {
      most = sound.most;
      servers = sound.servers;
      rules = omega (arith, length-append ps (pin.0 ∷ []));
      pins = all_push (λ pin. pin.server < length known) ps pin.0 sound.pins one.0;
      rule_guards = sound.rule_guards;
      pin_guards = all_push (λ pin. IsSoundGuard (length d.acls) pin.guard) ps pin.0 sound.pin_guards one.1;
      defaults = sound.defaults;
      values = sound.values;
    })

server_keeps : (known : List Server) (ps : List Pin) (d e : Draft) (words : List (List ℕ)) → draft.server_line d words ≡ Ok e → SoundDraft known ps d
    → SoundDraft known ps e
unfolding draft.server_line
server_keeps known ps d e words is sound =
    let place = bind_ok (unless (not (draft.in_listen d.section)) causes.Place) _ e is in
    let limit = bind_ok (unless (nat_le draft.most_servers (length d.servers)) causes.Limit) _ e place.2 in
    let name = bind_ok (word_at words) _ e limit.2 in
    let named = bind_ok (unless (not (is_name name.0.0)) causes.Name) _ e name.2 in
    let again = bind_ok (unless (is_some (server_index name.0.0 d.servers)) causes.Twice) _ e named.2 in
    let second = bind_ok (word_at name.0.1) _ e again.2 in
    let address = bind_ok (ok_or (address_of second.0.0) causes.Address) _ e second.2 in
    let s = bind_ok (server.settings server.built_in second.0.1) _ e address.2 in
    let room : length d.servers < 64 = leb-false 64 _ (unless_ok _ causes.Limit limit.0 limit.1) in
    let built_in : SoundSettings server.built_in = record { weight = omega arith; inter = omega arith; rise = omega arith; fall = omega arith } in
    let one : IsSoundServer (draft.server_of name.0.0 address.0 s.0) =
    server_sound name.0.0 address.0 s.0 (settings_keep server.built_in second.0.1 s.0 s.1 built_in) in
    subst (SoundDraft known ps) (from_ok _ e s.2) (record {
      most = omega (arith, length-append d.servers (draft.server_of name.0.0 address.0 s.0 ∷ []));
      servers = all_push IsSoundServer d.servers (draft.server_of name.0.0 address.0 s.0) sound.servers one;
      rules = sound.rules;
      pins = sound.pins;
      rule_guards = sound.rule_guards;
      pin_guards = sound.pin_guards;
      defaults = sound.defaults;
      values = sound.values;
    })

placed_keeps : (known : List Server) (r e : Resolved) (read : Result Draft FaultCause) → placed r.pins read ≡ Ok e
    → ((d : Draft) → read ≡ Ok d → SoundDraft known r.pins d) → SoundResolved known e
placed_keeps known r e read is keeps = let it = bind_ok read _ e is in subst (SoundResolved known) (from_ok _ e it.2) (keeps it.0 it.1)

line_keeps : (known : List Server) (r e : Resolved) (n : ℕ) (keyword : Keyword) (words : List (List ℕ)) → line_of known r n keyword words ≡ Ok e
    → SoundResolved known r → SoundResolved known e
line_keeps known r e n keywords.Global words is sound =
    placed_keeps known r e _ is (λ d read. global_keeps known r.pins r.draft d words read sound)
line_keeps known r e n keywords.Defaults words is sound =
    placed_keeps known r e _ is (λ d read. defaults_keep known r.pins r.draft d words read sound)
line_keeps known r e n keywords.Listen words is sound =
    placed_keeps known r e _ is (λ d read. listen_keeps known r.pins r.draft d n words read sound)
line_keeps known r e n keywords.Refused words is sound = absurd (let none = is in cc)
line_keeps known r e n (keywords.Shared kind) words is sound =
    placed_keeps known r e _ is (λ d read. value_keeps known r.pins r.draft d kind words r.draft.section refl read sound)
line_keeps known r e n keywords.Bind words is sound = placed_keeps known r e _ is (λ d read. bind_keeps known r.pins r.draft d words read sound)
line_keeps known r e n keywords.Server words is sound = placed_keeps known r e _ is (λ d read. server_keeps known r.pins r.draft d words read sound)
line_keeps known r e n keywords.Acl words is sound = placed_keeps known r e _ is (λ d read. test_keeps known r.pins r.draft d words read sound)
line_keeps known r e n keywords.HttpRequest words is sound =
    placed_keeps known r e _ is (λ d read. request_keeps known r.pins r.draft d words read sound)
line_keeps known r e n keywords.UseServer words is sound = use_keeps known r e words is sound

words_keep : (known : List Server) (r e : Resolved) (n : ℕ) (words : List (List ℕ)) → line_by known r n words ≡ Ok e → SoundResolved known r
    → SoundResolved known e
words_keep known r e n [] is sound = subst (SoundResolved known) (from_ok r e is) sound
words_keep known r e n (word ∷ words) is sound =
    let keyword = bind_ok (ok_or (keyword_of word) causes.Keyword) _ e is in
    line_keeps known r e n keyword.0 words keyword.2 sound

step_keeps : (known : List Server) (too_long : Bool) (r e : Resolved) (n : ℕ) (line : List ℕ) → resolved_line known too_long r n line ≡ Ok e
    → SoundResolved known r → SoundResolved known e
step_keeps known too_long r e n line is sound =
    elim (chosen (draft.is_ignored r.draft.section (words (uncommented line))) _ _ _ (sym (line_stepped known too_long r n line) ∙ is)) [
      | inl ignored ↦ let short = bind_ok (unless too_long causes.Limit) _ e ignored.1 in subst (SoundResolved known) (from_ok r e short.2) sound
      | inr heeded ↦
          let plain = bind_ok (unless (list_any draft.is_quoting (uncommented line)) causes.Quoting) _ e heeded.1 in
          let short = bind_ok (unless too_long causes.Limit) _ e plain.2 in
          words_keep known r e n (words (uncommented line)) short.2 sound
    ]

taken_keep : (known : List Server) (long : Option ℕ) (r e : Resolved) (n : ℕ) (lines : List (List ℕ)) → TakenIn known long r n lines e
    → SoundResolved known r → SoundResolved known e
taken_keep known long r e n [] taken sound = subst (SoundResolved known) (sym taken) sound
taken_keep known long r e n (line ∷ lines) taken sound =
    taken_keep known long taken.0 e (n + 1) lines taken.2 (step_keeps known (is_line long n) r taken.0 n line taken.1 sound)

time_sound : (t : ℕ) → t < 2 ^ 62 → IfSome (values.set_time t) IsSoundTime
time_sound t small = by_test (nat_lt 0 t) refl
  where
    by_test : (b : Bool) → nat_lt 0 t ≡ b → IfSome (cond b (Some t) None) IsSoundTime
    by_test true above = record { some = ltb-true 0 t above; within = small }
    by_test false above = tt

timeout_sound : (v : Values) → SoundValues v → IfSome (values.queue_timeout v) IsSoundTime
timeout_sound v sound = of_queue (nat_lt 0 v.queue) refl
  where
    of_queue : (b : Bool) → nat_lt 0 v.queue ≡ b → IfSome (cond b (Some v.queue) (values.set_time v.connect)) IsSoundTime
    of_queue true above = record { some = ltb-true 0 v.queue above; within = sound.queue }
    of_queue false above = time_sound v.connect sound.connect

whole_sound : (listen : Option ℕ) (bind : Option Bind) (r : Resolved) (config : Config) → whole listen bind r ≡ Ok config
    → SoundResolved r.draft.servers r
    → IsSoundConfig config
whole_sound None bind r config is sound = absurd (let none = is in cc)
whole_sound (Some line) None r config is sound = absurd (let none = is in cc)
whole_sound (Some line) (Some bind) r config is sound = elim (chosen (length r.draft.servers == 0) _ _ _ is) [
  | inl none ↦ absurd (let fault = none.1 in cc)
  | inr some ↦
      let filled : 0 < length r.draft.servers = above_zero (length r.draft.servers) some.0 in
      subst IsSoundConfig (config_same _ config some.1) (record {
        some = filled;
        most = sound.most;
        servers = All-from_recursion IsSoundServer r.draft.servers sound.servers;
        rules = sound.rules;
        pins = All-from_recursion (λ pin. pin.server < length r.draft.servers) r.pins sound.pins;
        rule_guards = All-from_recursion (λ rule. IfSome rule.guard (IsSoundGuard (length r.draft.acls))) r.draft.rules sound.rule_guards;
        pin_guards = All-from_recursion (λ pin. IsSoundGuard (length r.draft.acls) pin.guard) r.pins sound.pin_guards;
        retries = sound.values.retries;
        queue_timeout = timeout_sound r.draft.values sound.values;
        connect_timeout = time_sound r.draft.values.connect sound.values.connect;
        client_timeout = time_sound r.draft.values.client sound.values.client;
        server_timeout = time_sound r.draft.values.server sound.values.server;
      })
]
  where
    above_zero : (n : ℕ) → (n == 0) ≡ false → 0 < n
    above_zero n other = grind (arith, nat_tests)

    config_same : (x y : Config) → (let one : Result Config ConfigFault = Ok x in one ≡ Ok y) → x ≡ y
    config_same x y same = cc

-- what is accepted is sound
pub says-sound : (bytes : List ℕ) (config : Config) → Says bytes config → IsSoundConfig config
says-sound bytes config says =
    let known = declared_servers bytes in
    let begun : SoundResolved known start = record {
      most = omega arith;
      servers = tt;
      rules = omega arith;
      pins = tt;
      rule_guards = tt;
      pin_guards = tt;
      defaults = built_in_sound;
      values = built_in_sound;
    } in
    let same : known ≡ says.read.draft.servers = survey-taken known (long_line bytes) start says.read 1 (lines bytes) says.taken_in in
    whole_sound says.read.draft.listen says.read.draft.bind says.read config says.whole
    (subst (λ (servers : List Server). SoundResolved servers says.read) same
    (taken_keep known (long_line bytes) start says.read 1 (lines bytes) says.taken_in begun))

pub answers-sound : (result : Result Config ReadError) (bytes : List ℕ) → FileAnswers result (reading bytes) → IfOk result IsSoundConfig
answers-sound (Ok config) bytes is = says-sound bytes config (reading-ok bytes config is)
answers-sound (Err e) bytes is = tt
