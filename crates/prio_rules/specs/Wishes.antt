-- What the rules of a configuration wish for a request. Each rule is applied to the request as it came.
use Rattle.std.specs.Prelude.{ℕ, ℤ, pos, Bool, true, false, ◌&&◌, if◌then◌else◌, List, Option, Some, None, option_map, unwrap_or}
use Rattle.std.specs.Option.{option_and_then}
use Rattle.std.specs.List.{filter_map, find, last_or}
use Rattle.due_key.specs.Range.{nearest}
use Rattle.due_key.specs.declared.class.TheConstants.{LOWEST_CLASS, HIGHEST_CLASS}
use Rattle.due_key.specs.declared.offset.TheConstants.{LOWEST_OFFSET, HIGHEST_OFFSET}
use Rattle.proxy_config.specs.declared.parts.Acl.{Acl}
use Rattle.proxy_config.specs.declared.parts.Action.{Action}
use Rattle.proxy_config.specs.declared.parts.Action.TheVariants.{SetPriorityClass, SetPriorityOffset}
use Rattle.proxy_config.specs.declared.parts.Config.{Config}
use Rattle.proxy_config.specs.declared.parts.Expression.{Expression}
use Rattle.proxy_config.specs.declared.parts.Expression.TheVariants.{Int, HeaderValue}
use Rattle.proxy_config.specs.declared.parts.Rule.{Rule}
use Rattle.proxy_words.specs.Numerals.{signed_numeral}
use Rattle.req_view.specs.Request.{Request}
use Rattle.prio_rules.specs.FieldValues.{field_values}
use Rattle.prio_rules.specs.Truth.{applies, guard_holds}
use Rattle.prio_rules.specs.declared.wish.Wish.{Wish}

-- the last of a field's values
abbrev pub last_value : List ℕ → Request → Option (List ℕ)
last_value name request = last_or None (field_values name request)

-- an integer, or the last value of a field where that is a number of at most 18 digits
abbrev pub asked_number : Request → Expression → Option ℤ
asked_number request (Int number) = Some number
asked_number request (HeaderValue name) = option_and_then (signed_numeral 18) (last_value name request)

abbrev pub is_same : Action → Action → Bool
is_same SetPriorityClass SetPriorityClass = true
is_same SetPriorityClass SetPriorityOffset = false
is_same SetPriorityOffset SetPriorityClass = false
is_same SetPriorityOffset SetPriorityOffset = true

-- the number that a rule sets, if its action is this one and takes effect: the rule applies, and there is a number
abbrev pub set_by : Action → List Acl → Request → Rule → Option ℤ
set_by action acls request rule = if is_same rule.action action && applies acls request rule.guard then asked_number request rule.value else None

-- the number of the last action of a kind that takes effect, and 0 where none does
abbrev pub standing : Action → Config → Request → ℤ
standing action config request = unwrap_or (last_or None (filter_map (set_by action config.acls request) config.rules)) (pos 0)

-- the server of the first `use-server` rule that applies
abbrev pub pinned : Config → Request → Option ℕ
pinned config request = option_map (λ pin. pin.server) (find (λ pin. guard_holds config.acls request pin.guard) config.pins)

-- a class and an offset out of range become the nearer end of the range
abbrev pub wish : Config → Request → Wish
wish config request = record {
  class = nearest LOWEST_CLASS HIGHEST_CLASS (standing SetPriorityClass config request);
  offset = nearest LOWEST_OFFSET HIGHEST_OFFSET (standing SetPriorityOffset config request);
  pin = pinned config request;
}
