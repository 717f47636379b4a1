use Rattle.std.proofs.Common.{◌≡◌, ◌++◌, Ok}
use Rattle.proxy_config.specs.Progress.{with_pins}
use Rattle.proxy_config.proofs.wishes.pins_of.Given as goal

-- all wishes come to the pins so far and those of the wishes that are left
abbrev pub invariant-wishes : goal.invariant-wishes
invariant-wishes l = with_pins l.servers l.fn.wishes Ok ≡ with_pins l.servers l.wish-iterator.rest.items (λ more. Ok (l.pins ++ more))
