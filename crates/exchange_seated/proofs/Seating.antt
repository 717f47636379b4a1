-- An exchange holds one pass at most.
use Rattle.std.proofs.Common.{◌≡◌, ◌≤◌, List, [], ◌++◌, length, sym, subst, arith}
use Rattle.grant_board.specs.Views.{Grant}
use Rattle.exchange_events.specs.Passes.{held_by}
use Rattle.exchange_events.specs.declared.exchange.Exchange.{Exchange}
use Rattle.exchange_events.specs.declared.exchange.Exchange.TheVariants.{Asking, Waiting, Dialing, Forwarding, Settling, Leaving, Telling, Over}

held_few : (x : Exchange) → length (held_by x ++ []) ≤ 1
held_few (Asking a) = omega arith
held_few (Waiting w) = omega arith
held_few (Dialing d) = omega arith
held_few (Forwarding p) = omega arith
held_few (Settling s) = omega arith
held_few (Leaving l) = omega arith
held_few (Telling t) = omega arith
held_few Over = omega arith

pub gone_few : (x : Exchange) (came gone : List Grant) → held_by x ++ came ≡ gone → came ≡ [] → length gone ≤ 1
gone_few x came gone is none = subst (λ (l : List Grant). length l ≤ 1) is (subst (λ (l : List Grant). length (held_by x ++ l) ≤ 1) (sym none) (held_few x))

pub held_one : (x : Exchange) → length (held_by x) ≤ 1
held_one (Asking a) = omega arith
held_one (Waiting w) = omega arith
held_one (Dialing d) = omega arith
held_one (Forwarding p) = omega arith
held_one (Settling s) = omega arith
held_one (Leaving l) = omega arith
held_one (Telling t) = omega arith
held_one Over = omega arith
