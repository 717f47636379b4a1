use Rattle.std.proofs.Common.{◌<◌, ◌≤◌, ◌*◌, ℕ, length}
use Rattle.exchange_machine.specs.Histories.{ExchangeHistory}
use Rattle.exchange_events.specs.Steps.{IsAtItsStage}
use Rattle.exchange_events.specs.declared.exchange.Outcome.TheVariants.{Quiet}
use Rattle.exchange_driver.specs.Drives.{Drives}
use Rattle.exchange_driver.specs.Moves.{IsDriven}
use Rattle.exchange_driver.specs.Wires.{IsAsAnswered}
use Rattle.exchange_driver.proofs.driving.drive_on.Given as goal

-- what was driven so far
abbrev pub invariant-loop-turn : goal.invariant-loop-turn
invariant-loop-turn g l = record {
  at : (h : ExchangeHistory) → IsAtItsStage l.initial.exchange h → Drives l.initial.client l.client l.initial.server l.server l.moves.client l.moves.server h l.exchange Quiet;
  driven : (count : ℕ) × IsDriven count l.settings.rules.aborts l.initial.client.answers l.client.answers l.initial.server.answers l.server.answers l.initial.exchange Quiet l.exchange
      × (count ≤ 2 * l._turn) × (l._turn ≤ count);
  client : IsAsAnswered l.initial.client l.client;
  server : IsAsAnswered l.initial.server l.server;
  buffer : 0 < length l.buffer;
}
