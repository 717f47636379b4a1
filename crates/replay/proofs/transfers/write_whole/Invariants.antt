use Rattle.std.proofs.Common.{◌≡◌, ◌≤◌, length, take}
use Rattle.std.specs.Io.KnownBytes.{Appends}
use Rattle.replay.proofs.transfers.write_whole.Given as goal

-- each write took a byte at least, and the bytes so far are written
abbrev pub invariant-writing : goal.invariant-writing
invariant-writing g l = record {
  counted : l.turn ≤ l.at;
  within : l.at ≤ length l.text;
  written : Appends (g.K.Sink.stream l.initial.sink).bytes (g.K.Sink.stream l.sink).bytes (take l.at l.text);
  same : (g.K.Sink.stream l.sink).name ≡ (g.K.Sink.stream l.initial.sink).name;
  calls : (g.K.Sink.stream l.sink).calls ≡ l.turn;
  failures : (g.K.Sink.stream l.sink).failures ≡ (g.K.Sink.stream l.initial.sink).failures;
}
