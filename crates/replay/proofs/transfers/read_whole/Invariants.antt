use Rattle.std.proofs.Common.{◌≡◌, ◌≤◌, false, vec_len}
use Rattle.std.specs.Io.KnownBytes.{Consumes}
use Rattle.log_texts.specs.declared.header.TheConstants.{MOST_BYTES}
use Rattle.replay.proofs.transfers.read_whole.Given as goal

-- each read gave a byte at least, and all that was read is there
abbrev pub invariant-reading : goal.invariant-reading
invariant-reading g l = record {
  counted : l.turn ≤ vec_len l.all;
  short : vec_len l.all ≤ MOST_BYTES;
  consumed : Consumes (g.S.Source.stream l.initial.source).bytes (g.S.Source.stream l.source).bytes l.all.items;
  same : (g.S.Source.stream l.source).name ≡ (g.S.Source.stream l.initial.source).name;
  calls : (g.S.Source.stream l.source).calls ≡ l.turn;
  goes_on : l.reads.ended ≡ false;
  failures : (g.S.Source.stream l.source).failures ≡ (g.S.Source.stream l.initial.source).failures;
}
