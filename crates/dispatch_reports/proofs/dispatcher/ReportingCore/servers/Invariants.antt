use Rattle.std.proofs.Common.{◌≡◌, ℕ, length, slice_get, Some}
use Rattle.dispatch_reports.specs.Lines.{server_line_of}
use Rattle.dispatch_reports.specs.declared.lines.ServerLine.{ServerLine}
use Rattle.dispatch_reports.proofs.dispatcher.ReportingCore.servers.Given as goal

abbrev pub invariant-loop-server : goal.invariant-loop-server
invariant-loop-server g l = record {
  each : length l.lines.items ≡ l.server;
  line : (server : ℕ) (line : ServerLine) → slice_get l.lines.items server ≡ Some line → line ≡ server_line_of l.self server;
}
