use Rattle.std.proofs.Common.{◌++◌, ◌<◌, ◌∙◌, ap, false, get_or, length, string_bytes}
use Rattle.dispatch_reports.specs.declared.lines.ServerLine.{ServerLine}
use Rattle.run_windows.specs.Texts.{server_text}
use Rattle.run_windows.proofs.Lines.{one_line_more}
use Rattle.run_windows.proofs.text.push_servers.Goals as goal

pub loop-number-preserved : goal.loop-number-preserved
loop-number-preserved c =
    let lines = c.args.lines.now in
    let number = c.loop-number.number in
    let d : ServerLine = record { up = false; direct = 0; granted = 0 } in
    let more : number < length lines = search in
    let pushed = c.in_ok-push_server.ensures ∙ ap (λ name. string_bytes c.loop-number.text ++ server_text name (get_or lines number d)) c.of.ensures in
    one_line_more c.args.names.now lines number d (string_bytes c.args.text.now) (string_bytes c.loop-number.text) (string_bytes c.push_server.new.text)
    more c.loop-number.invariant pushed
