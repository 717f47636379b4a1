use Rattle.std.proofs.Common.{◌++◌, ◌<◌, ◌∙◌, ap, false, get_or, length, string_bytes}
use Rattle.log_entries.specs.declared.allowance.Intake.TheVariants.{Open}
use Rattle.run_control.specs.declared.state.ServerState.{ServerState}
use Rattle.run_control.specs.States.{server_text}
use Rattle.run_control.proofs.Lines.{one_line_more}
use Rattle.run_control.proofs.state.push_servers.Goals as goal

pub loop-number-preserved : goal.loop-number-preserved
loop-number-preserved c =
    let lines = c.args.servers.now in
    let number = c.loop-number.number in
    let d : ServerState = record { up = false; intake = Open 0; served = 0; waiting = 0 } in
    let more : number < length lines = search in
    let pushed = c.in_ok-push_server.ensures ∙ ap (λ name. string_bytes c.loop-number.text ++ server_text name (get_or lines number d)) c.of.ensures in
    one_line_more c.args.names.now lines number d (string_bytes c.args.text.now) (string_bytes c.loop-number.text) (string_bytes c.push_server.new.text)
    more c.loop-number.invariant pushed
