use Rattle.std.proofs.Common.{◌≡◌, [], ap, sym, subst, ◌∙◌, string_bytes, arith}
use Rattle.std.specs.Str.Lines.{lines}
use Rattle.log_entries.specs.declared.setup.Setup.{Setup}
use Rattle.log_entries.specs.Histories.{History, first_window}
use Rattle.log_texts.specs.Headers.{Settings, settings_of}
use Rattle.log_texts.specs.Steps.{steps_of}
use Rattle.log_texts.specs.ScriptTexts.{IsScriptText}
use Rattle.log_texts.proofs.Bodies.{settings_whole}
use Rattle.replay.specs.Defaults.{names_of, opening}
use Rattle.std.proofs.lemmas.Grind.{common_steps}
use Rattle.replay.proofs.events.replay_events.Goals as goal

-- what the header lines say is what all lines do
pub returns-in-Ok-run-clause-ok : goal.returns-in-Ok-run-clause-ok
returns-in-Ok-run-clause-ok g c =
    let whole : c.in_ok-header.header ≡ settings_of (lines c.args.script.now) =
    c.in_ok-header.ensures.settings
    ∙ sym (settings_whole (lines c.args.script.now) c.in_ok-header.before c.in_ok-header.ensures.header c.in-Ok-run.ensures.faultless) in
    record {
      faultless = c.in_ok-header.ensures.short ∙ c.in-Ok-run.ensures.faultless;
      named = c.in-Ok.ensures.names ∙ ap names_of whole;
      answered = subst
          (λ (settings : Settings). IsScriptText c.in-Ok.names (opening settings) (steps_of c.args.script.now) c.run.new.core (string_bytes c.in-Ok-run.text))
          whole
          (subst (λ (history : History). IsScriptText c.in-Ok.names history (steps_of c.args.script.now) c.run.new.core (string_bytes c.in-Ok-run.text))
          (c.in-Ok-new.ensures ∙ ap (λ (setup : Setup). first_window setup []) c.in-Ok.ensures.setup) c.in-Ok-run.ensures.ok);
    }

pub run-requires : goal.run-requires
run-requires g c = grind (arith, common_steps)
