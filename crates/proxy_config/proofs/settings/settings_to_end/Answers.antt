use Rattle.std.proofs.Common.{◌∙◌, sym}
use Rattle.proxy_config.proofs.SettingSteps.{settings-check, settings-value}
use Rattle.proxy_config.proofs.settings.settings_to_end.Goals as goal

pub settings-preserved-then-is : goal.settings-preserved-then-is
settings-preserved-then-is c =
    sym (settings-check c.settings.so_far c.in-Some.first.now c.next.new.self (sym c.is.ensures ∙ c.if-is.true))
    ∙ (rw c.in-Some.ensures.steps at c.settings.invariant)

pub settings-preserved : goal.settings-preserved
settings-preserved c =
    let words = rw c.in_ok-value.ensures.ok_part at c.next-in-Some.ensures.steps in
    sym (settings-value c.settings.so_far c.in_ok-so_far.so_far c.in_ok-setting.setting c.in-Some.first.now c.in_ok-value.value.now c.next-in-Some.new.self
    (sym c.is.ensures ∙ c.if-is.false) (sym c.setting_of.ensures ∙ c.in_ok-setting.ensures.ok_part) c.in_ok-so_far.ensures)
    ∙ (rw (c.in-Some.ensures.steps, words) at c.settings.invariant)
