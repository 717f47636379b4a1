use Rattle.std.proofs.Common.{◌≡◌, length}
use Rattle.proxy_config.specs.Settings.{settings}
use Rattle.proxy_config.proofs.settings.settings_to_end.Given as goal

-- what is left sets from here on what all words set from the start
abbrev pub invariant-settings : goal.invariant-settings
invariant-settings l = settings l.so_far l.words ≡ settings l.fn.start l.fn.words

abbrev pub decreases-settings : goal.decreases-settings
decreases-settings l = length l.words
