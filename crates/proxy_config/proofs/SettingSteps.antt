-- One step of the loop over a server's settings.
use Rattle.std.proofs.Common.{◌≡◌, ℕ, true, false, List, [], ◌∷◌, Some, Ok, refl}
use Rattle.proxy_config.specs.declared.settings.Settings.{Settings}
use Rattle.proxy_config.specs.declared.settings.Setting.{Setting}
use Rattle.proxy_config.specs.Settings.{is_check, set, setting_of, settings}

pub settings-check : (s : Settings) (word : List ℕ) (words : List (List ℕ)) → is_check word ≡ true
    → settings s (word ∷ words) ≡ settings (record s { check = true }) words
settings-check s word [] check = rw check refl
settings-check s word (value ∷ words) check = rw check refl

pub settings-value : (s next : Settings) (setting : Setting) (word value : List ℕ) (words : List (List ℕ)) → is_check word ≡ false
    → setting_of word ≡ Some setting → set setting value s ≡ Ok next → settings s (word ∷ value ∷ words) ≡ settings next words
settings-value s next setting word value words check of done = rw (check, of, done) refl
