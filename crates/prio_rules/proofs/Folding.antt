-- A part of a folded text is the folded part.
use Rattle.std.proofs.Common.{◌≡◌, ◌∙◌, ℕ, ◌-◌, ◌==◌, Bool, true, false, List, length, take, drop, refl, sym, ap}
use Rattle.std.specs.Char.{to_ascii_lowercase}
use Rattle.std.specs.List.{ends_with}
use Rattle.std.specs.Str.{bytes_eq}
use Rattle.std.proofs.lemmas.List.{take-map, drop-map, length-map}
use Rattle.req_view.specs.Target.{begins}
use Rattle.prio_rules.specs.Truth.{folded}

folded-take : (ignore_case : Bool) (n : ℕ) (text : List ℕ) → folded ignore_case (take n text) ≡ take n (folded ignore_case text)
folded-take true n text = sym (take-map to_ascii_lowercase n text)
folded-take false n text = refl

folded-drop : (ignore_case : Bool) (n : ℕ) (text : List ℕ) → folded ignore_case (drop n text) ≡ drop n (folded ignore_case text)
folded-drop true n text = sym (drop-map to_ascii_lowercase n text)
folded-drop false n text = refl

length-folded : (ignore_case : Bool) (text : List ℕ) → length (folded ignore_case text) ≡ length text
length-folded true text = length-map text to_ascii_lowercase
length-folded false text = refl

pub begins-front : (ignore_case : Bool) (value text front : List ℕ) → front ≡ take (length value) text
    → bytes_eq (folded ignore_case value) (folded ignore_case front) ≡ begins (folded ignore_case value) (folded ignore_case text)
begins-front ignore_case value text front is =
    ap (bytes_eq (folded ignore_case value))
    (ap (folded ignore_case) is ∙ folded-take ignore_case (length value) text
    ∙ ap (λ n. take n (folded ignore_case text)) (sym (length-folded ignore_case value)))

pub ends-end : (ignore_case : Bool) (value text end : List ℕ) → end ≡ drop (length text - length value) text
    → bytes_eq (folded ignore_case value) (folded ignore_case end) ≡ ends_with (λ a b. a == b) (folded ignore_case text) (folded ignore_case value)
ends-end ignore_case value text end is =
    ap (bytes_eq (folded ignore_case value))
    (ap (folded ignore_case) is ∙ folded-drop ignore_case (length text - length value) text
    ∙ (λ i. drop (sym (length-folded ignore_case text) i - sym (length-folded ignore_case value) i) (folded ignore_case text)))
