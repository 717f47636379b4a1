-- What a row keeps when its phase changes.
use Rattle.std.proofs.Common.{◌≡◌, ℕ, ◌==◌, Bool, true, false, cond, [], ◌∷◌, Option, None, Some, option_map, refl, ap, sym, ◌∙◌}
use Rattle.std.specs.Option.{option_map_or, option_and_then}
use Rattle.log_entries.specs.declared.row.Phase.{Phase}
use Rattle.log_entries.specs.declared.row.Row.{Row}
use Rattle.log_entries.specs.Rows.{Rows, changed, in_phase, row_of, pin_of, failures_of}

-- what doesn't look at the phase of a ticket's row stays, whoever's phase changes
kept : {X : Type 0} (look : Row → X) → ((r : Row) (phase : Phase) → look (record r { phase = phase }) ≡ look r)
    → (l u : ℕ) (phase : Phase) (rows : Rows) → option_map look (row_of l (changed u (in_phase phase) rows)) ≡ option_map look (row_of l rows)
kept look same l u phase [] = refl
kept look same l u phase (None ∷ rows) = kept look same l u phase rows
kept {X} look same l u phase (Some r ∷ rows) = by_change (r.key.ticket == u) (kept look same l u phase rows)
  where
    by_own : (own : Bool) (new : Row) → look new ≡ look r → option_map look (row_of l (changed u (in_phase phase) rows)) ≡ option_map look
        (row_of l rows)
        → option_map look (cond {A = Option Row} own (Some new) (row_of l (changed u (in_phase phase) rows))) ≡ option_map look
        (cond {A = Option Row} own (Some r) (row_of l rows))
    by_own true new e rest = ap Some e
    by_own false new e rest = rest

    by_change : (b : Bool) → option_map look (row_of l (changed u (in_phase phase) rows)) ≡ option_map look (row_of l rows)
        → option_map look (row_of l (cond {A = Option Row} b (Some (record r { phase = phase })) (Some r) ∷ changed u (in_phase phase) rows))
        ≡ option_map look (cond {A = Option Row} (r.key.ticket == l) (Some r) (row_of l rows))
    by_change true rest = by_own (r.key.ticket == l) (record r { phase = phase }) (same r phase) rest
    by_change false rest = by_own (r.key.ticket == l) r refl rest

pub failures_stay : (l u : ℕ) (phase : Phase) (rows : Rows) → failures_of l (changed u (in_phase phase) rows) ≡ failures_of l rows
failures_stay l u phase rows =
    as_map (row_of l (changed u (in_phase phase) rows))
    ∙ ap (λ (o : Option ℕ). option_map_or (λ n. n) o 0) (kept (λ (r : Row). r.failures) (λ r p. refl) l u phase rows) ∙ sym (as_map (row_of l rows))
  where
    as_map : (o : Option Row) → option_map_or (λ (r : Row). r.failures) o 0 ≡ option_map_or (λ n. n) (option_map (λ (r : Row). r.failures) o) 0
    as_map None = refl
    as_map (Some r) = refl

pub pins_stay : (l u : ℕ) (phase : Phase) (rows : Rows) → pin_of l (changed u (in_phase phase) rows) ≡ pin_of l rows
pins_stay l u phase rows =
    as_map (row_of l (changed u (in_phase phase) rows))
    ∙ ap (option_and_then (λ (p : Option ℕ). p)) (kept (λ (r : Row). r.pin) (λ r p. refl) l u phase rows) ∙ sym (as_map (row_of l rows))
  where
    as_map : (o : Option Row) → option_and_then (λ (r : Row). r.pin) o ≡ option_and_then (λ (p : Option ℕ). p) (option_map (λ (r : Row). r.pin) o)
    as_map None = refl
    as_map (Some r) = refl
