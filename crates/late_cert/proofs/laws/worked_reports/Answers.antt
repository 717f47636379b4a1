use Rattle.std.proofs.Common.{◌≡◌, ℕ, List, [], ◌∷◌, pos, negsuc, slice_get, refl, ap, arith}
use Rattle.std.specs.Option.{option_map_or}
use Rattle.log_reading.specs.declared.grant.Stay.{Stay}
use Rattle.std.proofs.lemmas.Int.{ints}
use Rattle.std.proofs.lemmas.List.Sorted.{IsPermutation-swap}
use Rattle.late_cert.specs.Worked.{stay_2, stay_3}
use Rattle.late_cert.proofs.laws.worked_reports.Goals as goal

pub returns-clause-stays : goal.returns-clause-stays
returns-clause-stays c = refl

pub returns-clause-swapped : goal.returns-clause-swapped
returns-clause-swapped c = record {
  rearranged = IsPermutation-swap (10 ∷ 14 ∷ []) (14 ∷ 10 ∷ []) 0 1 (omega arith) (omega arith) refl;
  after_joining = (omega arith, (omega arith, tt));
}

pub returns-clause-swapped_is_late : goal.returns-clause-swapped_is_late
returns-clause-swapped_is_late c = refl

pub returns-clause-joined_later : goal.returns-clause-joined_later
returns-clause-joined_later c = λ assigned. let after = assigned.after_joining.0 in absurd (omega arith)

pub returns-clause-chosen : goal.returns-clause-chosen
returns-clause-chosen c = record {
  granted = refl;
  worst = record {
    earlier = stay_3 ∷ [];
    stay = stay_2;
    later = [];
    parts = refl;
    less = (omega (arith, ints), tt);
    late = refl;
    not_more = tt;
    slot = refl;
    due = refl;
    after = refl;
  };
  critical = refl;
}

pub returns-clause-sound : goal.returns-clause-sound
returns-clause-sound c = record {
  granted = refl;
  some = omega arith;
  bounded = (omega (arith, ints), (omega (arith, ints), tt));
  worst = record { stay = stay_2; member = (1, omega arith, refl); slot = refl; due = refl; late = refl };
  before = omega arith;
  listed = refl;
  critical = (record { due = omega (arith, ints); joined = omega arith }, (record { due = omega (arith, ints); joined = omega arith }, tt));
}

pub returns-clause-one_is_missing : goal.returns-clause-one_is_missing
returns-clause-one_is_missing c = λ sound. let listed = sound.listed in cc

pub returns-clause-joined_before_the_cut : goal.returns-clause-joined_before_the_cut
returns-clause-joined_before_the_cut c = λ sound. let joined = sound.critical.0.joined (omega arith) in absurd (omega arith)

pub returns-clause-worst_is_too_small : goal.returns-clause-worst_is_too_small
returns-clause-worst_is_too_small c = λ sound. let late = sound.bounded.1.0 in absurd (omega (arith, ints))

pub returns-clause-chosen_before : goal.returns-clause-chosen_before
returns-clause-chosen_before c = record {
  granted = refl;
  worst = record {
    earlier = record { ticket = 3; joined = 0; slot = 4; due = negsuc 2 } ∷ [];
    stay = record { ticket = 2; joined = 0; slot = 8; due = pos 1 };
    later = [];
    parts = refl;
    less = (omega (arith, ints), tt);
    late = refl;
    not_more = tt;
    slot = refl;
    due = refl;
    after = refl;
  };
  critical = refl;
}

pub returns-clause-sound_before : goal.returns-clause-sound_before
returns-clause-sound_before c = record {
  granted = refl;
  some = omega arith;
  bounded = (omega (arith, ints), (omega (arith, ints), tt));
  worst = record { stay = record { ticket = 2; joined = 0; slot = 8; due = pos 1 }; member = (1, omega arith, refl); slot = refl; due = refl; late = refl };
  before = omega arith;
  listed = refl;
  critical = (
    record { due = omega (arith, ints); joined = λ some. absurd (omega arith) },
    (record { due = omega (arith, ints); joined = λ some. absurd (omega arith) }, tt),
  );
}

six_none : ◌≡◌ {A = ℕ} 6 0 → ⊥
six_none e = omega (arith, e)

pub returns-clause-joined_in_the_window_before : goal.returns-clause-joined_in_the_window_before
returns-clause-joined_in_the_window_before c = λ sound.
    six_none (ap (λ (l : List Stay). option_map_or (λ (stay : Stay). stay.joined) (slice_get l 0) 0) sound.listed)
