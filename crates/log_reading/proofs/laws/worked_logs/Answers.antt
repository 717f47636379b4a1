use Rattle.std.proofs.Common.{refl, arith}
use Rattle.std.proofs.lemmas.Bool.{false≢true}
use Rattle.log_reading.proofs.laws.worked_logs.Goals as goal

pub returns-clause-readable : goal.returns-clause-readable
returns-clause-readable c = (
  record { begins = λ h. refl; later = omega arith; arrived = tt; joined = tt },
  (
    record { begins = λ h. absurd (omega arith); later = tt; arrived = tt; joined = tt },
    (
      record { begins = λ h. refl; later = omega arith; arrived = tt; joined = tt },
      (record { begins = λ h. absurd (omega arith); later = tt; arrived = refl; joined = refl }, tt),
    ),
  ),
)

pub returns-clause-grants : goal.returns-clause-grants
returns-clause-grants c = refl

pub returns-clause-begins_inside_an_event : goal.returns-clause-begins_inside_an_event
returns-clause-begins_inside_an_event c = λ readable. false≢true (readable.0.begins refl)

pub returns-clause-moment_falls : goal.returns-clause-moment_falls
returns-clause-moment_falls c = λ readable. let later = readable.1.0.later in absurd (omega arith)

pub returns-clause-joined_another_queue : goal.returns-clause-joined_another_queue
returns-clause-joined_another_queue c = λ readable. false≢true readable.1.1.0.joined

pub returns-clause-never_arrived : goal.returns-clause-never_arrived
returns-clause-never_arrived c = λ readable. false≢true readable.1.1.0.arrived

pub returns-clause-readable_from_the_base : goal.returns-clause-readable_from_the_base
returns-clause-readable_from_the_base c = (
  record { begins = λ h. refl; later = omega arith; arrived = tt; joined = tt },
  (record { begins = λ h. absurd (omega arith); later = tt; arrived = refl; joined = refl }, tt),
)

pub returns-clause-grants_from_the_base : goal.returns-clause-grants_from_the_base
returns-clause-grants_from_the_base c = refl

pub returns-clause-waited_elsewhere : goal.returns-clause-waited_elsewhere
returns-clause-waited_elsewhere c = λ readable. false≢true readable.1.0.joined
