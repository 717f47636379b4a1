use Rattle.late_cert.proofs.Legal.{legal_reports_sound, legal_reports_least}
use Rattle.late_cert.proofs.laws.reports_of_legal_logs_are_sound.Goals as goal

pub returns-clause-sound : goal.returns-clause-sound
returns-clause-sound c = legal_reports_sound

pub returns-clause-least : goal.returns-clause-least
returns-clause-least c = legal_reports_least
