use Rattle.std.proofs.Common.{◌≡◌, ◌++◌, ℕ, List, codes, append_assoc}
use Rattle.std.specs.Fmt.{decimal, signed_decimal}
use Rattle.log_entries.specs.declared.entry.Arrival.{Arrival}
use Rattle.log_texts.specs.Traces.{arrival_text}
use Rattle.log_texts.proofs.Growing.{failed_first, failed_last, told_as}
use Rattle.log_texts.proofs.trace.push_arrived.Goals as goal

abbrev key_text : Arrival → List ℕ
key_text arrival = codes " " ++ signed_decimal arrival.class ++ codes " " ++ signed_decimal arrival.due

parts : (moment : ℕ) (arrival : Arrival) → (decimal moment ++ codes " arrive " ++ decimal arrival.ticket) ++ key_text arrival ≡ arrival_text moment arrival
parts moment arrival = simp append_assoc

pub returns-in_err-push_began-clause-err : goal.returns-in_err-push_began-clause-err
returns-in_err-push_began-clause-err c =
    told_as _ _ _ _ _ (parts c.args.moment c.args.arrival) (failed_first _ _ _ (key_text c.args.arrival) c.in_err-push_began.ensures.err)

pub returns-clause-err : goal.returns-clause-err
returns-clause-err c =
    told_as _ _ _ _ _ (parts c.args.moment c.args.arrival) (failed_last _ _ (key_text c.args.arrival) _ _ c.in_ok-push_began.ensures.ok c.push_key.ensures.err)
