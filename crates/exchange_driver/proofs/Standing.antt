-- How a line stands behind the answers of its socket.
use Rattle.std.proofs.Common.{◌≡◌, ◌∙◌, inl, inr, Bool, List, [], ◌∷◌, ◌++◌, refl, ap, sym}
use Rattle.exchange_driver.specs.Answers.{SocketAnswer, Heard, Said, is_full, with_answers, dry_after, full_after}
use Rattle.exchange_driver.specs.Wires.{Wire, HasHeard, IsAsAnswered}
use Rattle.exchange_driver.specs.declared.socket.ReadResult.{ReadResult}
use Rattle.exchange_driver.specs.declared.socket.WriteResult.{WriteResult}
use Rattle.exchange_driver.proofs.Telling.{with_none, with_both}

dry_append : (one two : List SocketAnswer) (before : Bool) → dry_after (one ++ two) before ≡ dry_after two (dry_after one before)
dry_append [] two before = refl
dry_append (Heard result ∷ one) two before = dry_append one two _
dry_append (Said result ∷ one) two before = dry_append one two before

full_append : (one two : List SocketAnswer) (before : Bool) → full_after (one ++ two) before ≡ full_after two (full_after one before)
full_append [] two before = refl
full_append (Heard result ∷ one) two before = full_append one two before
full_append (Said result ∷ one) two before = full_append one two _

-- it gave no answer
pub answered_none : (line : Wire) → IsAsAnswered line line
answered_none line = record { answers = []; gave = with_none line.answers; dry = refl; full = refl }

pub answered_kept : (old new : Wire) → new.answers ≡ old.answers → new.dry ≡ old.dry → new.full ≡ old.full → IsAsAnswered old new
answered_kept old new answers dry full = record { answers = []; gave = answers ∙ with_none old.answers; dry = dry; full = full }

-- it gave some answers, and then others
pub answered_on : (old between new : Wire) → IsAsAnswered old between → IsAsAnswered between new → IsAsAnswered old new
answered_on old between new one two = record {
  answers = one.answers ++ two.answers;
  gave = two.gave ∙ ap (with_answers two.answers) one.gave ∙ with_both one.answers two.answers old.answers;
  dry = two.dry ∙ ap (dry_after two.answers) one.dry ∙ sym (dry_append one.answers two.answers old.dry);
  full = two.full ∙ ap (full_after two.answers) one.full ∙ sym (full_append one.answers two.answers old.full);
}

-- it gave this answer to a write
pub answered_said : (old new : Wire) (result : WriteResult) → new.answers ≡ with_answers (Said result ∷ []) old.answers → new.full ≡ is_full result → new.dry ≡ old.dry
    → IsAsAnswered old new
answered_said old new result answers full dry = record { answers = Said result ∷ []; gave = answers; dry = dry; full = full }

-- or this one to a read
pub answered_heard : (old new : Wire) (result : ReadResult) → HasHeard result old new → new.full ≡ old.full → IsAsAnswered old new
answered_heard old new result (inl (answers, dry)) full = record { answers = Heard result ∷ []; gave = answers; dry = dry; full = full }
answered_heard old new result (inr (answers, dry, is)) full = answered_kept old new answers dry full
