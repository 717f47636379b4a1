use Rattle.std.proofs.Common.{◌≡◌, ◌+◌, ◌*◌, ◌<◌, ℕ, arith}
use Rattle.loop_table.specs.declared.subject.Subject.{Subject}
use Rattle.loop_table.specs.declared.subject.Subject.TheVariants.{Listener, Mailbox, Client, Server, Waiting, Outside}
use Rattle.loop_table.specs.Subjects.{subject_number, AreSame}
use Rattle.loop_table.proofs.subject.numbers_differ.Goals as goal

parts : (i j g h : ℕ) → i < 1048576 → j < 1048576 → g * 1048576 + i ≡ h * 1048576 + j → (i ≡ j) × (g ≡ h)
parts i j g h low_i low_j e = (omega arith, omega arith)

places : (p q t u : ℕ) → p < 4096 → q < 4096 → 4096 * t + p ≡ 4096 * u + q → (p ≡ q) × (t ≡ u)
places p q t u low_p low_q e = (omega arith, omega arith)

same : (a b : Subject) → subject_number a ≡ subject_number b → AreSame a b
same Listener Listener e = tt
same Listener Mailbox e = absurd (omega (arith, e))
same Listener (Client b) e = absurd (omega (arith, e))
same Listener (Server b) e = absurd (omega (arith, e))
same Listener (Waiting bp bt) e = absurd (omega (arith, e))
same Listener (Outside b) e = absurd (omega (arith, e))
same Mailbox Listener e = absurd (omega (arith, e))
same Mailbox Mailbox e = tt
same Mailbox (Client b) e = absurd (omega (arith, e))
same Mailbox (Server b) e = absurd (omega (arith, e))
same Mailbox (Waiting bp bt) e = absurd (omega (arith, e))
same Mailbox (Outside b) e = absurd (omega (arith, e))
same (Client a) Listener e = absurd (omega (arith, e))
same (Client a) Mailbox e = absurd (omega (arith, e))
same (Client a) (Client b) e = parts a.index b.index a.generation b.generation a.index_fits b.index_fits (omega (arith, e))
same (Client a) (Server b) e = absurd (omega (arith, e))
same (Client a) (Waiting bp bt) e = absurd (omega (arith, e))
same (Client a) (Outside b) e = absurd (omega (arith, e))
same (Server a) Listener e = absurd (omega (arith, e))
same (Server a) Mailbox e = absurd (omega (arith, e))
same (Server a) (Client b) e = absurd (omega (arith, e))
same (Server a) (Server b) e = parts a.index b.index a.generation b.generation a.index_fits b.index_fits (omega (arith, e))
same (Server a) (Waiting bp bt) e = absurd (omega (arith, e))
same (Server a) (Outside b) e = absurd (omega (arith, e))
same (Waiting ap at) Listener e = absurd (omega (arith, e))
same (Waiting ap at) Mailbox e = absurd (omega (arith, e))
same (Waiting ap at) (Client b) e = absurd (omega (arith, e))
same (Waiting ap at) (Server b) e = absurd (omega (arith, e))
same (Waiting ap at) (Waiting bp bt) e = λ low_a low_b. places ap bp at bt low_a low_b (omega (arith, e))
same (Waiting ap at) (Outside b) e = absurd (omega (arith, e))
same (Outside a) Listener e = absurd (omega (arith, e))
same (Outside a) Mailbox e = absurd (omega (arith, e))
same (Outside a) (Client b) e = absurd (omega (arith, e))
same (Outside a) (Server b) e = absurd (omega (arith, e))
same (Outside a) (Waiting bp bt) e = absurd (omega (arith, e))
same (Outside a) (Outside b) e = parts a.index b.index a.generation b.generation a.index_fits b.index_fits (omega (arith, e))

pub returns : goal.returns
returns c = same
