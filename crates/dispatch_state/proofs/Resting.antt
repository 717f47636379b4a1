-- Rows that wait in no queue.
use Rattle.std.proofs.Common.{◌≡◌, ℕ, true, false, Option, None, Some, refl, ap, sym, ◌∙◌}
use Rattle.std.proofs.lemmas.Option.{same_Some}
use Rattle.log_entries.specs.declared.queue.Queue.{Queue}
use Rattle.log_entries.specs.declared.row.Phase.{Phase}
use Rattle.log_entries.specs.declared.row.Phase.TheVariants.{Loose, Waiting, Serving, Told}
use Rattle.log_entries.specs.declared.row.Row.{Row}
use Rattle.log_entries.specs.Refusals.{is_waiting, has_a_slot}
use Rattle.log_entries.specs.Rows.{phase_waits_in, phase_is_served_by, phase_is_told}
use Rattle.std.proofs.lemmas.Bool.Decides.{Decides-eqb}
use Rattle.log_entries.proofs.Choices.{queue_same, queue_own}

-- a place has no row that waits in a queue
abbrev pub NoneWaits : Queue → Option Row → Type 0
NoneWaits queue cell = (row : Row) (since : ℕ) → cell ≡ Some row → row.phase ≡ Waiting queue since → ⊥

-- a row that doesn't wait, waits in no queue
pub rests : (queue : Queue) (row : Row) → is_waiting row.phase ≡ false → NoneWaits queue (Some row)
rests queue row idle other since same waits =
    let e : is_waiting row.phase ≡ true = ap (λ (r : Row). is_waiting r.phase) (same_Some row other same) ∙ ap is_waiting waits in
    let no : false ≡ true = sym idle ∙ e in
    cc

pub none_rests : (queue : Queue) → NoneWaits queue None
none_rests queue row since same waits = cc

-- a phase that waits in a queue
pub waits_phase : (queue : Queue) (phase : Phase) → phase_waits_in queue phase ≡ true → (since : ℕ) × (phase ≡ Waiting queue since)
waits_phase queue Loose e = cc
waits_phase queue (Serving s) e = cc
waits_phase queue (Told c) e = cc
waits_phase queue (Waiting other since) e = (since, ap (λ (q : Queue). Waiting q since) (sym (queue_same queue other e)))

pub phase_waits : (queue : Queue) (since : ℕ) (phase : Phase) → phase ≡ Waiting queue since → phase_waits_in queue phase ≡ true
phase_waits queue since phase is = ap (phase_waits_in queue) is ∙ queue_own queue

-- a row that a server serves, and one that was told, don't wait
pub served_phase : (server : ℕ) (phase : Phase) → phase_is_served_by server phase ≡ true → phase ≡ Serving server
served_phase server Loose e = cc
served_phase server (Waiting queue since) e = cc
served_phase server (Told cause) e = cc
served_phase server (Serving other) e = ap Serving ((Decides-eqb other server).0 e)

pub told_rests : (phase : Phase) → phase_is_told phase ≡ true → is_waiting phase ≡ false
told_rests Loose e = cc
told_rests (Waiting queue since) e = cc
told_rests (Serving other) e = cc
told_rests (Told cause) e = refl

-- nor does one that has a slot
pub slot_rests : (phase : Phase) → has_a_slot phase ≡ true → is_waiting phase ≡ false
slot_rests Loose e = cc
slot_rests (Waiting queue since) e = cc
slot_rests (Serving server) e = refl
slot_rests (Told cause) e = cc

-- a phase that waits has a queue
pub record WaitsSomewhere (phase : Phase) : Type 0 where
  pub queue : Queue
  pub since : ℕ
  pub is : phase ≡ Waiting queue since

pub waits_somewhere : (phase : Phase) → is_waiting phase ≡ true → WaitsSomewhere phase
waits_somewhere (Waiting queue since) e = record { queue = queue; since = since; is = refl }
waits_somewhere Loose e = cc
waits_somewhere (Serving server) e = cc
waits_somewhere (Told cause) e = cc
