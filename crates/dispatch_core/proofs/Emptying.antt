-- Moves until a server's queue is empty.
use Rattle.std.proofs.Common.{◌≡◌, ℕ, ◌+◌, ◌<◌, ◌≤◌, false, [], ◌∷◌, ◌++◌, IsTrue, length, count_by, refl, ap, sym, ◌∙◌}
use Rattle.std.proofs.Common.{subst, arith, length-append, Bool, true, Option, None, Some}
use Rattle.std.proofs.lemmas.List.Sums.{sum_by-cons}
use Rattle.log_entries.specs.declared.entry.Entry.{Entry}
use Rattle.log_entries.specs.declared.entry.Entry.TheVariants.{Moved}
use Rattle.log_entries.specs.declared.queue.Queue.{Queue}
use Rattle.log_entries.specs.declared.queue.Queue.TheVariants.{Server}
use Rattle.log_entries.specs.declared.row.Phase.{Phase}
use Rattle.log_entries.specs.declared.row.Phase.TheVariants.{Loose, Waiting, Serving, Told}
use Rattle.log_entries.specs.declared.row.Row.{Row}
use Rattle.log_entries.specs.declared.setup.Setup.{Setup}
use Rattle.log_entries.specs.Histories.{History, state_of}
use Rattle.log_entries.specs.Judgement.{Stage, emptying, granting, next_stage}
use Rattle.log_entries.specs.Refusals.{is_waiting}
use Rattle.log_entries.specs.Rows.{Rows, queued, waits_in, phase_waits_in}
use Rattle.log_entries.proofs.Judged.{stage_after-push}
use Rattle.base_lists.proofs.Places.{tally}
use Rattle.dispatch_core.specs.Steps.{GoesOn, MovesAll}
use Rattle.dispatch_core.proofs.Going.{goes_none, goes_more}
use Rattle.dispatch_state.proofs.Placing.{longer, same_setup}
use Rattle.dispatch_state.specs.Histories.{stage_of, row_waits, waiting_of, IsMove, IsEmptied}

one_of : (a b : Bool) → (a ≡ true → b ≡ true) → tally a ≤ tally b
one_of true b h = let e : tally b ≡ 1 = ap tally (h refl) in omega arith
one_of false b h = omega arith

-- no more wait in one queue than in all
waits_counted : (queue : Queue) (cell : Option Row) → waits_in queue cell ≡ true → row_waits cell ≡ true
waits_counted queue None e = cc
waits_counted queue (Some row) e = by_phase row.phase e
  where
    by_phase : (phase : Phase) → phase_waits_in queue phase ≡ true → is_waiting phase ≡ true
    by_phase (Waiting q m) h = refl
    by_phase Loose h = cc
    by_phase (Serving v) h = cc
    by_phase (Told c) h = cc

few_queued : (queue : Queue) (rows : Rows) → queued queue rows ≤ count_by row_waits rows
few_queued queue [] = omega arith
few_queued queue (cell ∷ rows) =
    let rest : queued queue rows ≤ count_by row_waits rows = few_queued queue rows in
    let one = one_of (waits_in queue cell) (row_waits cell) (waits_counted queue cell) in
    let a : queued queue (cell ∷ rows) ≡ tally (waits_in queue cell) + queued queue rows = sum_by-cons (λ x. tally (waits_in queue x)) cell rows in
    let b : count_by row_waits (cell ∷ rows) ≡ tally (row_waits cell) + count_by row_waits rows = sum_by-cons (λ x. tally (row_waits x)) cell rows in
    omega arith

-- moves so far, and room for those that are left
pub record MovesSince (server : ℕ) (old now : History) : Type 0 where
  pub goes : GoesOn old now
  pub stage : stage_of now ≡ emptying server
  pub redispatch : IsTrue now.setup.redispatch
  pub within : server < length now.setup.servers
  pub counted : length goes.entries + queued (Server server) (state_of now).rows ≡ queued (Server server) (state_of old).rows
  pub room : length now.log + queued (Server server) (state_of now).rows ≤ now.setup.log

pub moves_none : (server : ℕ) (h : History) → stage_of h ≡ emptying server → IsTrue h.setup.redispatch → server < length h.setup.servers
    → length h.log + waiting_of h ≤ h.setup.log → MovesSince server h h
moves_none server h stage redispatch within room = record {
  goes = goes_none h;
  stage = stage;
  redispatch = redispatch;
  within = within;
  counted = omega arith;
  room = let few = few_queued (Server server) (state_of h).rows in omega arith;
}

pub moves_more : (server : ℕ) (old now next : History) → MovesSince server old now → IsMove server now next → MovesSince server old next
moves_more server old now next since move =
    let e : Entry = Moved move.ticket server in
    let setup : next.setup ≡ now.setup = same_setup now next e move.moves in
    record {
      goes = goes_more old now next e since.goes move.moves refl;
      stage = ap stage_of move.moves ∙ stage_after-push granting now.log e ∙ ap (λ (t : Stage). next_stage t e) since.stage;
      redispatch = subst (λ (s : Setup). IsTrue s.redispatch) (sym setup) since.redispatch;
      within = subst (λ (s : Setup). server < length s.servers) (sym setup) since.within;
      counted =
          let longer : length (since.goes.entries ++ e ∷ []) ≡ length since.goes.entries + 1 = length-append since.goes.entries (e ∷ []) in
          let fewer = move.fewer in
          let counted = since.counted in
          omega arith;
      room =
          let longer : length next.log ≡ length now.log + 1 = longer now next e move.moves in
          let limit : next.setup.log ≡ now.setup.log = ap (λ (s : Setup). s.log) setup in
          let fewer = move.fewer in
          let room = since.room in
          omega arith;
    }

pub moves_all : (server : ℕ) (old now last : History) → MovesSince server old now → last ≡ now → IsEmptied server now → MovesAll server old last
moves_all server old now last since same none = subst (MovesAll server old) (sym same) (record {
  goes = since.goes;
  stage = since.stage;
  few = (let few = few_queued (Server server) (state_of old).rows in let counted = since.counted in omega arith);
  none = none;
})
