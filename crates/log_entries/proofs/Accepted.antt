-- What an event that nothing refuses may count on.
use Rattle.std.proofs.Common.{◌≡◌, ℕ, suc, ◌==◌, Bool, true, false, cond, List, [], ◌∷◌, Option, None, Some, is_none, refl, ap, subst}
use Rattle.std.specs.Option.{option_map_or}
use Rattle.std.proofs.lemmas.Bool.Decides.{Decides-eqb}
use Rattle.std.proofs.lemmas.Option.{same_Some}
use Rattle.log_entries.specs.declared.refusal.Refusal.{Refusal}
use Rattle.log_entries.specs.declared.refusal.Refusal.TheVariants.{PlacesFull, LogFull, NoSuchTicket, WrongPhase, NoSuchServer, TicketsSpent}
use Rattle.log_entries.specs.declared.row.Phase.{Phase}
use Rattle.log_entries.specs.declared.row.Row.{Row}
use Rattle.log_entries.specs.declared.setup.Setup.{Setup}
use Rattle.log_entries.specs.Refusals.{first_of, lacks_room, ticket_refusal}
use Rattle.log_entries.specs.Rows.{Rows, StandsAt, row_of}
use Rattle.log_entries.specs.States.{State}

-- where nothing refuses, the first test fails, and nothing behind it refuses
pub none_refuses : (b : Bool) (r : Refusal) (rest : List (Bool × Refusal)) → first_of ((b, r) ∷ rest) ≡ None → (b ≡ false) × (first_of rest ≡ None)
none_refuses true r rest e = cc
none_refuses false r rest e = (refl, e)

-- no test of an arrival holds that nothing refuses, and none of a ticket's event
pub arrival_tests : (full unknown spent crowded : Bool)
    → first_of ((full, LogFull) ∷ (unknown, NoSuchServer) ∷ (spent, TicketsSpent) ∷ (crowded, PlacesFull) ∷ []) ≡ None
    → (full ≡ false) × (unknown ≡ false) × (spent ≡ false) × (crowded ≡ false)
arrival_tests full unknown spent crowded accepted =
    let first = none_refuses full LogFull ((unknown, NoSuchServer) ∷ (spent, TicketsSpent) ∷ (crowded, PlacesFull) ∷ []) accepted in
    let second = none_refuses unknown NoSuchServer ((spent, TicketsSpent) ∷ (crowded, PlacesFull) ∷ []) first.1 in
    let third = none_refuses spent TicketsSpent ((crowded, PlacesFull) ∷ []) second.1 in
    (first.0, second.0, third.0, (none_refuses crowded PlacesFull [] third.1).0)

pub ticket_tests : (full unknown wrong : Bool) → first_of ((full, LogFull) ∷ (unknown, NoSuchTicket) ∷ (wrong, WrongPhase) ∷ []) ≡ None
    → (full ≡ false) × (unknown ≡ false) × (wrong ≡ false)
ticket_tests full unknown wrong accepted =
    let first = none_refuses full LogFull ((unknown, NoSuchTicket) ∷ (wrong, WrongPhase) ∷ []) accepted in
    let second = none_refuses unknown NoSuchTicket ((wrong, WrongPhase) ∷ []) first.1 in
    (first.0, second.0, (none_refuses wrong WrongPhase [] second.1).0)

-- a ticket's row, where it stands
pub record Stands (rows : Rows) (ticket : ℕ) (row : Row) : Type 0 where
  pub place : ℕ
  pub stands : StandsAt rows place row
  pub named : row.key.ticket ≡ ticket

pub row_of_found : (rows : Rows) (u : ℕ) (r : Row) → row_of u rows ≡ Some r → Stands rows u r
row_of_found [] u r e = cc
row_of_found (None ∷ rows) u r e = let it = row_of_found rows u r e in record { place = suc it.place; stands = it.stands; named = it.named }
row_of_found (Some x ∷ rows) u r e = by_test (x.key.ticket == u) refl e (λ found. row_of_found rows u r found)
  where
    by_test : (b : Bool) → (x.key.ticket == u) ≡ b → row_of u (Some x ∷ rows) ≡ Some r → (row_of u rows ≡ Some r → Stands rows u r) → Stands (Some x ∷ rows) u r
    by_test true test e later =
        let it : x ≡ r = same_Some x r (subst (λ (b : Bool). cond {A = Option Row} b (Some x) (row_of u rows) ≡ Some r) test e) in
        record {
          place = 0;
          stands = ap (λ (w : Row). Some (Some w)) it;
          named = subst (λ (w : Row). w.key.ticket ≡ u) it ((Decides-eqb (x.key.ticket) u).0 test);
        }
    by_test false test e later =
        let it = later (subst (λ (b : Bool). cond {A = Option Row} b (Some x) (row_of u rows) ≡ Some r) test e) in
        record { place = suc it.place; stands = it.stands; named = it.named }

-- the row of a ticket whose event nothing refuses
pub record Accepted (wrong : Phase → Bool) (rows : Rows) (ticket : ℕ) : Type 0 where
  pub row : Row
  pub found : row_of ticket rows ≡ Some row
  pub right : wrong row.phase ≡ false
  pub place : ℕ
  pub stands : StandsAt rows place row
  pub named : row.key.ticket ≡ ticket

pub row_of_accepted : (wrong : Phase → Bool) (setup : Setup) (s : State) (n u : ℕ) → ticket_refusal wrong setup s n u ≡ None → Accepted wrong s.rows u
row_of_accepted wrong setup s n u e =
    let tests = ticket_tests (lacks_room setup n) (is_none (row_of u s.rows)) (option_map_or (λ (it : Row). wrong it.phase) (row_of u s.rows) false) e in
    by_row (row_of u s.rows) refl tests.1 tests.2
  where
    by_row : (row : Option Row) → row_of u s.rows ≡ row → is_none row ≡ false → option_map_or (λ (it : Row). wrong it.phase) row false ≡ false
        → Accepted wrong s.rows u
    by_row None e there right = cc
    by_row (Some row) e there right =
        let it = row_of_found s.rows u row e in
        record { row = row; found = e; right = right; place = it.place; stands = it.stands; named = it.named }

-- the log has room for an event that nothing refuses
pub accepted_room : (wrong : Phase → Bool) (setup : Setup) (s : State) (n u : ℕ) → ticket_refusal wrong setup s n u ≡ None → lacks_room setup n ≡ false
accepted_room wrong setup s n u e =
    (ticket_tests (lacks_room setup n) (is_none (row_of u s.rows)) (option_map_or (λ (it : Row). wrong it.phase) (row_of u s.rows) false) e).0
