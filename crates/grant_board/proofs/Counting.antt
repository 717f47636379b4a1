-- A relay's seat keeps its counts.
use Rattle.std.proofs.Common.{◌≡◌, ℕ, ◌+◌, ◌<◌, ◌≤◌, ◌^◌, Bool, List, [], ◌∷◌, ◌++◌, length, slice_index, replicate, sym, ap, subst, arith}
use Rattle.std.proofs.lemmas.List.{get_or-replicate, length-append}
use Rattle.std.specs.List.{AllByRecursion}
use Rattle.base_verdict.specs.declared.Ending.{Ending}
use Rattle.grant_board.specs.declared.tally.Tally.{Tally}
use Rattle.base_lists.specs.Weights.{total}
use Rattle.grant_board.specs.Views.{Grant, Terms, RelayView, serves_at, count_of, grants_without}
use Rattle.grant_board.specs.RelayCalls.{Relay, new_relay, relay_looked, take_after, post_after, join_after}
use Rattle.grant_board.specs.Counted.{IsPassOf, IsCounted}
use Rattle.base_lists.proofs.Totals.{total-append, total-push, total-one}
use Rattle.base_lists.proofs.Members.{all_append}
use Rattle.grant_board.proofs.Grants.{count_of_le, all_without}

-- no server's count is above the whole
pub server_room : (x : Relay) (first : Bool) (tally : Tally) → IsCounted x first tally → (n : ℕ) → n < 64 → slice_index tally.of_server n ≤ tally.all
server_room x first tally counted n near = omega (arith, counted.of_server n near, counted.all, count_of_le n x.view.passes)

-- a seat that has done nothing
pub counted_new : (x : Relay) (terms : Terms) (b : Bool) (tally : Tally) → x.view ≡ new_relay terms b → tally ≡ record { all = 0; of_server = replicate 64 0 }
    → terms.places ≤ 4096 → length terms.limits ≤ 64 → IsCounted x b tally
counted_new x terms b tally is none few_places few_servers = record {
  is_first = sym (ap (λ (r : RelayView). r.first) is);
  few_places = omega (arith, ap (λ (r : RelayView). r.terms.places) is);
  few_servers = omega (arith, ap (λ (r : RelayView). length r.terms.limits) is);
  room = omega (arith, ap (λ (r : RelayView). length r.passes) is);
  passes = subst (λ (gs : List Grant). AllByRecursion (IsPassOf x.board.words) gs) (sym (ap (λ (r : RelayView). r.passes) is)) tt;
  all = omega (arith, ap (λ (t : Tally). t.all) none, ap (λ (r : RelayView). length r.passes) is);
  of_server = λ n near. omega (
    arith,
    ap (λ (t : Tally). slice_index t.of_server n) none,
    get_or-replicate {A = ℕ} 64 n 0 0 near,
    ap (λ (r : RelayView). count_of n r.passes) is,
  );
}

-- a pass more
pub counted_take : (x y : Relay) (b : Bool) (old new : Tally) (p n : ℕ) (g : Grant) → IsCounted x b old
    → y ≡ record { board = x.board; view = take_after (relay_looked x.view p n) g }
    → length x.view.passes < x.view.terms.places → IsPassOf x.board.words g → new.all ≡ old.all + 1
    → ((m : ℕ) → m < 64 → slice_index new.of_server m ≡ slice_index old.of_server m + serves_at m g.verdict) → IsCounted y b new
counted_take x y b old new p n g counted is room pass all servers = subst (λ (z : Relay). IsCounted z b new) (sym is) (record {
  is_first = counted.is_first;
  few_places = counted.few_places;
  few_servers = counted.few_servers;
  room = omega (arith, room, length-append x.view.passes (g ∷ []));
  passes = all_append (IsPassOf x.board.words) x.view.passes (g ∷ []) counted.passes (pass, tt);
  all = omega (arith, all, counted.all, length-append x.view.passes (g ∷ []));
  of_server = λ m near. omega (arith, servers m near, counted.of_server m near, total-push (λ h. serves_at m h.verdict) x.view.passes g);
})

-- a pass less
pub counted_post : (x y : Relay) (b : Bool) (old new : Tally) (g : Grant) (e : Ending) → IsCounted x b old
    → y ≡ record { board = x.board; view = post_after x.view g e }
    → ((h : Grant → ℕ) → total h y.view.passes + h g ≡ total h x.view.passes) → new.all + 1 ≡ old.all
    → ((m : ℕ) → m < 64 → slice_index new.of_server m + serves_at m g.verdict ≡ slice_index old.of_server m) → IsCounted y b new
counted_post x y b old new g e counted is weighs all servers =
    let same : (h : Grant → ℕ) → total h (grants_without g.place x.view.passes) + h g ≡ total h x.view.passes = λ h.
    omega (arith, weighs h, ap (λ (z : Relay). total h z.view.passes) is) in
    let left = grants_without g.place x.view.passes in
    let one_less = same (λ _. 1) in
    subst (λ (z : Relay). IsCounted z b new) (sym is) (record {
      is_first = counted.is_first;
      few_places = counted.few_places;
      few_servers = counted.few_servers;
      room = omega (arith, counted.room, total-one left, total-one x.view.passes);
      passes = all_without (IsPassOf x.board.words) g.place x.view.passes counted.passes;
      all = omega (arith, all, counted.all, total-one left, total-one x.view.passes);
      of_server = λ m near. omega (arith, servers m near, counted.of_server m near, same (λ h. serves_at m h.verdict));
    })

-- another's passes beside
pub counted_join : (x y z : Relay) (b c : Bool) (old other new : Tally) → IsCounted x b old → IsCounted y c other → y.board ≡ x.board
    → z ≡ record { board = x.board; view = join_after x.view y.view }
    → length z.view.passes ≤ z.view.terms.places → new.all ≡ old.all + other.all
    → ((m : ℕ) → m < 64 → slice_index new.of_server m ≡ slice_index old.of_server m + slice_index other.of_server m) → IsCounted z b new
counted_join x y z b c old other new mine theirs board is room all servers =
    let more = length-append x.view.passes y.view.passes in
    subst (λ (w : Relay). IsCounted w b new) (sym is) (record {
      is_first = mine.is_first;
      few_places = mine.few_places;
      few_servers = mine.few_servers;
      room = omega (arith, room, ap (λ (w : Relay). length w.view.passes) is, ap (λ (w : Relay). w.view.terms.places) is);
      passes = all_append (IsPassOf x.board.words) x.view.passes y.view.passes mine.passes
          (subst (λ n. AllByRecursion (IsPassOf n) y.view.passes) (ap (λ t. t.words) board) theirs.passes);
      all = omega (arith, all, mine.all, theirs.all, more);
      of_server = λ m near. omega (
        arith,
        servers m near,
        mine.of_server m near,
        theirs.of_server m near,
        total-append (λ (g : Grant). serves_at m g.verdict) x.view.passes y.view.passes,
      );
    })

-- both seats' counts together
pub join_room : (x y : Relay) (b c : Bool) (old other : Tally) → IsCounted x b old → IsCounted y c other
    → length (x.view.passes ++ y.view.passes) ≤ x.view.terms.places
    → (n : ℕ) → n < 64 → slice_index old.of_server n + slice_index other.of_server n < 2 ^ 16
join_room x y b c old other mine theirs room n near =
    omega (
      arith,
      server_room x b old mine n near,
      server_room y c other theirs n near,
      mine.all,
      theirs.all,
      mine.few_places,
      room,
      length-append x.view.passes y.view.passes,
    )
