-- From a seat of the table to what contracts see of it, and back.
use Rattle.std.proofs.Common.{◌≡◌, ℕ, ◌+◌, ◌<◌, ◌≤◌, ◌^◌, true, [], ◌∷◌, ◌==◌, length, slice_index, Contains, sym, refl, ap, ◌∙◌, subst, arith}
use mathlib.Core.Logic.{dite}
use native.Mathlib.Decide.{ℕ_discrete}
use mathlib.Core.Option.{none}
use prog.Atomic.{either}
use Rattle.atomic_table.specs.Seated.{TableId}
use Rattle.atomic_table.specs.Table.{step, stepped, Allows, Splits, Joins}
use Rattle.base_verdict.specs.declared.Verdict.{Verdict}
use Rattle.base_verdict.specs.declared.Verdict.TheVariants.{Serve, Told}
use Rattle.base_verdict.specs.declared.Ending.{Ending}
use Rattle.grant_board.specs.declared.laws.Word.TheVariants.{Empty, Offered, Taken, Posted}
use Rattle.grant_board.specs.BoardWords.{encode_of, IsWord, IsAmong, IsVerdict}
use Rattle.grant_board.specs.Views.{Grant, grant, Terms, KeeperView, KeeperPart, RelayView, count_at, count_of, serves_at, grants_without}
use Rattle.base_lists.specs.Weights.{total}
use Rattle.grant_board.specs.Rule.{Orderly}
use Rattle.grant_board.specs.Ruled.{view, at_rest, MeetsRule, MeetsRuleWith, KeeperRuled, RelayRuled, VouchRuled, MeetRuled}
use Rattle.grant_board.specs.KeeperCalls.{Keeper, HasRoom, keeper_looked, collect_after, Collects, MayLimit}
use Rattle.grant_board.specs.RelayCalls.{Relay, relay_looked, take_after}
use Rattle.grant_board.specs.Plays.{Seated, seated, blank, ruled, keeper_seat, relay_seat, keeper_of, relay_of, offers, sees, clears, limits, vouches}
use Rattle.grant_board.specs.Plays.{glances, takes, posts, meets, counts, AreApart, beside, aside, cut_off, parent, child, views_joined}
use Rattle.grant_board.specs.Parts.{IsTableOf, IsKeeperSeat, IsRelaySeat}
use Rattle.grant_board.proofs.Grants.{serves_at-other}
use Rattle.grant_board.proofs.Keeping.{MayOffer, offered_kept, seen_kept, cleared_kept, limited_kept, vouched_kept}
use Rattle.grant_board.proofs.Keeping.{glanced_kept, taken_kept, posted_kept, met_kept, counted_kept}
use Rattle.atomic_table.proofs.Lists.{set_here}
use Rattle.base_lists.proofs.Each.{item_in}
use Rattle.grant_board.proofs.Joining.{branch_kept, gathered_kept}

-- a relay's seat is of the board where what contracts see of it is
pub relay_table : (a : TableId) (v : RelayView) (x : Relay) (b n : TableId) → record { board = a; view = v } ≡ x → x.board ≡ n → b ≡ n → a ≡ b
relay_table a v x b n is same other = ap (λ (y : Relay). y.board) is ∙ (same ∙ sym other)

-- a place of its terms has a word, and so has a server
pub has_word : (t : Terms) (a b : TableId) (n i : ℕ) → IsTableOf t a n → a ≡ b → i < t.places + length t.limits → i < b.words
has_word t a b n i table same near = omega (arith, table.words, ap (λ (y : TableId). y.words) same)

pub place_near : (t u : Terms) (a b : TableId) (n place : ℕ) → IsTableOf t a n → a ≡ b → t ≡ u → place < u.places → place < b.words
place_near t u a b n place table board same near = has_word t a b n place table board (omega (arith, near, ap (λ (x : Terms). x.places) same))

-- a board of terms has a word
pub some_word : (t : Terms) (a b : TableId) (n : ℕ) → IsTableOf t a n → a ≡ b → 0 < b.words
some_word t a b n table same = has_word t a b n 0 table same (omega (arith, table.some_places))

-- the word of a server
pub server_near : (t : Terms) (a : TableId) (n server : ℕ) → IsTableOf t a n → server < length t.limits → n + server < t.places + length t.limits
server_near t a n server table near = omega (arith, table.places_are)

-- it stays a table of these terms
pub still_table : (t u : Terms) (a b : TableId) (n : ℕ) → IsTableOf t a n → u ≡ t → b ≡ a → IsTableOf u b n
still_table t u a b n table same board = subst (λ (y : TableId). IsTableOf u y n) (sym board) (subst (λ (y : Terms). IsTableOf y a n) (sym same) table)

-- a step that keeps the rule tells that it holds
ruled_too : (t : Terms) (slots id : ℕ) (m : Seated) (i : ℕ) (f : ℕ → ℕ) (then : ℕ → Seated → Type 0) → Allows (Orderly t) slots id m i f then
    → Allows (Orderly t) slots id m i f (λ n x. then n x × MeetsRule x.0)
ruled_too t slots id m i f then allows s o wide me fits =
    let r = allows s o wide me fits in (
      r.0,
      r.1,
      r.2,
      r.3,
      (
        r.4,
        record {
          terms = t;
          state = stepped s i (f (slice_index s.words i)) id m.1 r.0 r.1;
          rule = r.3;
          seat = id;
          seen = set_here s.views id r.0 (item_in s.views id m.0 me);
        },
      ),
    )

module _ (t : Terms) (slots id : ℕ) (m : Seated) (me : m ≡ relay_seat (relay_of m.0.relays)) where
  pub glances_at : (i : ℕ) → Allows (Orderly t) slots id m i (λ n. n) (ruled glances (step slots i 0 0 none) m)
  glances_at i = ruled_too t slots id m i (λ n. n) (glances (step slots i 0 0 none) m)
      (subst (λ (x : Seated). Allows (Orderly t) slots id x i (λ n. n) (glances (step slots i 0 0 none) x)) (sym me)
      (glanced_kept t slots id (relay_of m.0.relays) i))

  pub counts_at : (i : ℕ) → Allows (Orderly t) slots id m i (λ n. n) (ruled counts (step slots i 0 0 none) m)
  counts_at i = ruled_too t slots id m i (λ n. n) (counts (step slots i 0 0 none) m)
      (subst (λ (x : Seated). Allows (Orderly t) slots id x i (λ n. n) (counts (step slots i 0 0 none) x)) (sym me)
      (counted_kept t slots id (relay_of m.0.relays) i))

  pub takes_at : (p ticket : ℕ) (d : Verdict) (old new : ℕ) → old ≡ encode_of (Offered ticket d) → new ≡ encode_of (Taken ticket d) → IsWord (Offered ticket d)
      → p < (relay_of m.0.relays).terms.places
      → Allows (Orderly t) slots id m p (λ n. either (n == old) new n) (ruled takes (step slots p old new none) m)
  takes_at p ticket d old new was is word near =
      ruled_too t slots id m p (λ n. either (n == old) new n) (takes (step slots p old new none) m)
      (subst (λ (x : Seated). Allows (Orderly t) slots id x p (λ n. either (n == old) new n) (takes (step slots p old new none) x)) (sym me)
      (taken_kept t slots id (relay_of m.0.relays) p ticket d old new was is word near))

  pub posts_at : (p ticket : ℕ) (d : Verdict) (e : Ending) (new : ℕ) → new ≡ encode_of (Posted ticket d e) → IsWord (Posted ticket d e)
      → Contains (relay_of m.0.relays).passes (grant p ticket d)
      → Allows (Orderly t) slots id m p (λ _. new) (λ _. ruled posts (step slots p new 0 none) m new)
  posts_at p ticket d e new is word mine =
      ruled_too t slots id m p (λ _. new) (λ _. posts (step slots p new 0 none) m new)
      (subst (λ (x : Seated). Allows (Orderly t) slots id x p (λ _. new) (λ _. posts (step slots p new 0 none) x new)) (sym me)
      (posted_kept t slots id (relay_of m.0.relays) p ticket d e new is word mine))

  pub branches_at : (relay_of m.0.relays).first ≡ true → Splits (Orderly t) id m.0 (parent m.0) (child m.0)
  branches_at first = subst (λ (x : Seated). Splits (Orderly t) id x.0 (parent x.0) (child x.0)) (sym me) (branch_kept t id (relay_of m.0.relays) first)

  pub gathers_at : (other : ℕ) (n : Seated) → n ≡ relay_seat (relay_of n.0.relays) → (relay_of m.0.relays).first ≡ true
      → Joins (Orderly t) id m.0 other n.0 (views_joined m.0 n.0) blank
  gathers_at other n them first =
      subst (λ (x : Seated). Joins (Orderly t) id x.0 other n.0 (views_joined x.0 n.0) blank) (sym me)
      (subst (λ (y : Seated). Joins (Orderly t) id (view [] (relay_of m.0.relays ∷ [])) other y.0 (views_joined (view [] (relay_of m.0.relays ∷ [])) y.0) blank)
      (sym them)
      (gathered_kept t id (relay_of m.0.relays) other (relay_of n.0.relays) first))

-- two relays' seats side by side
pub relays_beside : (m n x : Seated) (r q : RelayView) → m ≡ relay_seat r → n ≡ relay_seat q → x ≡ (beside m.0 n.0, m.1) → x ≡ seated [] (r ∷ q ∷ [])
relays_beside m n x r q me them is = is ∙ (λ i. (beside (me i).0 (them i).0, (me i).1))

pub meets_at : (t : Terms) (slots id : ℕ) (m : Seated) (r q : RelayView) (i : ℕ) → m ≡ seated [] (r ∷ q ∷ [])
    → Allows (Orderly t) slots id m i (λ n. n) (meets (step slots i 0 0 none) m)
meets_at t slots id m r q i me = subst (λ (x : Seated). Allows (Orderly t) slots id x i (λ n. n) (meets (step slots i 0 0 none) x)) (sym me)
    (met_kept t slots id r q i)

-- what a meeting of two seats tells
abbrev pub HasMet : ℕ → ℕ → ℕ → RelayView → RelayView → Seated → Type 0
HasMet i server found r q x =
    (x ≡ seated [] (relay_looked r i found ∷ q ∷ [])) × AreApart r.terms.places server found r.passes q.passes × MeetsRuleWith x.0 server found

pub met : (slots i found server : ℕ) (m x : Seated) (r q : RelayView) → m ≡ seated [] (r ∷ q ∷ []) → meets (step slots i 0 0 none) m found x
    → server < length r.terms.limits → i ≡ r.terms.places + server → HasMet i server found r q x
met slots i found server m x r q me told near at = subst (λ (y : Seated). meets (step slots i 0 0 none) y found x) me told server near at

-- the two seats apart again
pub left_alone : (x s : Seated) (r q : RelayView) → x ≡ seated [] (r ∷ q ∷ []) → s ≡ (aside x.0, x.1) → s ≡ relay_seat r
left_alone x s r q is cut = cut ∙ ap (λ (y : Seated). (aside y.0, y.1)) is

pub right_alone : (x s : Seated) (r q : RelayView) → x ≡ seated [] (r ∷ q ∷ []) → s ≡ (cut_off x.0, []) → s ≡ relay_seat q
right_alone x s r q is cut = cut ∙ ap (λ (y : Seated). (cut_off y.0, [])) is

-- a seat with one relay's part
pub relay_again : (m : Seated) (j : RelayView) → m ≡ relay_seat j → m ≡ relay_seat (relay_of m.0.relays)
relay_again m j is = is ∙ ap relay_seat (sym (ap (λ (y : Seated). relay_of y.0.relays) is))

pub gathered_seat : (m n x : Seated) → m.1 ≡ [] → x ≡ (views_joined m.0 n.0, m.1) → x ≡ relay_seat (relay_of x.0.relays)
gathered_seat m n x no_slot is = relay_again x (relay_of (views_joined m.0 n.0).relays) (is ∙ (λ i. (views_joined m.0 n.0, no_slot i)))

-- it stays one of the same terms
pub relay_kept : (a b : TableId) (n : ℕ) (m : Seated) (r j : RelayView) → m ≡ relay_seat j → j.terms ≡ r.terms → b ≡ a → IsTableOf r.terms a n
    → IsRelaySeat b n m
relay_kept a b n m r j is same board table = record {
  me = relay_again m j is;
  table = still_table r.terms (relay_of m.0.relays).terms a b n table (ap (λ (y : Seated). (relay_of y.0.relays).terms) is ∙ same) board;
}

-- what contracts see of it after a step that makes f of its view
pub relay_value : (f : RelayView → RelayView) (a b : TableId) (m : Seated) (r : RelayView) (x : Relay) → b ≡ a → record { board = a; view = r } ≡ x
    → m ≡ relay_seat (f r)
    → ◌≡◌ {A = Relay} (record { board = b; view = relay_of m.0.relays }) (record { board = x.board; view = f x.view })
relay_value f a b m r x table is me =
    let bs : b ≡ x.board = table ∙ ap (λ (y : Relay). y.board) is in
    let vs : relay_of m.0.relays ≡ f x.view = ap (λ (y : Seated). relay_of y.0.relays) me ∙ ap (λ (y : Relay). f y.view) is in
    λ i. record { board = bs i; view = vs i }

-- an exchange leaves a relay of the same terms
pub takes_one : (slots p old new n : ℕ) (m x : Seated) (ticket : ℕ) (d : Verdict) → takes (step slots p old new none) m n x → IsWord (Offered ticket d)
    → old ≡ encode_of (Offered ticket d) → new ≡ encode_of (Taken ticket d)
    → (j : RelayView) × (x ≡ relay_seat j) × (j.terms ≡ (relay_of m.0.relays).terms)
takes_one slots p old new n m x ticket d told word was is =
    let t = told ticket d word was is in
    dite (ℕ_discrete n old) (λ hit. (take_after (relay_of m.0.relays) (grant p ticket d), (t.0 hit).0, refl))
    (λ miss. (relay_looked (relay_of m.0.relays) p n, t.1 miss, refl))

-- The same for the keeper's seat
pub keeper_table : (a : TableId) (v : KeeperView) (x : Keeper) (b n : TableId) → record { board = a; view = v } ≡ x → x.board ≡ n → b ≡ n → a ≡ b
keeper_table a v x b n is same other = ap (λ (y : Keeper). y.board) is ∙ (same ∙ sym other)

bound_of : (k : KeeperView) (d : Verdict) (n : ℕ) → HasRoom k d → 0 < slice_index k.bounds n → 0 < serves_at n d → count_of n k.out + 1 < slice_index k.bounds n
bound_of k (Serve s) n room some_bound serves = dite (ℕ_discrete s n)
    (λ same. subst (λ (m : ℕ). 0 < slice_index k.bounds m → count_of m k.out + 1 < slice_index k.bounds m) same room.1 some_bound)
    (λ other. absurd (omega (arith, serves_at-other n s other)))
bound_of k (Told cause) n room some_bound serves = absurd (omega arith)

verdict_fits : (k : KeeperView) (d : Verdict) → HasRoom k d → length k.terms.limits ≤ 64 → IsVerdict d
verdict_fits k (Serve s) room few = omega (arith, room.0)
verdict_fits k (Told cause) room few = tt

verdict_among : (k : KeeperView) (d : Verdict) → HasRoom k d → IsAmong (length k.terms.limits) d
verdict_among k (Serve s) room = room.0
verdict_among k (Told cause) room = tt

pub may_offer : (k : KeeperView) (p ticket : ℕ) (d : Verdict) → p < k.terms.places → count_at p k.out ≡ 0 → ticket < 2 ^ 40 → HasRoom k d
    → length k.terms.limits ≤ 64 → MayOffer k p ticket d
may_offer k p ticket d near free fits room few = record {
  place = near;
  free = free;
  word = (fits, verdict_fits k d room few);
  among = verdict_among k d room;
  room = λ n some_bound serves. bound_of k d n room some_bound serves;
}

module _ (t : Terms) (slots id : ℕ) (m : Seated) (k : KeeperPart) (me : m ≡ keeper_seat k) where
  pub offers_at : (p ticket : ℕ) (d : Verdict) (new : ℕ) → new ≡ encode_of (Offered ticket d) → MayOffer k.view p ticket d
      → Allows (Orderly t) slots id m p (λ _. new) (λ _. ruled offers (step slots p new 0 none) m new)
  offers_at p ticket d new is may = ruled_too t slots id m p (λ _. new) (λ _. offers (step slots p new 0 none) m new)
      (subst (λ (x : Seated). Allows (Orderly t) slots id x p (λ _. new) (λ _. offers (step slots p new 0 none) x new)) (sym me)
      (offered_kept t slots id k p ticket d new is may))

  pub sees_at : (p : ℕ) → k.sight ≡ [] → p < k.view.terms.places → Allows (Orderly t) slots id m p (λ n. n) (ruled sees (step slots p 0 0 none) m)
  sees_at p blind near = ruled_too t slots id m p (λ n. n) (sees (step slots p 0 0 none) m)
      (subst (λ (x : Seated). Allows (Orderly t) slots id x p (λ n. n) (sees (step slots p 0 0 none) x)) (sym me) (seen_kept t slots id k p blind near))

  pub clears_at : (p ticket : ℕ) (d : Verdict) (e : Ending) (new : ℕ) → k.sight ≡ record { pass = grant p ticket d; ending = e } ∷ [] → new ≡ encode_of Empty
      → Allows (Orderly t) slots id m p (λ _. new) (λ _. ruled clears (step slots p new 0 none) m new)
  clears_at p ticket d e new seen is =
      ruled_too t slots id m p (λ _. new) (λ _. clears (step slots p new 0 none) m new)
      (subst (λ (x : Seated). Allows (Orderly t) slots id x p (λ _. new) (λ _. clears (step slots p new 0 none) x new)) (sym me)
      (subst (λ (n : ℕ). Allows (Orderly t) slots id (keeper_seat k) p (λ _. n) (λ _. clears (step slots p n 0 none) (keeper_seat k) n)) (sym is)
      (cleared_kept t slots id k p ticket d e seen)))

  pub limits_at : (server i new : ℕ) → i ≡ k.view.terms.places + server → MayLimit k.view server new
      → Allows (Orderly t) slots id m i (λ _. new) (λ _. ruled limits (step slots i new 0 none) m new)
  limits_at server i new at may = ruled_too t slots id m i (λ _. new) (λ _. limits (step slots i new 0 none) m new)
      (subst (λ (x : Seated). Allows (Orderly t) slots id x i (λ _. new) (λ _. limits (step slots i new 0 none) x new)) (sym me)
      (limited_kept t slots id k server i new at may))

-- a keeper's seat and a relay's side by side
pub keeper_beside : (m n x : Seated) (k : KeeperPart) (q : RelayView) → m ≡ keeper_seat k → n ≡ relay_seat q → x ≡ (beside m.0 n.0, m.1)
    → x ≡ seated (k ∷ []) (q ∷ [])
keeper_beside m n x k q me them is = is ∙ (λ i. (beside (me i).0 (them i).0, (me i).1))

pub vouches_at : (t : Terms) (slots id : ℕ) (m : Seated) (k : KeeperPart) (q : RelayView) (i : ℕ) → m ≡ seated (k ∷ []) (q ∷ [])
    → Allows (Orderly t) slots id m i (λ n. n) (ruled vouches (step slots i 0 0 none) m)
vouches_at t slots id m k q i me = ruled_too t slots id m i (λ n. n) (vouches (step slots i 0 0 none) m)
    (subst (λ (x : Seated). Allows (Orderly t) slots id x i (λ n. n) (vouches (step slots i 0 0 none) x)) (sym me) (vouched_kept t slots id k q i))

-- what contracts know of a keeper's seat
pub keeper_again : (m : Seated) (v : KeeperView) → m ≡ keeper_seat (at_rest v) → m ≡ keeper_seat (at_rest (keeper_of m.0.keepers).view)
keeper_again m v is = is ∙ ap (λ (y : KeeperView). keeper_seat (at_rest y)) (sym (ap (λ (y : Seated). (keeper_of y.0.keepers).view) is))

-- what contracts see of it after a step that makes f of its view
pub keeper_value : (f : KeeperView → KeeperView) (a b : TableId) (m : Seated) (k : KeeperView) (x : Keeper) → b ≡ a → record { board = a; view = k } ≡ x
    → m ≡ keeper_seat (at_rest (f k))
    → ◌≡◌ {A = Keeper} (record { board = b; view = (keeper_of m.0.keepers).view }) (record { board = x.board; view = f x.view })
keeper_value f a b m k x table is me =
    let bs : b ≡ x.board = table ∙ ap (λ (y : Keeper). y.board) is in
    let vs : (keeper_of m.0.keepers).view ≡ f x.view = ap (λ (y : Seated). (keeper_of y.0.keepers).view) me ∙ ap (λ (y : Keeper). f y.view) is in
    λ i. record { board = bs i; view = vs i }

-- it stays one of the same terms
pub keeper_kept : (a b : TableId) (n : ℕ) (m : Seated) (k v : KeeperView) → m ≡ keeper_seat (at_rest v) → v.terms ≡ k.terms → b ≡ a → IsTableOf k.terms a n
    → IsKeeperSeat b n m
keeper_kept a b n m k v is same board table =
    record {
      me = keeper_again m v is;
      table =
          still_table k.terms (keeper_of m.0.keepers).view.terms a b n table (ap (λ (y : Seated). (keeper_of y.0.keepers).view.terms) is ∙ same) board;
    }

pub keeper_rests : (m : Seated) (k : KeeperPart) (v : KeeperView) → k.sight ≡ [] → m ≡ keeper_seat (record { view = v; sight = k.sight })
    → m ≡ keeper_seat (at_rest v)
keeper_rests m k v blind is = is ∙ (λ i. keeper_seat (record { view = v; sight = blind i }))

-- the keeper's seat, once the place is empty of this
abbrev pub Cleared : KeeperView → ℕ → ℕ → Verdict → Ending → Seated → Type 0
Cleared k p ticket d e x =
    (x ≡ keeper_seat (at_rest (collect_after k (grant p ticket d) e))) × Contains k.out (grant p ticket d) × ((h : Grant → ℕ)
    → total h (grants_without p k.out) + h (grant p ticket d) ≡ total h k.out)

-- the second step of a collect
pub collected : (slots p new : ℕ) (m x : Seated) (k : KeeperView) (ticket : ℕ) (d : Verdict) (e : Ending)
    → m ≡ keeper_seat (record { view = k; sight = record { pass = grant p ticket d; ending = e } ∷ [] })
    → clears (step slots p new 0 none) m new x → IsWord (Posted ticket d e)
    → Cleared k p ticket d e x
collected slots p new m x k ticket d e me told word =
    subst (λ (y : Seated). clears (step slots p new 0 none) y new x) me told ticket d e word refl

pub collects : (k : KeeperView) (x : Seated) (number p ticket : ℕ) (d : Verdict) (e : Ending) → number ≡ encode_of (Posted ticket d e)
    → IsWord (Posted ticket d e)
    → Cleared (keeper_looked k p number) p ticket d e x
    → Collects k (keeper_of x.0.keepers).view p (record { place = p; ticket = ticket; ending = e })
collects k x number p ticket d e is word told =
    let now : (keeper_of x.0.keepers).view ≡ collect_after (keeper_looked k p number) (grant p ticket d) e =
    ap (λ (y : Seated). (keeper_of y.0.keepers).view) told.0 in record {
      verdict = d;
      at = refl;
      ending = word.2;
      was_out = told.1;
      after = now ∙ ap (λ (n : ℕ). collect_after (keeper_looked k p n) (grant p ticket d) e) is;
      weighs = λ h. omega (arith, told.2 h, ap (λ (v : KeeperView). total h v.out) now);
    }

-- the rule holds of what contracts see
pub relay_ruled : (m : Seated) (j : RelayView) → m ≡ relay_seat j → MeetsRule m.0 → RelayRuled (relay_of m.0.relays)
relay_ruled m j is rule = subst MeetsRule (ap (λ (x : Seated). x.0) (relay_again m j is)) rule

pub keeper_ruled : (m : Seated) (v : KeeperView) → m ≡ keeper_seat (at_rest v) → MeetsRule m.0 → KeeperRuled (keeper_of m.0.keepers).view
keeper_ruled m v is rule = subst MeetsRule (ap (λ (x : Seated). x.0) (keeper_again m v is)) rule

pub meet_ruled : (x s : Seated) (r q p : RelayView) (server bound : ℕ) → x ≡ seated [] (r ∷ q ∷ []) → s ≡ (aside x.0, x.1) → q ≡ p
    → MeetsRuleWith x.0 server bound → MeetRuled (relay_of s.0.relays) p server bound
meet_ruled x s r q p server bound is cut same rule =
    let left : relay_of s.0.relays ≡ r = ap (λ (y : Seated). relay_of y.0.relays) (left_alone x s r q is cut) in
    subst (λ v. MeetsRuleWith v server bound) (ap (λ (y : Seated). y.0) is ∙ (λ i. view [] (sym left i ∷ same i ∷ []))) rule

pub vouch_ruled : (m s : Seated) (k : KeeperPart) (v : KeeperView) (q' q : RelayView) → m ≡ seated (record { view = v; sight = k.sight } ∷ []) (q' ∷ [])
    → k.sight ≡ [] → s ≡ (aside m.0, m.1) → q' ≡ q → MeetsRule m.0
    → VouchRuled (keeper_of s.0.keepers).view q
vouch_ruled m s k v q' q is blind cut same rule =
    let left : (keeper_of s.0.keepers).view ≡ v = ap (λ (x : Seated). (keeper_of x.0.keepers).view) cut
    ∙ ap (λ (x : Seated). (keeper_of x.0.keepers).view) is in
    subst MeetsRule (ap (λ (x : Seated). x.0) is ∙ (λ i. view (record { view = sym left i; sight = blind i } ∷ []) (same i ∷ []))) rule
