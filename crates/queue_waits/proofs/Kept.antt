-- The queues and the fall, as each call leaves them.
use Rattle.std.proofs.Common.{◌≡◌, ◌⊎◌, ◌≤◌, ◌<◌, ◌+◌, ℕ, zero, suc, List, [], ◌∷◌, None, Some, drop, slice_get, length, Contains, vec_capacity}
use Rattle.std.proofs.Common.{refl, ap, sym, ◌∙◌, subst, arith, inl, inr}
use Rattle.std.proofs.Math.ListN.{get_or, set}
use Rattle.std.proofs.lemmas.List.{drop_all, length-drop, get_or-set_same, set-get_or}
use Rattle.due_key.specs.declared.key.Key.{Key}
use Rattle.due_key.specs.Order.{key_cmp}
use Rattle.log_entries.specs.declared.queue.Queue.TheVariants.{Server}
use Rattle.base_lists.proofs.Members.{Contains-head}
use Rattle.base_lists.proofs.Places.{same_or_other}
use Rattle.pend_queue.specs.Pairs.{inserted}
use Rattle.queue_waits.specs.declared.falls.Fall.{Fall}
use Rattle.queue_waits.specs.declared.waiters.Waiter.{Waiter}
use Rattle.queue_waits.specs.Falls.{falling_server, lines_in, IsFalling, AreKept}
use Rattle.queue_waits.specs.InQueues.{AreWaiting}
use Rattle.queue_waits.specs.Lines.{Line, Lined, line_at, with_line, with_moved, fallen, gathered}
use Rattle.queue_waits.specs.Order.{Order}
use Rattle.queue_waits.specs.Waitlists.{Waitlist, Waiters, WaitsAt}
use Rattle.queue_waits.proofs.Changes.{Shifts, shifts, gather_kept}
use Rattle.queue_waits.proofs.Falling.{fallen_none, fallen_servers, fallen_elsewhere}
use Rattle.queue_waits.proofs.Lineup.{gather_room, line_waits}

-- the fall ends, and then what was moved is merged
pub record Gathers (lined mid next : Lined) (ws : Waiters) (order : Order) : Type 0 where
  pub settled : AreWaiting mid ws order
  pub room : length mid.backend + length mid.moved ≤ mid.room
  pub waiting : AreWaiting next ws order
  pub none : next.moved ≡ []
  pub servers : length next.own ≡ length lined.own

pub settle_kept : (lined mid : Lined) (fall : Fall) (ws : Waiters) (order : Order) → AreKept lined fall ws order → mid ≡ lines_in lined fall
    → AreWaiting mid ws order
settle_kept lined mid fall ws order is settles = subst (λ (l : Lined). AreWaiting l ws order) (sym settles) is.waiting

pub gathers : (lined mid next : Lined) (fall : Fall) (ws : Waiters) (order : Order) → AreKept lined fall ws order → mid ≡ lines_in lined fall
    → next ≡ gathered mid → Gathers lined mid next ws order
gathers lined mid next fall ws order is settles merges =
    let settled = settle_kept lined mid fall ws order is settles in record {
      settled = settled;
      room = gather_room mid ws settled.lined_up;
      waiting = gather_kept mid next ws order settled merges;
      none = ap (λ (l : Lined). l.moved) merges;
      servers = ap (λ (l : Lined). length l.own) merges ∙ ap (λ (l : Lined). length l.own) settles ∙ fallen_servers lined fall.server fall.told;
    }

-- no server falls then
pub kept_anew : (lined : Lined) (fall was : Fall) (ws before : Waiters) (order : Order) → AreWaiting lined ws order → fall ≡ record was { told = 0 }
    → length ws ≡ length before → length before ≤ vec_capacity was.sorted → AreKept lined fall ws order
kept_anew lined fall was ws before order is ended long listing =
    subst (λ (f : Fall). AreKept lined f ws order) (sym ended) (record {
      waiting = subst (λ (l : Lined). AreWaiting l ws order) (sym (fallen_none lined was.server)) is;
      falling = λ some. absurd (some refl);
      listing = subst (λ n. n ≤ vec_capacity was.sorted) (sym long) listing;
    })

-- a fall that has ended
pub ended_fall : (fall was : Fall) → fall ≡ record was { told = 0 } → falling_server fall.server fall.told ≡ None
ended_fall fall was ended = ap (λ (f : Fall). falling_server f.server f.told) ended

pub none_falls : (server told : ℕ) → falling_server server told ≡ None → told ≡ 0
none_falls server zero none = refl
none_falls server (suc told) none = cc

-- a queue in which nobody is stays so, whatever falls
pub fallen_empty : (lined : Lined) (server n other : ℕ) → line_at lined (Server other) ≡ [] → line_at (fallen lined server n) (Server other) ≡ []
fallen_empty lined server n other empty = elim (same_or_other server other) [
  | inl same ↦
      let its : line_at lined (Server server) ≡ [] = ap (λ k. line_at lined (Server k)) same ∙ empty in
      let still : set lined.own server (drop n (line_at lined (Server server))) ≡ lined.own =
      ap (λ (l : Line). set lined.own server (drop n l)) its ∙ ap (λ (l : Line). set lined.own server l) (drop_all n [] (omega arith) ∙ sym its)
      ∙ set-get_or lined.own server [] in
      ap (λ (o : List Line). get_or o other []) still ∙ empty
  | inr differs ↦ fallen_elsewhere lined server n other (inr differs) ∙ empty
]

-- the next request of a server that was looked at is moved
pub record Moves (lined next : Lined) (fall : Fall) (ws : Waiters) (server : ℕ) (pair : Key × ℕ) : Type 0 where
  pub its : Shifts (lines_in lined fall) ws server pair.0 pair.1
  pub goes : next ≡ with_moved (with_line (lines_in lined fall) (Server server) (drop 1 (line_at (lines_in lined fall) (Server server))))
      (inserted key_cmp pair (lines_in lined fall).moved)

pub moves : (lined looked next : Lined) (fall its : Fall) (ws : Waiters) (order : Order) (list : Waitlist) (server : ℕ) (pair : Key × ℕ)
    → AreKept lined fall ws order → record { waiters = ws; order = order.places; servers = length lined.own } ≡ list → server < list.servers
    → lines_in looked its ≡ lines_in lined fall → its.server ≡ server
    → slice_get (line_at (lines_in looked its) (Server its.server)) 0 ≡ Some pair
    → next ≡ with_moved (with_line (lines_in looked its) (Server its.server) (drop 1 (line_at (lines_in looked its) (Server its.server))))
    (inserted key_cmp pair (lines_in looked its).moved)
    → Moves lined next fall ws server pair
moves lined looked next fall its ws order list server pair is seen within same of first goes =
    let servers = fallen_servers lined fall.server fall.told in
    let there = subst (λ n. server < n) (sym servers) (subst (λ (l : Waitlist). server < l.servers) (sym seen) within) in record {
      its = shifts (lines_in lined fall) ws server pair.0 pair.1 is.waiting.lined_up there
          (ap (λ (l : Lined). slice_get (line_at l (Server server)) 0) (sym same) ∙ ap (λ n. slice_get (line_at (lines_in looked its) (Server n)) 0) (sym of) ∙ first);
      goes = goes
          ∙ ap (λ n. with_moved (with_line (lines_in looked its) (Server n) (drop 1 (line_at (lines_in looked its) (Server n))))
          (inserted key_cmp pair (lines_in looked its).moved)) of
          ∙ ap (λ (l : Lined). with_moved (with_line l (Server server) (drop 1 (line_at l (Server server)))) (inserted key_cmp pair l.moved)) same;
    }

-- where some of a server's were moved, others wait in its queue still
pub falls_still : (lined : Lined) (fall : Fall) (ws : Waiters) (order : Order) (server : ℕ) → AreKept lined fall ws order → fall.server ≡ server
    → (falling_server fall.server fall.told ≡ None)
    ⊎ ((falling_server fall.server fall.told ≡ Some server) × (place : ℕ) × (w : Waiter) × WaitsAt ws place w × (w.queue ≡ Server server))
falls_still lined fall ws order server kept of = by_told fall.told refl
  where
    waits : IsFalling lined fall → (line : Line) → line_at (lines_in lined fall) (Server fall.server) ≡ line
        → (place : ℕ) × (w : Waiter) × WaitsAt ws place w × (w.queue ≡ Server server)
    waits is [] e =
        let rest = sym (get_or-set_same lined.own fall.server (drop fall.told (line_at lined (Server fall.server))) [] is.within) ∙ e in
        let none : length (drop fall.told (line_at lined (Server fall.server))) ≡ 0 = ap (λ (l : Line). length l) rest in
        let long = length-drop fall.told (line_at lined (Server fall.server)) in
        let known = ap (λ (l : Line). length l) is.known in
        let left = is.left in absurd (omega arith)
    waits is (p ∷ line) e =
        let it = line_waits (lines_in lined fall) ws (Server fall.server) p.0 p.1 kept.waiting.lined_up
        (subst (λ n. fall.server < n) (sym (fallen_servers lined fall.server fall.told)) is.within) (subst (λ (l : Line). Contains l p) (sym e) (Contains-head p line)) in
        (p.1, it.0, it.1, it.2 ∙ ap Server of)

    by_told : (n : ℕ) → fall.told ≡ n
        → (falling_server fall.server fall.told ≡ None)
        ⊎ ((falling_server fall.server fall.told ≡ Some server) × (place : ℕ) × (w : Waiter) × WaitsAt ws place w × (w.queue ≡ Server server))
    by_told zero e = inl (ap (falling_server fall.server) e)
    by_told (suc n) e =
        let it = waits (kept.falling (λ none. let no : zero ≡ suc n = sym none ∙ e in cc)) (line_at (lines_in lined fall) (Server fall.server)) refl in
        inr (ap (falling_server fall.server) e ∙ ap Some of, it.0, it.1, it.2, it.3)

-- no server falls at first
pub kept_first : (lined : Lined) (fall : Fall) (ws : Waiters) (order : Order) (places : ℕ) → AreWaiting lined ws order → fall.told ≡ 0
    → length ws ≡ places → places ≤ vec_capacity fall.sorted → AreKept lined fall ws order
kept_first lined fall ws order places is none long room = record {
  waiting = subst (λ (l : Lined). AreWaiting l ws order) (sym (ap (λ n. fallen lined fall.server n) none ∙ fallen_none lined fall.server)) is;
  falling = λ some. absurd (some none);
  listing = subst (λ n. n ≤ vec_capacity fall.sorted) (sym long) room;
}
