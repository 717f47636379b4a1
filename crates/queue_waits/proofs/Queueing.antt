-- Queues of a list of queues.
use Rattle.std.proofs.Common.{◌≡◌, ℕ, ◌+◌, ◌<◌, List, [], ◌∷◌, ◌++◌, Some, option_map, get_or, slice_get}
use Rattle.std.proofs.Common.{slice_index_or, map, replicate, length, refl, ap, sym, ◌∙◌, subst, inl, inr, arith, length-append}
use Rattle.std.proofs.Math.ListN.{set}
use Rattle.std.proofs.lemmas.List.{map-set, map-append, length-map, replicate_more}
use Rattle.std.proofs.lemmas.Option.{slice_get-map, slice_get_read, get_or_from_slice_get}
use Rattle.std.specs.List.{sum_by}
use Rattle.std.proofs.lemmas.List.Sums.{sum_by-set}
use Rattle.due_key.specs.Order.{key_cmp}
use Rattle.pend_queue.specs.Pairs.{merged}
use Rattle.log_entries.specs.declared.queue.Queue.{Queue}
use Rattle.log_entries.specs.declared.queue.Queue.TheVariants.{Backend, Server}
use Rattle.base_lists.proofs.Places.{get-set_cases}
use Rattle.base_lists.proofs.Pushed.{get-push_cases}
use Rattle.log_entries.specs.Queues.{IsQueueOf}
use Rattle.queue_waits.specs.Lines.{Line, Lined, line_at, with_line, taken_over, HaveRoom}

module _ {Q : Type 0} (pairs : Q → Line) (room : Q → ℕ) where
  -- what is in one of the servers' queues
  pub pairs_at : (items : List Q) (server : ℕ) (x : Q) → server < length items → x ≡ get_or items server x
      → slice_index_or (map pairs items) server [] ≡ pairs x
  pairs_at items server x within read =
      get_or_from_slice_get (map pairs items) server (pairs x) []
      (slice_get-map pairs items server ∙ ap (option_map pairs) (slice_get_read items (length items) server x refl within read))

  -- one of the servers' queues changed
  pub own_changed : (f : Line → Line) (items : List Q) (backend moved : Q) (places : ℕ) (now : Lined) (queue : Queue) (server : ℕ) (x new : Q)
      → record { own = map pairs items; backend = pairs backend; moved = pairs moved; room = places } ≡ now → queue ≡ Server server
      → server < length items → x ≡ get_or items server x → pairs new ≡ f (pairs x)
      → record { own = map pairs (set items server new); backend = pairs backend; moved = pairs moved; room = places } ≡ with_line now queue
      (f (line_at now queue))
  own_changed f items backend moved places now queue server x new same of within read changes =
      let here : Lined = record { own = map pairs items; backend = pairs backend; moved = pairs moved; room = places } in
      let at : pairs new ≡ f (slice_index_or (map pairs items) server []) = changes ∙ ap f (sym (pairs_at items server x within read)) in
      subst (λ (l : Lined). record { own = map pairs (set items server new); backend = pairs backend; moved = pairs moved; room = places }
      ≡ with_line l queue (f (line_at l queue))) same
      (subst (λ (q : Queue). record { own = map pairs (set items server new); backend = pairs backend; moved = pairs moved; room = places }
      ≡ with_line here q (f (line_at here q))) (sym of)
      (ap (λ (l : List Line). record { own = l; backend = pairs backend; moved = pairs moved; room = places })
      (map-set pairs items server new ∙ ap (λ (w : Line). set (map pairs items) server w) at)))

  -- the backend's queue changed
  pub backend_changed : (f : Line → Line) (items : List Q) (backend new moved : Q) (places : ℕ) (now : Lined) (queue : Queue)
      → record { own = map pairs items; backend = pairs backend; moved = pairs moved; room = places } ≡ now → queue ≡ Backend
      → pairs new ≡ f (pairs backend)
      → record { own = map pairs items; backend = pairs new; moved = pairs moved; room = places } ≡ with_line now queue (f (line_at now queue))
  backend_changed f items backend new moved places now queue same of changes =
      let here : Lined = record { own = map pairs items; backend = pairs backend; moved = pairs moved; room = places } in
      subst (λ (l : Lined). record { own = map pairs items; backend = pairs new; moved = pairs moved; room = places } ≡ with_line l queue
      (f (line_at l queue))) same
      (subst (λ (q : Queue). record { own = map pairs items; backend = pairs new; moved = pairs moved; room = places } ≡ with_line here q
      (f (line_at here q))) (sym of)
      (ap (λ (w : Line). record { own = map pairs items; backend = w; moved = pairs moved; room = places }) changes))

  -- what a queue of the servers' holds, as the list of all says
  pub own_waits : (items : List Q) (backend moved : Q) (places : ℕ) (now : Lined) (queue : Queue) (server : ℕ) (x : Q)
      → record { own = map pairs items; backend = pairs backend; moved = pairs moved; room = places } ≡ now → queue ≡ Server server
      → server < length items → x ≡ get_or items server x → line_at now queue ≡ pairs x
  own_waits items backend moved places now queue server x same of within read =
      subst (λ (l : Lined). line_at l queue ≡ pairs x) same
      (subst (λ (q : Queue). line_at (record { own = map pairs items; backend = pairs backend; moved = pairs moved; room = places }) q ≡ pairs x)
      (sym of) (pairs_at items server x within read))

  -- each queue has its room
  pub room_at : (items : List Q) (backend moved : Q) (places server : ℕ) (x : Q) → HaveRoom places (map room items) (room backend) (room moved)
      → server < length items → x ≡ get_or items server x → room x ≡ places
  room_at items backend moved places server x have within read =
      have.servers server (room x) (slice_get-map room items server ∙ ap (option_map room) (slice_get_read items (length items) server x refl within read))

  pub rooms_kept : (items : List Q) (backend moved : Q) (places server : ℕ) (x new : Q) → HaveRoom places (map room items) (room backend) (room moved)
      → server < length items → x ≡ get_or items server x → room new ≡ room x
      → HaveRoom places (map room (set items server new)) (room backend) (room moved)
  rooms_kept items backend moved places server x new have within read kept = record {
    servers = λ k its at.
        elim (get-set_cases (map room items) server k (room x) (room new) its
        (slice_get-map room items server ∙ ap (option_map room) (slice_get_read items (length items) server x refl within read))
        (ap (λ (l : List ℕ). slice_get l k) (sym (map-set room items server new)) ∙ at)) [
          | inl e ↦ sym e.1 ∙ kept ∙ room_at items backend moved places server x have within read
          | inr e ↦ have.servers k its e.1
        ];
    backends = have.backends;
    moveds = have.moveds;
  }

-- one of the servers' queues was merged into what was moved
module _ {Q : Type 0} (pairs : Q → Line) where
  pub took_over : (items : List Q) (backend moved more : Q) (places : ℕ) (now : Lined) (server : ℕ) (x new : Q)
      → record { own = map pairs items; backend = pairs backend; moved = pairs moved; room = places } ≡ now
      → server < length items → x ≡ get_or items server x → pairs new ≡ [] → pairs more ≡ merged key_cmp (pairs moved) (pairs x)
      → record { own = map pairs (set items server new); backend = pairs backend; moved = pairs more; room = places } ≡ taken_over now server
  took_over items backend moved more places now server x new same within read emptied merges =
      subst (λ (l : Lined). record { own = map pairs (set items server new); backend = pairs backend; moved = pairs more; room = places } ≡ taken_over l server) same
      (ap (λ (l : List Line). record { own = l; backend = pairs backend; moved = pairs more; room = places })
      (map-set pairs items server new ∙ ap (set (map pairs items) server) emptied)
      ∙ ap (λ (m : Line). record { own = set (map pairs items) server []; backend = pairs backend; moved = m; room = places })
      (merges ∙ ap (merged key_cmp (pairs moved)) (sym (pairs_at pairs (λ _. 0) items server x within read))))

  -- no other queue made a link
  pub links_taken : (links : Q → ℕ) (links_of_merge : ℕ → ℕ → ℕ) (items : List Q) (backend moved more : Q) (server : ℕ) (x new : Q)
      → server < length items → x ≡ get_or items server x → links new ≡ links x
      → links more ≡ links moved + links_of_merge (length (pairs moved)) (length (pairs x))
      → sum_by links (set items server new) + links backend + links more
      ≡ sum_by links items + links backend + links moved + links_of_merge (length (pairs moved)) (length (slice_index_or (map pairs items) server []))
  links_taken links links_of_merge items backend moved more server x new within read kept merges =
      let all = sum_by-set links items server new x within in
      let its : links (get_or items server x) ≡ links x = ap links (sym read) in
      let line = ap (λ (l : Line). links_of_merge (length (pairs moved)) (length l)) (pairs_at pairs (λ _. 0) items server x within read) in
      omega arith

-- the number of a server's queue is one of them
pub own_within : {Q : Type 0} (pairs : Q → Line) (items : List Q) (backend moved : Line) (places : ℕ) (now : Lined) (queue : Queue) (server : ℕ)
    → record { own = map pairs items; backend = backend; moved = moved; room = places } ≡ now → queue ≡ Server server
    → IsQueueOf (length now.own) queue → server < length items
own_within pairs items backend moved places now queue server same of within =
    let l : length (map pairs items) ≡ length items = length-map items pairs in
    subst (λ n. server < n) (ap (λ (x : Lined). length x.own) (sym same) ∙ l) (subst (λ (q : Queue). IsQueueOf (length now.own) q) of within)

-- one empty queue more
pub record AreNew {Q : Type 0} (pairs : Q → Line) (room : Q → ℕ) (items : List Q) (server places : ℕ) : Type 0 where
  pub empty : map pairs items ≡ replicate server []
  pub rooms : (k its : ℕ) → slice_get (map room items) k ≡ Some its → its ≡ places
  pub count : length items ≡ server

pub new_more : (Q : Type 0) (pairs : Q → Line) (room : Q → ℕ) (items next : List Q) (server places : ℕ) (new : Q)
    → AreNew pairs room items server places → next ≡ items ++ new ∷ [] → pairs new ≡ [] → room new ≡ places
    → AreNew pairs room next (server + 1) places
new_more Q pairs room items next server places new are written empty full =
    subst (λ (l : List Q). AreNew pairs room l (server + 1) places) (sym written) (record {
      empty =
          map-append pairs items (new ∷ []) ∙ ap (λ (w : Line). map pairs items ++ w ∷ []) empty ∙ ap (λ (l : List Line). l ++ [] ∷ []) are.empty
          ∙ replicate_more server [];
      rooms =
          λ k its at. elim
          (get-push_cases (map room items) (room new) k its (ap (λ (l : List ℕ). slice_get l k) (sym (map-append room items (new ∷ [])))
          ∙ at)) [ inl e ↦ are.rooms k its e | inr e ↦ sym e.1 ∙ full ];
      count = length-append items (new ∷ []) ∙ ap (λ n. n + 1) are.count;
    })
