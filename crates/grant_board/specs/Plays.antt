-- What each step of the table tells: the step, its seat before, the number found (for a store, the
-- number stored) and the seat after; and how views are split and joined. The public contracts use
-- none of this.
use Rattle.std.specs.Prelude.{◌≡◌, ◌≢◌, ℕ, ◌+◌, ◌<◌, ◌≤◌, true, false, List, [], ◌∷◌, ◌++◌, length, Contains}
use Rattle.base_verdict.specs.declared.Verdict.{Verdict}
use Rattle.base_verdict.specs.declared.Ending.{Ending}
use Rattle.atomic_table.specs.Table.{Me, Step}
use Rattle.grant_board.specs.declared.laws.Word.TheVariants.{Offered, Taken, Posted}
use Rattle.grant_board.specs.declared.view.View.{View}
use Rattle.grant_board.specs.BoardWords.{encode_of, IsWord, IsAmong, IsUnposted}
use Rattle.base_lists.specs.Weights.{total}
use Rattle.grant_board.specs.Views.{Grant, grant, Terms, RelayView, KeeperPart, count_at, count_of, grants_without}
use Rattle.grant_board.specs.Names.{no_terms}
use Rattle.grant_board.specs.Rule.{NoTableSlots}
use Rattle.grant_board.specs.Ruled.{view, at_rest, MeetsRule, MeetsRuleWith}
use Rattle.grant_board.specs.KeeperCalls.{new_keeper, keeper_looked, offer_after, collect_after, limit_after}
use Rattle.grant_board.specs.RelayCalls.{new_relay, relay_looked, take_after, post_after, split_after, join_after}

abbrev pub Seated : Type 0
Seated = Me NoTableSlots View

abbrev pub Telling : Type 1
Telling = Step NoTableSlots → Seated → ℕ → Seated → Type 0

-- the view of a seat that was joined into another one
abbrev pub blank : View
blank = view [] []

-- a seat with these parts
abbrev pub seated : List KeeperPart → List RelayView → Seated
seated keepers relays = (view keepers relays, [])

abbrev pub keeper_seat : KeeperPart → Seated
keeper_seat k = seated (k ∷ []) []

abbrev pub relay_seat : RelayView → Seated
relay_seat r = seated [] (r ∷ [])

-- the view of the only seat of a new board
abbrev pub opened : Terms → View
opened terms = view (record { view = new_keeper terms; sight = [] } ∷ []) (new_relay terms true ∷ [])

-- the keeper's part and the relay's part of a seat; a default for a seat of the wrong kind
abbrev pub keeper_of : List KeeperPart → KeeperPart
keeper_of [] = at_rest (new_keeper no_terms)
keeper_of (k ∷ keepers) = k

abbrev pub relay_of : List RelayView → RelayView
relay_of [] = new_relay no_terms false
relay_of (r ∷ relays) = r

abbrev pub later : List RelayView → List RelayView
later [] = []
later (r ∷ relays) = relays

-- the telling of a step after which the rule holds
abbrev pub ruled : Telling → Telling
ruled told st m r n = told st m r n × MeetsRule n.0

-- the keeper stores a verdict
abbrev pub offers : Telling
offers st m r n =
    let k = keeper_of m.0.keepers in
    (ticket : ℕ) (verdict : Verdict) → IsWord (Offered ticket verdict) → st.first ≡ encode_of (Offered ticket verdict)
    → n ≡ keeper_seat (record k { view = offer_after k.view (grant st.word ticket verdict) })

-- the keeper loads a place's word, and remembers what it finds posted
abbrev pub sees : Telling
sees st m r n =
    let k = keeper_looked (keeper_of m.0.keepers).view st.word r in
    ((ticket : ℕ) (verdict : Verdict) (ending : Ending) → IsWord (Posted ticket verdict ending) → r ≡ encode_of (Posted ticket verdict ending)
    → n ≡ keeper_seat (record { view = k; sight = record { pass = grant st.word ticket verdict; ending = ending } ∷ [] }))
    × (IsUnposted r → n ≡ keeper_seat (at_rest k))

-- the keeper empties the place of what it remembers
abbrev pub clears : Telling
clears st m r n =
    let k = (keeper_of m.0.keepers).view in
    (ticket : ℕ) (verdict : Verdict) (ending : Ending) →
    let g = grant st.word ticket verdict in
    IsWord (Posted ticket verdict ending) → (keeper_of m.0.keepers).sight ≡ record { pass = g; ending = ending } ∷ []
    → (n ≡ keeper_seat (at_rest (collect_after k g ending))) × Contains k.out g
    × ((weight : Grant → ℕ) → total weight (grants_without st.word k.out) + weight g ≡ total weight k.out)

-- the keeper stores a server's mark
abbrev pub limits : Telling
limits st m r n =
    let k = keeper_of m.0.keepers in
    (server : ℕ) → server < length k.view.terms.limits → st.word ≡ k.view.terms.places + server
    → n ≡ keeper_seat (record k { view = limit_after k.view server st.first })

-- the keeper loads a word together with a relay's part: the relay's passes are out
abbrev pub vouches : Telling
vouches st m r n =
    let k = keeper_of m.0.keepers in
    let q = relay_of m.0.relays in
    (n ≡ seated (record k { view = keeper_looked k.view st.word r } ∷ []) (q ∷ []))
    × ((weight : Grant → ℕ) → total weight q.passes ≤ total weight k.view.out)

-- a relay loads a place's word
abbrev pub glances : Telling
glances st m r n = n ≡ relay_seat (relay_looked (relay_of m.0.relays) st.word r)

-- a relay takes an offer by one compare-exchange, or only looks
abbrev pub takes : Telling
takes st m r n =
    let q = relay_of m.0.relays in
    (ticket : ℕ) (verdict : Verdict) → IsWord (Offered ticket verdict) → st.first ≡ encode_of (Offered ticket verdict)
    → st.second ≡ encode_of (Taken ticket verdict)
    → (r ≡ st.first → (n ≡ relay_seat (take_after q (grant st.word ticket verdict)))
    × (length q.passes < q.terms.places) × IsAmong (length q.terms.limits) verdict)
    × (r ≢ st.first → n ≡ relay_seat (relay_looked q st.word r))

-- a relay posts how the exchange of a pass ended
abbrev pub posts : Telling
posts st m r n =
    let q = relay_of m.0.relays in
    (ticket : ℕ) (verdict : Verdict) (ending : Ending) →
    let g = grant st.word ticket verdict in
    IsWord (Posted ticket verdict ending) → st.first ≡ encode_of (Posted ticket verdict ending)
    → (n ≡ relay_seat (post_after q g ending))
    × ((weight : Grant → ℕ) → total weight (grants_without st.word q.passes) + weight g ≡ total weight q.passes)

-- two seats' passes are of different places; they are fewer of this server than its mark, where it
-- has one; and in all no more than there are places
pub record AreApart (places server bound : ℕ) (xs ys : List Grant) : Type 0 where
  pub different : (place : ℕ) → count_at place xs + count_at place ys ≤ 1
  pub bounded : 0 < bound → count_of server xs + count_of server ys < bound
  pub room : length xs + length ys ≤ places

-- a relay loads a server's word together with another relay's part
abbrev pub meets : Telling
meets st m r n =
    let q = relay_of m.0.relays in
    let other = relay_of (later m.0.relays) in
    (server : ℕ) → server < length q.terms.limits → st.word ≡ q.terms.places + server
    → (n ≡ seated [] (relay_looked q st.word r ∷ other ∷ [])) × AreApart q.terms.places server r q.passes other.passes × MeetsRuleWith n.0 server r

-- a load within a join, which doesn't count as a look
abbrev pub counts : Telling
counts st m r n = let q = relay_of m.0.relays in (n ≡ relay_seat q) × (length q.passes ≤ q.terms.places)

-- two seats as one, with both their parts
abbrev pub beside : View → View → View
beside v w = view (v.keepers ++ w.keepers) (v.relays ++ w.relays)

-- the relays but the last, and the last alone
abbrev pub but_last : List RelayView → List RelayView
but_last [] = []
but_last (r ∷ []) = []
but_last (r ∷ q ∷ relays) = r ∷ but_last (q ∷ relays)

abbrev pub last_alone : List RelayView → List RelayView
last_alone [] = []
last_alone (r ∷ []) = r ∷ []
last_alone (r ∷ q ∷ relays) = last_alone (q ∷ relays)

-- a seat without its last relay's part, and that part
abbrev pub aside : View → View
aside v = view v.keepers (but_last v.relays)

abbrev pub cut_off : View → View
cut_off v = view [] (last_alone v.relays)

-- the first seat after it split a new one off, and the new one
abbrev pub parent : View → View
parent v = view [] (split_after (relay_of v.relays) ∷ [])

abbrev pub child : View → View
child v = view [] (new_relay (relay_of v.relays).terms false ∷ [])

-- the first seat with another seat's lists after its own
abbrev pub views_joined : View → View → View
views_joined v w = view [] (join_after (relay_of v.relays) (relay_of w.relays) ∷ [])
