-- Logs that are judged entry by entry keep the order of their queues, and are readable.
use Rattle.std.proofs.Common.{◌≡◌, ℕ, ◌+◌, ◌≤◌, true, List, [], ◌∷◌, ◌++◌, Option, None, Some, IsSome}
use Rattle.std.proofs.Common.{is_some, length, IsTrue, refl, ap, sym, subst, arith, inl, inr, append_assoc, length-append}
use Rattle.std.specs.Option.{unwrap_or, IfSome, IsSomeAnd}
use Rattle.std.proofs.lemmas.Bool.{false≢true}
use Rattle.std.proofs.lemmas.List.{append-nil}
use Rattle.std.proofs.lemmas.Option.{same_Some}
use Rattle.std.proofs.lemmas.Bool.Decides.{Decides-eqb}
use Rattle.due_key.specs.declared.key.Key.{Key}
use Rattle.log_entries.specs.declared.entry.Arrival.{Arrival}
use Rattle.log_entries.specs.declared.entry.Entry.{Entry}
use Rattle.log_entries.specs.declared.entry.Entry.TheVariants.{Arrive, Done, Fail, Abort, Tick, Check, Limit, Granted}
use Rattle.log_entries.specs.declared.queue.Queue.{Queue}
use Rattle.log_entries.specs.declared.queue.Queue.TheVariants.{Backend, Server}
use Rattle.log_entries.specs.declared.row.Phase.{Phase}
use Rattle.log_entries.specs.declared.row.Phase.TheVariants.{Loose, Waiting, Serving, Told}
use Rattle.log_entries.specs.declared.row.Row.{Row}
use Rattle.log_entries.specs.declared.setup.Setup.{Setup}
use Rattle.log_entries.specs.Judgement.{Stage, granting, MayCome, next_stage, AllMayCome}
use Rattle.log_entries.specs.Grants.{IsSettled, IsLawfulGrant}
use Rattle.log_entries.specs.Rows.{IsRow, phase_waits_in}
use Rattle.log_entries.specs.Legal.{IsBase}
use Rattle.log_entries.specs.States.{State, scene, after, Point, point_of, next_point}
use Rattle.log_entries.specs.Scenes.{Scene, may_take, may_go_to}
use Rattle.log_entries.proofs.Dispatched.{base_consistent, last_after}
use Rattle.log_reading.specs.Grants.{Wait, arrival_in, moment_in, grant_in, moment_of, key_known, has_joined}
use Rattle.log_reading.specs.Windows.{base_rows}
use Rattle.log_reading.specs.declared.base.BaseRow.{BaseRow}
use Rattle.log_reading.proofs.Based.{base_arrived, base_joined}
use Rattle.log_reading.specs.Ordered.{TakesLeast, KeepsOrder, AllKeepOrder, HaveArrived, HaveJoined}
use Rattle.log_reading.specs.Readable.{MayFollow, AllFollow, IsReadable, HasArrived}
use Rattle.log_reading.proofs.Back.{origin, have_arrived_after}
use Rattle.log_reading.proofs.Moments.{moment_of-push}
use Rattle.log_reading.proofs.RowsLeft.{have_joined_after}

-- no row has a ticket past the last one
abbrev pub AreBelow : State → Type 0
AreBelow s = (row : Row) → IsRow s.rows row → row.key.ticket ≤ s.ticket

arrived_ticket : (setup : Setup) (s : State) (e : Entry) (a : Arrival) → arrival_in e ≡ Some a → (after setup s e).ticket ≡ a.ticket
arrived_ticket setup s (Arrive m b) a is = ap (λ (x : Arrival). x.ticket) (same_Some b a is)
arrived_ticket setup s e a is = cc

below_after : (here : Point) (t : Stage) (e : Entry) → AreBelow here.state → MayCome here t e → AreBelow (after here.setup here.state e)
below_after here t e below may row live =
    elim (origin here.setup here.state e live.0 row live.1) [
      | inl came ↦ let h : row.key.ticket ≡ came.arrival.ticket = ap (λ (r : Row). r.key.ticket) came.row in
          let k : (after here.setup here.state e).ticket ≡ came.arrival.ticket = arrived_ticket here.setup here.state e came.arrival came.is in omega arith
      | inr was ↦ let h : was.row.key.ticket ≤ here.state.ticket = below was.row (live.0, was.stands) in
          let k : here.state.ticket ≤ (after here.setup here.state e).ticket = last_after here t e may in
          let same : was.row.key.ticket ≡ row.key.ticket = ap (λ (x : Key). x.ticket) was.key in omega arith
    ]

-- a slot may go to whoever waits in a queue that it may go to
takes_own : (here : Scene) (server : ℕ) (q : Queue) (phase : Phase) → IsTrue (may_take here server q) → IsTrue (phase_waits_in q phase)
    → IsTrue (may_go_to here server phase)
takes_own here server q Loose take waits = absurd (false≢true waits)
takes_own here server q (Serving v) take waits = absurd (false≢true waits)
takes_own here server q (Told c) take waits = absurd (false≢true waits)
takes_own here server Backend (Waiting Backend m) take waits = take
takes_own here server Backend (Waiting (Server v) m) take waits = absurd (false≢true waits)
takes_own here server (Server w) (Waiting Backend m) take waits = absurd (false≢true waits)
takes_own here server (Server w) (Waiting (Server v) m) take waits = subst (λ k. IsTrue (may_take here server (Server k))) ((Decides-eqb w v).0 waits) take

takes_least : (here : Scene) (cursor u : ℕ) (q : Queue) (v : ℕ) → IsLawfulGrant here cursor u q v → TakesLeast here.rows (record { ticket = u; queue = q })
takes_least here cursor u q v grant = record {
  row = grant.row;
  live = grant.live;
  named = grant.named;
  waits = grant.waits;
  least = λ other live waits. grant.least other live (takes_own here v q other.phase grant.taken waits);
}

-- what is judged keeps the order of the queues
keeps : (here : Point) (t : Stage) (e : Entry) → AreBelow here.state → MayCome here t e → KeepsOrder here.state.rows e
keeps here t (Arrive m a) below may = record {
  fresh =
      λ row live same. let h : row.key.ticket ≤ here.state.ticket =
      below row live in let next : a.ticket ≡ here.state.ticket + 1 = may.1.numbered in absurd (omega arith);
  least = tt;
}
keeps here t (Granted u q v) below may = record { fresh = tt; least = takes_least (scene here.setup here.state) here.state.cursor u q v may.1 }
keeps here t e below may = record { fresh = tt; least = tt }

all_keep : (here : Point) (t : Stage) (es : List Entry) → AreBelow here.state → AllMayCome here t es → AllKeepOrder here.setup here.state es
all_keep here t [] below all = tt
all_keep here t (e ∷ es) below all =
    (keeps here t e below all.0, all_keep (next_point here e) (next_stage t e) es (below_after here t e below all.0) all.1)

base_below : (setup : Setup) (base : State) → IsBase setup base → AreBelow base
base_below setup base is row live = (base_consistent setup base is).below live.0 row live.1

pub judged_keep_order : (setup : Setup) (base : State) (log : List Entry) → IsBase setup base → AllMayCome (point_of setup base 0) granting log
    → AllKeepOrder setup base log
judged_keep_order setup base log is all = all_keep (point_of setup base 0) granting log (base_below setup base is) all

-- ---- readable

-- the moments of a state and of the log that left it rise together
moment_after : (setup : Setup) (past : List Entry) (s : State) (e : Entry) → moment_of past ≤ s.moment → moment_of (past ++ e ∷ []) ≤ (after setup s e).moment
moment_after setup past s e low = subst (λ m. m ≤ (after setup s e).moment) (sym (moment_of-push past e)) (by_entry e)
  where
    by_entry : (x : Entry) → unwrap_or (moment_in x) (moment_of past) ≤ (after setup s x).moment
    by_entry (Arrive m a) = omega arith
    by_entry (Done m u) = omega arith
    by_entry (Fail m u) = omega arith
    by_entry (Abort m u) = omega arith
    by_entry (Tick m) = omega arith
    by_entry (Check m v ok) = omega arith
    by_entry (Limit m v k) = omega arith
    by_entry x = low

-- what is known of a window where more follows
record IsRead (base : List BaseRow) (setup : Setup) (past : List Entry) (s : State) (t : Stage) : Type 0 where
  below : AreBelow s
  arrived : HaveArrived base past s.rows
  joined : HaveJoined base past s.rows
  moment : moment_of past ≤ s.moment
  begun : length past ≡ 0 → (t ≡ granting) × IsSettled (scene setup s)

module _ (base : List BaseRow) (setup : Setup) where
  has_come : (past : List Entry) (u : ℕ) (row : Row) → HasArrived base past row.key.ticket row.key.class row.key.due → row.key.ticket ≡ u
      → IsSome (key_known base u past)
  has_come past u row has named = subst (λ n. IsSome (key_known base n past)) named (go (key_known base row.key.ticket past) has)
    where
      go : (o : Option Key) → IsSomeAnd o (λ it. (it.class ≡ row.key.class) × (it.due ≡ row.key.due)) → is_some o ≡ true
      go None h = absurd h
      go (Some a) h = refl

  begins : (past : List Entry) (s : State) (t : Stage) (e : Entry) (m : ℕ) → IsRead base setup past s t → s.moment ≤ m → moment_in e ≡ Some m
      → grant_in e ≡ None → MayFollow base past e
  begins past s t e m is later at none = record {
    begins = λ h. ap is_some at;
    later = subst (λ o. IfSome o (λ moment. moment_of past ≤ moment)) (sym at) (let low = is.moment in omega (arith, low, later));
    arrived = subst (λ o. IfSome o (λ (wait : Wait). IsSome (key_known base wait.ticket past))) (sym none) tt;
    joined = subst (λ o. IfSome o (λ (wait : Wait). IsTrue (has_joined base wait.ticket wait.queue past))) (sym none) tt;
  }

  may_follow : (past : List Entry) (s : State) (n : ℕ) (t : Stage) (e : Entry) → IsRead base setup past s t → MayCome (point_of setup s n) t e
      → MayFollow base past e
  may_follow past s n t (Arrive m a) is may = begins past s t (Arrive m a) m is may.0.later refl refl
  may_follow past s n t (Done m u) is may = begins past s t (Done m u) m is may.later refl refl
  may_follow past s n t (Fail m u) is may = begins past s t (Fail m u) m is may.later refl refl
  may_follow past s n t (Abort m u) is may = begins past s t (Abort m u) m is may.later refl refl
  may_follow past s n t (Tick m) is may = begins past s t (Tick m) m is may.later refl refl
  may_follow past s n t (Check m v ok) is may = begins past s t (Check m v ok) m is may.later refl refl
  may_follow past s n t (Limit m v k) is may = begins past s t (Limit m v k) m is may.later refl refl
  may_follow past s n t (Granted u q v) is may =
      let grant = may.1 in
      record {
        begins = λ h. absurd ((is.begun h).1 v grant.next.takes);
        later = tt;
        arrived = has_come past u grant.row (is.arrived grant.row grant.live) grant.named;
        joined = subst (λ k. IsTrue (has_joined base k q past)) grant.named (is.joined grant.row q grant.live grant.waits);
      }
  may_follow past s n granting e is may = absurd may
  may_follow past s n t e is may = record { begins = λ h. (let b = (is.begun h).0 in cc); later = tt; arrived = tt; joined = tt }

  read_after : (past : List Entry) (s : State) (n : ℕ) (t : Stage) (e : Entry) → IsRead base setup past s t → MayCome (point_of setup s n) t e
      → IsRead base setup (past ++ e ∷ []) (after setup s e) (next_stage t e)
  read_after past s n t e is may = record {
    below = below_after (point_of setup s n) t e is.below may;
    arrived = have_arrived_after base setup past s e is.arrived (keeps (point_of setup s n) t e is.below may);
    joined = have_joined_after base setup past s e is.joined;
    moment = moment_after setup past s e is.moment;
    begun = λ h. absurd (omega (arith, h, length-append past (e ∷ [])));
  }

  all_follow : (past : List Entry) (s : State) (n : ℕ) (t : Stage) (es : List Entry) → IsRead base setup past s t → AllMayCome (point_of setup s n) t es
      → AllFollow base past es
  all_follow past s n t [] is all = tt
  all_follow past s n t (e ∷ es) is all = (
    may_follow past s n t e is all.0,
    all_follow (past ++ e ∷ []) (after setup s e) (n + 1) (next_stage t e) es (read_after past s n t e is all.0) all.1,
  )

pub judged_readable : (setup : Setup) (base : State) (log : List Entry) → IsBase setup base → AllMayCome (point_of setup base 0) granting log
    → IsReadable (record { base = base_rows base.rows; entries = log })
judged_readable setup base log is all = all_follow (base_rows base.rows) setup [] base 0 granting log opened all
  where
    opened : IsRead (base_rows base.rows) setup [] base granting
    opened = record {
      below = base_below setup base is;
      arrived = base_arrived setup base is;
      joined = base_joined setup base is;
      moment = omega arith;
      begun = λ h. (refl, is.dispatched.settled);
    }

-- ---- one entry more

last_follows : (base : List BaseRow) (past es : List Entry) (e : Entry) → AllFollow base past (es ++ e ∷ []) → MayFollow base (past ++ es) e
last_follows base past [] e all = subst (λ l. MayFollow base l e) (sym (append-nil past)) all.0
last_follows base past (x ∷ es) e all = subst (λ l. MayFollow base l e) (append_assoc past (x ∷ []) es) (last_follows base (past ++ x ∷ []) es e all.1)

-- the last entry of a judged log may follow those before it
pub judged_follows : (setup : Setup) (base : State) (log : List Entry) (e : Entry) → IsBase setup base
    → AllMayCome (point_of setup base 0) granting (log ++ e ∷ [])
    → MayFollow (base_rows base.rows) log e
judged_follows setup base log e is all = last_follows (base_rows base.rows) [] log e (judged_readable setup base (log ++ e ∷ []) is all)
