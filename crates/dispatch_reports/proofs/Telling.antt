-- What an event adds to the grants of a window, and what is known of each of them.
use Rattle.std.proofs.Common.{◌≡◌, ℕ, zero, suc, ◌<◌, ◌≤◌, ◌==◌, Bool, true, false, cond, ℤ, List, [], ◌∷◌, ◌++◌, length, take, drop, All}
use Rattle.std.proofs.Common.{Option, Some, None, IsTrue, replicate, refl, sym, ap, subst, ◌∙◌, arith}
use Rattle.std.specs.List.{AllByRecursion, fold}
use Rattle.std.specs.Option.{IfSome, IsSomeAnd, option_map_or}
use Rattle.std.proofs.lemmas.List.{append_assoc, append-nil}
use Rattle.std.proofs.lemmas.List.Elements.{All-head, All-tail}
use Rattle.std.proofs.Math.Seq.{drop-append_seam}
use Rattle.std.proofs.lemmas.Option.{same_Some}
use Rattle.std.proofs.lemmas.Bool.Decides.{Decides-eqb}
use Rattle.std.proofs.lemmas.List.{take_at, length-append}
use Rattle.base_lists.proofs.Both.{and_second}
use Rattle.log_entries.proofs.Choices.{free_there}
use Rattle.base_lists.proofs.Members.{all_append, all_both}
use Rattle.base_lists.proofs.Never.{false_true}
use Rattle.due_key.specs.declared.key.Key.{Key}
use Rattle.log_entries.specs.declared.entry.Arrival.{Arrival}
use Rattle.log_entries.specs.declared.entry.Entry.{Entry}
use Rattle.log_entries.specs.declared.entry.Entry.TheVariants.{Arrive, Granted}
use Rattle.log_entries.specs.declared.queue.Queue.{Queue}
use Rattle.log_entries.specs.declared.queue.Queue.TheVariants.{Backend, Server}
use Rattle.log_entries.specs.declared.setup.Setup.{Setup}
use Rattle.log_entries.specs.Histories.{History, first_window, next_window, rolled, state_of, begins_event, end_of}
use Rattle.log_entries.specs.Judgement.{Stage, AllMayCome, MayCome, next_stage, granting}
use Rattle.log_entries.specs.Legal.{AddsEvent, IsLegal}
use Rattle.log_entries.specs.Logs.{Recorded}
use Rattle.log_entries.specs.States.{State, opening_state, scene, key_of, Point, next_point}
use Rattle.log_entries.specs.Scenes.{may_take, is_free, is_up}
use Rattle.log_entries.specs.Rows.{Rows, IsRow}
use Rattle.log_entries.specs.declared.row.Row.{Row}
use Rattle.log_reading.specs.Ordered.{HaveArrived}
use Rattle.log_reading.specs.Readable.{HasArrived}
use Rattle.log_reading.proofs.Based.{base_arrived}
use Rattle.log_reading.proofs.RowsLeft.{rows_arrived}
use Rattle.log_reading.proofs.Judged.{judged_keep_order}
use Rattle.log_reading.specs.Grants.{Wait, arrival_in, grant_in, newer_key, key_known, grant_after, grants_after, grants}
use Rattle.log_reading.specs.Windows.{base_rows, newer_base_key, base_key, window_in, window_of}
use Rattle.log_reading.specs.declared.base.BaseRow.{BaseRow}
use Rattle.log_reading.specs.declared.grant.SlotGrant.{SlotGrant}
use Rattle.log_reading.proofs.Timely.{follows}
use Rattle.log_entries.specs.Queues.{IsQueueOf}
use Rattle.late_cert.specs.Running.{has_class_room, worst_so_far, latenesses_of, HasRoomFor, IsGreatest, IsWorstAmong}
use Rattle.late_cert.specs.declared.table.Running.{Running}
use Rattle.dispatch_core.specs.declared.event.Event.{Event}
use Rattle.dispatch_core.specs.declared.event.Event.TheVariants.{Done, Fail, Abort, Tick, Check, Limit}
use Rattle.dispatch_core.specs.Occurrences.{entry_of}
use Rattle.dispatch_reports.specs.Reporting.{HaveClasses, IsNew, IsReporting}

-- the grants of entries behind others
grants_behind : (base : List BaseRow) (past es fs : List Entry)
    → grants_after base past (es ++ fs) ≡ grants_after base past es ++ grants_after base (past ++ es) fs
grants_behind base past [] fs = ap (λ l. grants_after base l fs) (sym (append-nil past))
grants_behind base past (e ∷ es) fs =
    let own : List SlotGrant = option_map_or (λ grant. grant ∷ []) (grant_after base past e) [] in
    ap (λ l. own ++ l) (grants_behind base (past ++ e ∷ []) es fs
    ∙ ap (λ l. grants_after base (past ++ e ∷ []) es ++ grants_after base l fs) (append_assoc past (e ∷ []) es))
    ∙ sym (append_assoc own (grants_after base (past ++ e ∷ []) es) (grants_after base (past ++ e ∷ es) fs))

-- ---- classes

module _ (P : ℤ → Type 0) where
  abbrev KnownClass : Option Key → Type 0
  KnownClass known = IfSome known (λ key. P key.class)

  base_class : (ticket : ℕ) (rows : List BaseRow) (known : Option Key) → KnownClass known → AllByRecursion (λ row. P row.class) rows
      → KnownClass (fold (newer_base_key ticket) known rows)
  base_class ticket [] known has all = has
  base_class ticket (row ∷ rows) known has all = base_class ticket rows (newer_base_key ticket known row) (by_test (row.ticket == ticket)) all.1
    where
      by_test : (b : Bool) → KnownClass (cond b (Some (record { class = row.class; due = row.due; ticket = row.ticket })) known)
      by_test true = all.0
      by_test false = has

  log_class : (ticket : ℕ) (es : List Entry) (known : Option Key) → KnownClass known
      → AllByRecursion (λ entry. IfSome (arrival_in entry) (λ arrival. P arrival.class)) es → KnownClass (fold (newer_key ticket) known es)
  log_class ticket [] known has all = has
  log_class ticket (e ∷ es) known has all = log_class ticket es (newer_key ticket known e) (by_arrival (arrival_in e) all.0) all.1
    where
      by_arrival : (o : Option Arrival) → IfSome o (λ arrival. P arrival.class)
          → KnownClass (option_map_or (λ it. cond (it.ticket == ticket) (Some (key_of it)) known) o known)
      by_arrival None came = has
      by_arrival (Some it) came = by_test (it.ticket == ticket)
        where
          by_test : (b : Bool) → KnownClass (cond b (Some (key_of it)) known)
          by_test true = came
          by_test false = has

  known_class : (base : List BaseRow) (past : List Entry) (ticket : ℕ) → HaveClasses P base past → KnownClass (key_known base ticket past)
  known_class base past ticket have = log_class ticket past (base_key ticket base) (base_class ticket base None tt have.waited) have.arrived

  abbrev ArriveSo : List Entry → Type 0
  ArriveSo es = AllByRecursion (λ entry. IfSome (arrival_in entry) (λ arrival. P arrival.class)) es

  pub granted_classes : (base : List BaseRow) (past es : List Entry) → HaveClasses P base past → ArriveSo es
      → AllByRecursion (λ grant. P grant.class) (grants_after base past es)
  granted_classes base past [] have arrive = tt
  granted_classes base past (e ∷ es) have arrive =
      all_append (λ grant. P grant.class) (option_map_or (λ grant. grant ∷ []) (grant_after base past e) []) (grants_after base (past ++ e ∷ []) es)
      (by_grant (grant_after base past e) refl)
      (granted_classes base (past ++ e ∷ []) es (record { waited = have.waited; arrived = all_append _ past (e ∷ []) have.arrived (arrive.0, tt) }) arrive.1)
    where
      by_grant : (o : Option SlotGrant) → grant_after base past e ≡ o → AllByRecursion (λ grant. P grant.class) (option_map_or (λ grant. grant ∷ []) o [])
      by_grant None made = tt
      by_grant (Some g) made =
          let f = follows base past e g made in
          let known : KnownClass (Some f.key) = subst KnownClass f.known (known_class base past f.wait.ticket have) in
          (subst P (sym (ap (λ (x : SlotGrant). x.class) f.made)) known, tt)

-- entries that are no events are no arrivals
none_arrive : (P : ℤ → Type 0) (es : List Entry) → All (λ entry. begins_event entry ≡ false) es → ArriveSo P es
none_arrive P [] none = tt
none_arrive P (e ∷ es) none = (
  by_entry e (All-head (λ x. begins_event x ≡ false) e es none),
  none_arrive P es (All-tail (λ x. begins_event x ≡ false) e es none),
)
  where
    by_entry : (x : Entry) → begins_event x ≡ false → IfSome (arrival_in x) (λ arrival. P arrival.class)
    by_entry (Arrive m a) is = false_true (sym is)
    by_entry x is = tt

-- what follows from what holds of each class
pub classes_on : (P Q : ℤ → Type 0) → ((class : ℤ) → P class → Q class) → (base : List BaseRow) (log : List Entry) → HaveClasses P base log
    → HaveClasses Q base log
classes_on P Q on base log have = record { waited = each_row base have.waited; arrived = each_entry log have.arrived }
  where
    each_row : (rows : List BaseRow) → AllByRecursion (λ row. P row.class) rows → AllByRecursion (λ row. Q row.class) rows
    each_row [] all = tt
    each_row (row ∷ rows) all = (on row.class all.0, each_row rows all.1)

    each_entry : (es : List Entry) → ArriveSo P es → ArriveSo Q es
    each_entry [] all = tt
    each_entry (e ∷ es) all = (by_arrival (arrival_in e) all.0, each_entry es all.1)
      where
        by_arrival : (o : Option Arrival) → IfSome o (λ arrival. P arrival.class) → IfSome o (λ arrival. Q arrival.class)
        by_arrival None has = tt
        by_arrival (Some it) has = on it.class has

-- ---- queues

-- the queue that a server's slot may go to is of a server that there is
queue_there : (setup : Setup) (s : State) (queue : Queue) (server : ℕ) → may_take (scene setup s) server queue ≡ true
    → is_free (scene setup s) server ≡ true → IsQueueOf (length setup.servers) queue
queue_there setup s Backend server takes free = tt
queue_there setup s (Server own) server takes free =
    subst (λ n. n < length setup.servers) (sym ((Decides-eqb own server).0 (and_second (is_up (scene setup s) server) (own == server) takes)))
    (free_there (scene setup s) server free)

pub granted_queues : (here : Point) (stage : Stage) (base : List BaseRow) (past es : List Entry)
    → AllMayCome here stage es → AllByRecursion (λ grant. IsQueueOf (length here.setup.servers) grant.queue) (grants_after base past es)
granted_queues here stage base past [] all = tt
granted_queues here stage base past (e ∷ es) all =
    all_append (λ grant. IsQueueOf (length here.setup.servers) grant.queue)
    (option_map_or (λ grant. grant ∷ []) (grant_after base past e) []) (grants_after base (past ++ e ∷ []) es)
    (by_grant (grant_after base past e) refl)
    (granted_queues (next_point here e) (next_stage stage e) base (past ++ e ∷ []) es all.1)
  where
    by_entry : (x : Entry) (wait : Wait) → MayCome here stage x → grant_in x ≡ Some wait → IsQueueOf (length here.setup.servers) wait.queue
    by_entry (Granted ticket queue server) wait may is =
        let lawful = may.1 in
        subst (λ (w : Wait). IsQueueOf (length here.setup.servers) w.queue) (same_Some _ _ is)
        (queue_there here.setup here.state queue server lawful.taken lawful.next.takes.0)
    by_entry x wait may is = cc

    by_grant : (o : Option SlotGrant) → grant_after base past e ≡ o
        → AllByRecursion (λ grant. IsQueueOf (length here.setup.servers) grant.queue) (option_map_or (λ grant. grant ∷ []) o [])
    by_grant None made = tt
    by_grant (Some g) made =
        let f = follows base past e g made in
        (subst (IsQueueOf (length here.setup.servers)) (sym (ap (λ (x : SlotGrant). x.queue) f.made)) (by_entry e f.wait all.0 f.is), tt)

-- ---- an event

-- no event but an arrival brings a request, and so a class
pub brings_no_class : (h : History) (running : Running) (event : Event)
    → IfSome (arrival_in (entry_of h event)) (λ arrival. IsTrue (has_class_room running arrival.class))
brings_no_class h running (Done moment ticket) = tt
brings_no_class h running (Fail moment ticket) = tt
brings_no_class h running (Abort moment ticket) = tt
brings_no_class h running (Tick moment) = tt
brings_no_class h running (Check moment server answered) = tt
brings_no_class h running (Limit moment server limit) = tt

-- what an event makes of the grants of a window, where there is room for the class of each request
pub record IsTelling (h new : History) (running : Running) : Type 0 where
  pub from : length (grants (window_in h)) ≤ length (grants (window_in new))
  pub told : take (length (grants (window_in h))) (grants (window_in new)) ≡ grants (window_in h)
  pub room : AllByRecursion (HasRoomFor running) (drop (length (grants (window_in h))) (grants (window_in new)))
  pub kept : HaveClasses (λ class. IsTrue (has_class_room running class)) (base_rows new.base.rows) new.log

module _ (h new : History) (e : Entry) (running : Running) (queues : running.servers ≡ length h.setup.servers)
    (have : HaveClasses (λ class. IsTrue (has_class_room running class)) (base_rows h.base.rows) h.log)
    (own : IfSome (arrival_in e) (λ arrival. IsTrue (has_class_room running arrival.class))) (adds : AddsEvent h new e) where
  abbrev P : ℤ → Type 0
  P class = IsTrue (has_class_room running class)

  abbrev base : List BaseRow
  base = base_rows h.base.rows

  abbrev old : List SlotGrant
  old = grants (window_in h)

  abbrev added : List SlotGrant
  added = grants_after base h.log (e ∷ adds.brought)

  same_base : base_rows new.base.rows ≡ base
  same_base = ap (λ (b : State). base_rows b.rows) adds.base

  came : ArriveSo P (e ∷ adds.brought)
  came = (own, none_arrive P adds.brought adds.one_event)

  parts : grants (window_in new) ≡ old ++ added
  parts = ap (λ b. grants_after b [] new.log) same_base ∙ ap (grants_after base []) adds.log ∙ grants_behind base [] h.log (e ∷ adds.brought)

  pub tells : IsTelling h new running
  tells = record {
    from = subst (λ (l : List SlotGrant). length old ≤ length l) (sym parts) (omega (arith, length-append old added));
    told = ap (take (length old)) parts ∙ take_at old added (length old) refl;
    room = subst (AllByRecursion (HasRoomFor running)) (sym (ap (drop (length old)) parts ∙ drop-append_seam old added))
        (all_both (λ grant. IsQueueOf running.servers grant.queue) (λ grant. IsTrue (has_class_room running grant.class)) added
        (subst (λ n. AllByRecursion (λ grant. IsQueueOf n grant.queue) added) (sym queues)
        (granted_queues (end_of h) granting base h.log (e ∷ adds.brought) adds.lawful.judged))
        (granted_classes P base h.log (e ∷ adds.brought) have came));
    kept = subst (λ b. HaveClasses P b new.log) (sym same_base) (subst (HaveClasses P base) (sym adds.log)
        (record {
          waited = have.waited;
          arrived = all_append (λ entry. IfSome (arrival_in entry) (λ arrival. P arrival.class)) h.log (e ∷ adds.brought) have.arrived came;
        }));
  }

-- what a running worst asks before it is told of the grants of a log from a number on
pub record IsReady (log : Recorded) (before : List SlotGrant) (running : Running) : Type 0 where
  pub from : length before ≤ length (grants (window_of log))
  pub told : IsWorstAmong (take (length before) (grants (window_of log))) running
  pub room : AllByRecursion (HasRoomFor running) (drop (length before) (grants (window_of log)))

pub ready : (h new : History) (running : Running) (was now : Recorded) (before : List SlotGrant) → IsTelling h new running
    → IsWorstAmong (grants (window_in h)) running → before ≡ grants (window_of was) → window_of was ≡ window_in h → window_of now ≡ window_in new
    → IsReady now before running
ready h new running was now before tells worst listed same next =
    let all : before ≡ grants (window_in h) = listed ∙ ap grants same in
    let after : grants (window_of now) ≡ grants (window_in new) = ap grants next in
    record {
      from = subst (λ (l : List SlotGrant). length l ≤ length (grants (window_of now))) (sym all)
          (subst (λ (l : List SlotGrant). length (grants (window_in h)) ≤ length l) (sym after) tells.from);
      told = subst (λ l. IsWorstAmong l running)
          (sym (ap (λ (l : List SlotGrant). take (length l) (grants (window_of now))) all ∙ ap (take (length (grants (window_in h)))) after
          ∙ tells.told)) worst;
      room = subst (AllByRecursion (HasRoomFor running))
          (sym (ap (λ (l : List SlotGrant). drop (length l) (grants (window_of now))) all ∙ ap (drop (length (grants (window_in h)))) after)) tells.room;
    }

-- and what it is after that
pub reported : (h new : History) (running later : Running) (now : Recorded) → IsTelling h new running → running.servers ≡ length h.setup.servers
    → new.setup ≡ h.setup → window_of now ≡ window_in new → IsWorstAmong (grants (window_of now)) later
    → ((class : ℤ) → has_class_room later class ≡ has_class_room running class) → later.servers ≡ running.servers → IsReporting new later
reported h new running later now tells queues setup next worst room servers = record {
  queues = servers ∙ queues ∙ ap (λ (s : Setup). length s.servers) (sym setup);
  worst = subst (λ w. IsWorstAmong (grants w) later) next worst;
  room = classes_on (λ class. IsTrue (has_class_room running class)) (λ class. IsTrue (has_class_room later class)) (λ class has. subst IsTrue (sym (room class)) has)
      (base_rows new.base.rows) new.log tells.kept;
}

-- where there is more room and all else is as it was
pub reserved : (h : History) (running later : Running) → IsReporting h running
    → ((class : ℤ) → IsTrue (has_class_room running class) → IsTrue (has_class_room later class))
    → ((queue : Queue) (class : ℤ) → worst_so_far later queue class ≡ worst_so_far running queue class) → later.servers ≡ running.servers
    → IsReporting h later
reserved h running later is room worst servers = record {
  queues = servers ∙ is.queues;
  worst = λ queue class in_range. subst (IsGreatest (latenesses_of queue class (grants (window_in h)))) (sym (worst queue class))
      (is.worst queue class in_range);
  room = classes_on (λ class. IsTrue (has_class_room running class)) (λ class. IsTrue (has_class_room later class)) room (base_rows h.base.rows) h.log is.room;
}

-- ---- windows

none_waits : (P : ℤ → Type 0) (places : ℕ) → AllByRecursion (λ (row : BaseRow). P row.class) (base_rows (replicate places None))
none_waits P zero = tt
none_waits P (suc places) = none_waits P places

-- a running worst that was told nothing is that of a window without entries
nothing_told : (setup : Setup) (begins : State) (running : Running) → ((queue : Queue) (class : ℤ) → worst_so_far running queue class ≡ None)
    → IsWorstAmong (grants (window_in (record { setup = setup; base = begins; log = [] }))) running
nothing_told setup begins running none queue class in_range = subst (IsGreatest []) (sym (none queue class)) refl

pub begun : (h : History) (running : Running) → h ≡ first_window h.setup [] → IsNew running (length h.setup.servers) → IsReporting h running
begun h running first new = subst (λ (x : History). IsReporting x running) (sym first) (record {
  queues = new.queues;
  worst = nothing_told h.setup (opening_state h.setup) running new.none;
  room = record { waited = none_waits (λ class. IsTrue (has_class_room running class)) h.setup.places; arrived = tt };
})

-- the live requests have the classes of a window's requests
live_classes : (P : ℤ → Type 0) (h : History) → IsLegal h → HaveClasses P (base_rows h.base.rows) h.log
    → AllByRecursion (λ (row : BaseRow). P row.class) (base_rows (state_of h).rows)
live_classes P h legal have = each (state_of h).rows (λ row live. of_row row (arrived row live))
  where
    arrived : HaveArrived (base_rows h.base.rows) h.log (state_of h).rows
    arrived = rows_arrived (base_rows h.base.rows) h.setup h.base h.log (base_arrived h.setup h.base legal.begins)
        (judged_keep_order h.setup h.base h.log legal.begins legal.lawful.judged)

    of_row : (row : Row) → HasArrived (base_rows h.base.rows) h.log row.key.ticket row.key.class row.key.due → P row.key.class
    of_row row = by_key (key_known (base_rows h.base.rows) row.key.ticket h.log) (known_class P (base_rows h.base.rows) h.log row.key.ticket have)
      where
        by_key : (o : Option Key) → IfSome o (λ key. P key.class) → IsSomeAnd o (λ it. (it.class ≡ row.key.class) × (it.due ≡ row.key.due)) → P row.key.class
        by_key None known is = absurd is
        by_key (Some key) known is = subst P is.0 known

    each : (rows : Rows) → ((row : Row) → IsRow rows row → P row.key.class) → AllByRecursion (λ (row : BaseRow). P row.class) (base_rows rows)
    each [] of = tt
    each (None ∷ rows) of = each rows (λ row live. of row (suc live.0, live.1))
    each (Some row ∷ rows) of = (of row (0, refl), each rows (λ other live. of other (suc live.0, live.1)))

pub rolled_on : (h new : History) (running later : Running) → IsLegal h → IsReporting h running → new ≡ next_window h
    → ((queue : Queue) (class : ℤ) → worst_so_far later queue class ≡ None) → ((class : ℤ) → has_class_room later class ≡ has_class_room running class)
    → later.servers ≡ running.servers → IsReporting new later
rolled_on h new running later legal is next none room servers = subst (λ (x : History). IsReporting x later) (sym next) (record {
  queues = servers ∙ is.queues;
  worst = nothing_told h.setup (rolled h.setup (state_of h)) later none;
  room = record {
    waited = live_classes (λ class. IsTrue (has_class_room later class)) h legal
        (classes_on (λ class. IsTrue (has_class_room running class)) (λ class. IsTrue (has_class_room later class)) (λ class has. subst IsTrue (sym (room class)) has)
        (base_rows h.base.rows) h.log is.room);
    arrived = tt;
  };
})
