-- The first window begins at a proper base, and so does each window after a legal log.
use Rattle.std.proofs.Common.{◌≡◌, ℕ, suc, ◌+◌, ◌<◌, ◌^◌, nat_le, nat_lt, Bool, true, List, [], ◌∷◌}
use Rattle.std.proofs.Common.{Option, None, Some, length, replicate, All, IsTrue, refl, ap, sym, ◌∙◌, subst, arith}
use Rattle.std.proofs.lemmas.Bool.Decides.{nat_tests}
use Rattle.std.proofs.Math.ListN.{length-replicate}
use Rattle.std.proofs.lemmas.List.{length-map}
use Rattle.std.proofs.lemmas.Bool.{and_parts}
use Rattle.base_lists.proofs.Replicated.{count-replicate, none_in_empty}
use Rattle.check_state.proofs.Shortened.{same_up}
use Rattle.log_entries.specs.declared.allowance.Intake.TheVariants.{Open}
use Rattle.log_entries.specs.declared.entry.Entry.{Entry}
use Rattle.log_entries.specs.declared.entry.Entry.TheVariants.{Arrive, Done, Fail, Abort, Tick, Check, Limit, Direct}
use Rattle.log_entries.specs.declared.entry.Entry.TheVariants.{Joined, Granted, Moved, Freed, Retried, Left, Health, Ended}
use Rattle.log_entries.specs.declared.setup.ServerSet.{ServerSet}
use Rattle.log_entries.specs.declared.setup.Setup.{Setup}
use Rattle.log_entries.specs.Dispatch.{bound_of, IsGivenBetween}
use Rattle.log_entries.specs.Refusals.{lacks_room, pins_to_none, tickets_are_spent, is_full, arrival_refusal}
use Rattle.log_entries.specs.Setups.{IsSound, is_within, has_rise_and_fall}
use Rattle.log_entries.specs.Grants.{IsSettled}
use Rattle.log_entries.specs.Health.{is_up_by, ups_of, shortened_by, shortened_all}
use Rattle.log_entries.specs.Histories.{History, state_of, rolled, next_window, start_of}
use Rattle.log_entries.specs.Judgement.{AreLawful, Stage, MayCome, AllMayCome, granting, next_stage, stage_after}
use Rattle.log_entries.specs.Legal.{IsBase, IsLegal}
use Rattle.log_entries.specs.Rows.{has_ticket, rows_of, is_served_by}
use Rattle.log_entries.specs.States.{State, after, after_all, opening_state, Point, next_point}
use Rattle.log_entries.proofs.Accepted.{arrival_tests}
use Rattle.log_entries.proofs.Dispatched.{none_within, dispatched, base_consistent}
use Rattle.log_entries.proofs.Judged.{places_all, limits_all}
use Rattle.log_entries.proofs.Standing.{AreRowsBy, standing_all}
use Rattle.log_entries.proofs.Staying.{KeepsTo, keeps_all}
use Rattle.log_entries.proofs.Tried.{tried_all, tried_over}

none_between : {P : Type 0} (last ticket : ℕ) → IsGivenBetween last last ticket → P
none_between last ticket is = let low = is.after in let high = is.up_to in absurd (omega arith)

-- the first window's base
pub opening_base : (setup : Setup) → IsBase setup (opening_state setup)
opening_base setup = record {
  places = length-replicate setup.places None;
  checked = length-replicate (length setup.servers) [];
  limited = length-map setup.servers (λ (it : ServerSet). record { limit = Open it.limit; served = 0 });
  numbered = omega arith;
  timed = omega arith;
  timed_rows = λ row live. absurd (none_in_empty setup.places live.0 row live.1);
  at_servers = λ row live. absurd (none_in_empty setup.places live.0 row live.1);
  cursor = λ some. omega (arith, some);
  tried = λ row live untold. absurd (none_in_empty setup.places live.0 row live.1);
  dispatched = record {
    limits = λ server. none_within (bound_of (opening_state setup) server) _ (count-replicate (is_served_by server) setup.places None refl);
    one_place = λ ticket. record {
      arrives_once = none_between 0 ticket;
      arrives_given = λ some. absurd (omega (arith, some));
      until_its_end = refl;
      one_row = let none = no_row ticket in omega arith;
      row_given = λ some. let none = no_row ticket in absurd (omega arith);
    };
    placed = λ row live. absurd (none_in_empty setup.places live.0 row live.1);
    settled = λ server can. none_in_empty setup.places can.1.1.0 can.1.0 can.1.1.1;
  };
}
  where
    no_row : (ticket : ℕ) → rows_of ticket (replicate setup.places None) ≡ 0
    no_row ticket = count-replicate (has_ticket ticket) setup.places None refl

-- tickets and moments stay in their ranges
accepted_ticket : (setup : Setup) (s : State) (n : ℕ) (pin : Option ℕ) → arrival_refusal setup s n pin ≡ None → s.ticket + 1 < 2 ^ 40
accepted_ticket setup s n pin e =
    let tests = arrival_tests (lacks_room setup n) (pins_to_none setup pin) (tickets_are_spent s.ticket) (is_full setup s.rows) e in
    let more = tests.2 in
    grind (arith, nat_tests)

pub record IsInRange (s : State) : Type 0 where
  pub numbered : s.ticket < 2 ^ 40
  pub timed : s.moment < 2 ^ 62

at_moment : (s : State) (m : ℕ) → IsInRange s → m < 2 ^ 62 → (next : State) → next.ticket ≡ s.ticket → next.moment ≡ m → IsInRange next
at_moment s m is within next ticket moment = record {
  numbered = subst (λ k. k < 2 ^ 40) (sym ticket) is.numbered;
  timed = subst (λ k. k < 2 ^ 62) (sym moment) within;
}

as_before : (s next : State) → IsInRange s → next.ticket ≡ s.ticket → next.moment ≡ s.moment → IsInRange next
as_before s next is ticket moment = at_moment s s.moment is is.timed next ticket moment

range_after : (here : Point) (t : Stage) (e : Entry) → MayCome here t e → IsInRange here.state → IsInRange (after here.setup here.state e)
range_after here t (Arrive m a) may is =
    record {
      numbered = subst (λ k. k < 2 ^ 40) (sym may.1.numbered) (accepted_ticket here.setup here.state here.used a.pin may.0.accepted);
      timed = may.0.within;
    }
range_after here t (Done m u) may is = at_moment here.state m is may.within (after here.setup here.state (Done m u)) refl refl
range_after here t (Fail m u) may is = at_moment here.state m is may.within (after here.setup here.state (Fail m u)) refl refl
range_after here t (Abort m u) may is = at_moment here.state m is may.within (after here.setup here.state (Abort m u)) refl refl
range_after here t (Tick m) may is = at_moment here.state m is may.within (after here.setup here.state (Tick m)) refl refl
range_after here t (Check m v ok) may is = at_moment here.state m is may.within (after here.setup here.state (Check m v ok)) refl refl
range_after here t (Limit m v k) may is = at_moment here.state m is may.within (after here.setup here.state (Limit m v k)) refl refl
range_after here t (Direct u v) may is = as_before here.state (after here.setup here.state (Direct u v)) is refl refl
range_after here t (Joined u q) may is = as_before here.state (after here.setup here.state (Joined u q)) is refl refl
range_after here t (Granted u q v) may is = as_before here.state (after here.setup here.state (Granted u q v)) is refl refl
range_after here t (Moved u v) may is = as_before here.state (after here.setup here.state (Moved u v)) is refl refl
range_after here t (Freed u v) may is = as_before here.state (after here.setup here.state (Freed u v)) is refl refl
range_after here t (Retried u v k) may is = is
range_after here t (Left u c) may is = as_before here.state (after here.setup here.state (Left u c)) is refl refl
range_after here t (Health v up) may is = is
range_after here t (Ended u) may is = as_before here.state (after here.setup here.state (Ended u)) is refl refl

pub range_all : (here : Point) (t : Stage) (es : List Entry) → AllMayCome here t es → IsInRange here.state → IsInRange (after_all here.setup here.state es)
range_all here t [] all is = is
range_all here t (e ∷ es) all is = range_all (next_point here e) (next_stage t e) es all.1 (range_after here t e all.0 is)

pub legal_range : (h : History) → IsLegal h → IsInRange (state_of h)
legal_range h legal = range_all (start_of h) granting h.log legal.lawful.judged (record { numbered = legal.begins.numbered; timed = legal.begins.timed })

-- rows and the cursor keep to the servers that are there
pub legal_keeps : (h : History) → IsLegal h → KeepsTo (length h.setup.servers) (state_of h)
legal_keeps h legal = keeps_all (start_of h) granting h.log (record { rows = legal.begins.at_servers; cursor = legal.begins.cursor }) legal.lawful.judged

-- requests stand as they may by the moment
pub legal_standing : (h : History) → IsLegal h → AreRowsBy (state_of h).moment (state_of h).rows
legal_standing h legal = standing_all (start_of h) granting h.log legal.begins.timed_rows legal.lawful.judged

-- the shortest results leave the same servers up
shortened_up : (server : ServerSet) → IsTrue (is_within server) → (results : List Bool)
    → is_up_by server.rise_fall (shortened_by server.rise_fall results) ≡ is_up_by server.rise_fall results
shortened_up server within results = by_checks server.rise_fall (and_parts (nat_le server.weight 256) (has_rise_and_fall server.rise_fall) within).1
  where
    by_checks : (it : Option (ℕ × ℕ)) → has_rise_and_fall it ≡ true → is_up_by it (shortened_by it results) ≡ is_up_by it results
    by_checks None counts = refl
    by_checks (Some it) counts =
        let both = and_parts (nat_lt 0 it.0) (nat_lt 0 it.1) counts in
        let rise : 0 < it.0 = grind (arith, nat_tests) in
        let fall : 0 < it.1 = grind (arith, nat_tests) in
        same_up it.0 it.1 rise fall results

pub shortened_ups : (servers : List ServerSet) (results : List (List Bool)) → All (λ (it : ServerSet). IsTrue (is_within it)) servers
    → ups_of servers (shortened_all servers results) ≡ ups_of servers results
shortened_ups [] results within = refl
shortened_ups (server ∷ servers) [] within =
    rw (shortened_up server (within 0 server (omega arith)) [])
    (ap (λ l. is_up_by server.rise_fall [] ∷ l) (shortened_ups servers [] (λ k d few. within (suc k) d (omega arith))))
shortened_ups (server ∷ servers) (of_it ∷ results) within =
    rw (shortened_up server (within 0 server (omega arith)) of_it)
    (ap (λ l. is_up_by server.rise_fall of_it ∷ l) (shortened_ups servers results (λ k d few. within (suc k) d (omega arith))))

pub shortened_length : (servers : List ServerSet) (results : List (List Bool)) → length (shortened_all servers results) ≡ length servers
shortened_length [] results = refl
shortened_length (server ∷ servers) [] = ap suc (shortened_length servers [])
shortened_length (server ∷ servers) (of_it ∷ results) = ap suc (shortened_length servers results)

-- a window's end is a base
pub next_base : (h : History) → IsSound h.setup → IsLegal h → IsBase h.setup (rolled h.setup (state_of h))
next_base h sound legal =
    let is = dispatched h legal in
    let judged = legal.lawful.judged in
    let range = legal_range h legal in
    let keeps = legal_keeps h legal in
    record {
      places = places_all h.setup h.base h.log ∙ legal.begins.places;
      checked = shortened_length h.setup.servers (state_of h).results;
      limited = limits_all h.setup h.base h.log ∙ legal.begins.limited;
      numbered = range.numbered;
      timed = range.timed;
      timed_rows = legal_standing h legal;
      at_servers = keeps.rows;
      cursor = keeps.cursor;
      tried = tried_over h.setup (state_of h) (stage_after granting h.log)
          (tried_all (start_of h) granting h.log (base_consistent h.setup h.base legal.begins) judged
          (λ row live untold other. legal.begins.tried row live untold)) legal.lawful.whole;
      dispatched = record {
        limits = is.limits;
        one_place = λ ticket. record {
          arrives_once = none_between (state_of h).ticket ticket;
          arrives_given = λ some. absurd (omega (arith, some));
          until_its_end = refl;
          one_row = (is.one_place ticket).one_row;
          row_given = (is.one_place ticket).row_given;
        };
        placed = is.placed;
        settled = subst (λ ups. IsSettled (record { servers = h.setup.servers; limits = (state_of h).limits; ups = ups; rows = (state_of h).rows }))
            (sym (shortened_ups h.setup.servers (state_of h).results sound.within)) is.settled;
      };
    }

-- a log without an entry is legal from a base on
pub empty_legal : (h : History) → IsBase h.setup h.base → h.log ≡ [] → IsLegal h
empty_legal h begins none = record {
  begins = begins;
  lawful = subst (λ log. AreLawful (start_of h) log) (sym none) (record { judged = tt; whole = tt; settled = begins.dispatched.settled });
}

pub next_legal : (h : History) → IsSound h.setup → IsLegal h → IsLegal (next_window h)
next_legal h sound legal = empty_legal (next_window h) (next_base h sound legal) refl
