-- a timeout keeps its number while others are added
use Rattle.std.proofs.Common.{Option, Some, subst, ℕ}
use Rattle.loop_shared.specs.Timed.{IsTimed}
use Rattle.loop_events.proofs.timing.Keywords.of.Goals as goal

pub returns : goal.returns
returns c =
    let config = c.args.front.now.config.now in
    let client = c.in_ok-timed.field-0 in
    let connect = c.in_ok-timed-2.field-0 in
    let server = c.in_ok-timed-3.field-0 in
    let keep_alive = c.in_ok-timed-4.field-0 in
    let linger = c.in_ok-timed-5.field-0 in
    let turnaround = c.in_ok-timed-6.field-0 in
    let unused = c.in_ok-timed-7.field-0 in
    let two = c.in_ok-timed-2.ensures.kept in
    let three = c.in_ok-timed-3.ensures.kept in
    let four = c.in_ok-timed-4.ensures.kept in
    let five = c.in_ok-timed-5.ensures.kept in
    let six = c.in_ok-timed-6.ensures.kept in
    let seven = c.in_ok-timed-7.ensures.kept in
    let at_four : (other number : Option ℕ) → IsTimed c.timed-4.new.timers c.args.room other number → IsTimed c.timed-7.new.timers c.args.room other number =
    λ other number h. seven other number (six other number (five other number h)) in
    let at_two : (other number : Option ℕ) → IsTimed c.timed-2.new.timers c.args.room other number → IsTimed c.timed-7.new.timers c.args.room other number =
    λ other number h. at_four other number (four other number (three other number h)) in
    record {
      client = at_two config.client_timeout client (two config.client_timeout client c.in_ok-timed.ensures.number);
      connect = at_two config.connect_timeout connect c.in_ok-timed-2.ensures.number;
      server = at_four config.server_timeout server (four config.server_timeout server c.in_ok-timed-3.ensures.number);
      keep_alive = at_four c.args.front.now.keeping keep_alive c.in_ok-timed-4.ensures.number;
      linger = seven (Some 2000) linger (six (Some 2000) linger c.in_ok-timed-5.ensures.number);
      turnaround = subst (λ millis. IsTimed c.timed-7.new.timers c.args.room (Some millis) turnaround) c.turnaround-turnaround.ensures
          (seven (Some c.turnaround-turnaround.result) turnaround c.in_ok-timed-6.ensures.number);
      unused = subst (λ millis. IsTimed c.timed-7.new.timers c.args.room millis unused) c.unused_time-unused.ensures c.in_ok-timed-7.ensures.number;
    }
