-- Why the worked logs are legal.
use Rattle.std.proofs.Common.{◌≡◌, ◌≢◌, ℕ, zero, suc, ◌+◌, ◌≤◌, pos, negsuc, Bool, true, false}
use Rattle.std.proofs.Common.{List, [], ◌∷◌, None, Some, IsTrue, refl, sym, ◌∙◌, arith, Greater}
use Rattle.std.proofs.lemmas.Int.{ints}
use Rattle.std.proofs.lemmas.Option.{same_Some}
use Rattle.base_lists.proofs.Never.{false_true}
use Rattle.base_verdict.specs.declared.cause.Cause.TheVariants.{Timeout}
use Rattle.due_key.specs.Order.{key_cmp}
use Rattle.due_key.specs.Range.{IsBetween}
use Rattle.due_key.specs.declared.class.TheConstants.{LOWEST_CLASS, HIGHEST_CLASS}
use Rattle.due_key.specs.declared.offset.TheConstants.{LOWEST_OFFSET, HIGHEST_OFFSET}
use Rattle.log_entries.specs.declared.row.Phase.TheVariants.{Loose, Waiting, Serving, Told}
use Rattle.log_entries.specs.declared.queue.Queue.TheVariants.{Backend, Server}
use Rattle.log_entries.specs.declared.row.Row.{Row}
use Rattle.log_entries.specs.declared.allowance.Allowance.{Allowance}
use Rattle.log_entries.specs.declared.setup.ServerSet.{ServerSet}
use Rattle.log_entries.specs.States.{opening_limits}
use Rattle.log_entries.proofs.Windows.{opening_base}
use Rattle.log_entries.specs.Grants.{IsSettled}
use Rattle.log_entries.specs.Legal.{IsLegal}
use Rattle.log_entries.specs.Judgement.{AreLawful, HasExpired}
use Rattle.log_entries.specs.Rows.{phase_waits_in}
use Rattle.log_entries.specs.Scenes.{Scene, may_go_to}
use Rattle.log_entries.specs.Worked.{plain_server}
use Rattle.log_entries.specs.WorkedChanges.{checked_server, worked_with_checks, worked_in_time}
use Rattle.log_entries.proofs.FourPlaces.{for_no_row, for_one_row, for_two_rows, for_three_rows, first_row, second_row, third_row}
use Rattle.log_entries.specs.WorkedRight.{redispatch_to_the_other_server, told_by_rising_ticket, fall_moves_its_queue}
use Rattle.log_entries.specs.Histories.{start_of}

pub up_by : (m n : ℕ) → m ≤ m + n
up_by m n = omega arith

-- what holds of the first server, or of the first two, and of the numbers past them, holds of each
pub for_one_server : (P : ℕ → Type 0) → P 0 → ((n : ℕ) → P (suc n)) → (server : ℕ) → P server
for_one_server P first past zero = first
for_one_server P first past (suc n) = past n

pub for_two_servers : (P : ℕ → Type 0) → P 0 → P 1 → ((n : ℕ) → P (suc (suc n))) → (server : ℕ) → P server
for_two_servers P first second past zero = first
for_two_servers P first second past (suc zero) = second
for_two_servers P first second past (suc (suc n)) = past n

-- the class and the offsets of the worked arrivals
pub class_0 : IsBetween LOWEST_CLASS HIGHEST_CLASS (pos 0)
class_0 = record { lower = omega (arith, ints); upper = omega (arith, ints) }

pub no_offset : IsBetween LOWEST_OFFSET HIGHEST_OFFSET (pos 0)
no_offset = record { lower = omega (arith, ints); upper = omega (arith, ints) }

pub five_less : IsBetween LOWEST_OFFSET HIGHEST_OFFSET (negsuc 4)
five_less = record { lower = omega (arith, ints); upper = omega (arith, ints) }

-- where the one live request doesn't wait, all is settled
pub settled_alone : (servers : List ServerSet) (limits : List Allowance) (ups : List Bool) (a : Row)
    → ((server : ℕ) → may_go_to (record { servers = servers; limits = limits; ups = ups; rows = Some a ∷ None ∷ None ∷ None ∷ [] }) server a.phase ≡ false)
    → IsSettled (record { servers = servers; limits = limits; ups = ups; rows = Some a ∷ None ∷ None ∷ None ∷ [] })
settled_alone servers limits ups a none server can =
    for_one_row (λ r. IsTrue (may_go_to (record { servers = servers; limits = limits; ups = ups; rows = Some a ∷ None ∷ None ∷ None ∷ [] }) server r.phase)
    → ⊥) a (λ goes. false_true (sym (none server) ∙ goes)) can.1.0 can.1.1 can.1.2

redispatch_is_lawful : AreLawful (start_of (worked_with_checks [])) redispatch_to_the_other_server
redispatch_is_lawful = record {
  judged = (
    (
      record { over = tt; settled = λ server can. for_no_row can.1.0 can.1.1; accepted = refl; later = up_by 0 0; within = omega arith },
      record { numbered = refl; vacant = refl; class = class_0; due = (pos 0, no_offset, refl) },
    ),
    (
      (refl, (refl, refl)),
      (
        record {
          over = tt;
          settled = settled_alone (checked_server ∷ plain_server ∷ []) (opening_limits (checked_server ∷ plain_server ∷ []))
              (true ∷ true ∷ []) (first_row (Some 0) 0 (Serving 0)) (λ server. refl);
          accepted = refl;
          later = up_by 0 1;
          within = omega arith;
        },
        (
          (refl, record { row = first_row None 1 (Serving 0); live = (0, refl); named = refl; phase = refl }, λ retried. false_true retried),
          (
            record {
              redispatched = refl;
              settled = settled_alone (checked_server ∷ plain_server ∷ []) (opening_limits (checked_server ∷ plain_server ∷ [])) (true ∷ true ∷ [])
                  (first_row None 1 Loose) (λ server. refl);
              put = (
                refl,
                (
                  record {
                    member = (refl, λ avoids. let e : 0 ≡ 1 = same_Some 0 1 avoids in absurd (omega (arith, e)));
                    least = for_two_servers _ (λ it. up_by 0 0) (λ it. up_by 0 0) (λ n it. false_true it.0);
                    nearest = for_two_servers _ (λ it first. let e : 1 ≡ 0 = it.1 refl 1 refl in
                        absurd (omega (arith, e))) (λ it first. up_by 2 0) (λ n it first. false_true it.0);
                  },
                  refl,
                ),
              );
            },
            tt,
          ),
        ),
      ),
    ),
  );
  whole = tt;
  settled = settled_alone (checked_server ∷ plain_server ∷ []) (opening_limits (checked_server ∷ plain_server ∷ [])) (true ∷ true ∷ [])
      (first_row None 1 (Serving 1)) (λ server. refl);
}

rising_is_lawful : AreLawful (start_of (worked_in_time [])) told_by_rising_ticket
rising_is_lawful = record {
  judged = (
    (
      record { over = tt; settled = λ server can. for_no_row can.1.0 can.1.1; accepted = refl; later = up_by 0 0; within = omega arith },
      record { numbered = refl; vacant = refl; class = class_0; due = (pos 0, no_offset, refl) },
    ),
    (
      (
        refl,
        (
          record {
            member = (refl, λ avoids. let e : None ≡ Some 0 = avoids in cc);
            least = for_one_server _ (λ it. up_by 0 0) (λ n it. false_true it.0);
            nearest = for_one_server _ (λ it first. up_by 1 0) (λ n it first. false_true it.0);
          },
          refl,
        ),
      ),
      (
        (
          record {
            over = tt;
            settled = settled_alone (plain_server ∷ []) (opening_limits (plain_server ∷ [])) (true ∷ []) (first_row None 0 (Serving 0))
                (λ server. refl);
            accepted = refl;
            later = up_by 0 1;
            within = omega arith;
          },
          record { numbered = refl; vacant = refl; class = class_0; due = (pos 0, no_offset, refl) },
        ),
        (
          (refl, (refl, (0, refl), for_one_server _ false_true (λ n. false_true))),
          (
            (
              record {
                over = tt;
                settled = for_one_server _ (λ can. false_true can.0) (λ n can. false_true can.0);
                accepted = refl;
                later = up_by 1 1;
                within = omega arith;
              },
              record { numbered = refl; vacant = refl; class = class_0; due = (negsuc 4, five_less, refl) },
            ),
            (
              (refl, (refl, (0, refl), for_one_server _ false_true (λ n. false_true))),
              (
                record {
                  over = tt;
                  settled = for_one_server _ (λ can. false_true can.0) (λ n can. false_true can.0);
                  accepted = refl;
                  later = up_by 2 5;
                  within = omega arith;
                },
                (
                  record {
                    row = second_row None (Waiting Backend 1);
                    expired = ((1, refl), (up_by 1 4, up_by 6 1));
                    named = refl;
                    first = λ other is.
                        for_three_rows (λ r. HasExpired (worked_in_time []).setup 7 r.phase
                        → 2 ≤ r.key.ticket) (first_row None 0 (Serving 0)) (second_row None (Waiting Backend 1)) (third_row None (Waiting Backend 2))
                        (λ expired. absurd expired) (λ expired. up_by 2 0) (λ expired. up_by 2 1) other is.0 is.1;
                  },
                  (
                    record {
                      row = third_row None (Waiting Backend 2);
                      expired = ((2, refl), (up_by 1 4, up_by 7 0));
                      named = refl;
                      first = λ other is.
                          for_three_rows (λ r. HasExpired (worked_in_time []).setup 7 r.phase
                          → 3 ≤ r.key.ticket) (first_row None 0 (Serving 0)) (second_row None (Told Timeout)) (third_row None (Waiting Backend 2))
                          (λ expired. absurd expired) (λ expired. absurd expired) (λ expired. up_by 3 0) other is.0 is.1;
                    },
                    tt,
                  ),
                ),
              ),
            ),
          ),
        ),
      ),
    ),
  );
  whole = λ row is.
      for_three_rows (λ r. HasExpired (worked_in_time []).setup 7 r.phase
      → ⊥) (first_row None 0 (Serving 0)) (second_row None (Told Timeout)) (third_row None (Told Timeout))
      (λ expired. expired) (λ expired. expired) (λ expired. expired) row is.0 is.1;
  settled = for_one_server _ (λ can. false_true can.0) (λ n can. false_true can.0);
}

-- before the first server is checked, and once 2 is moved
abbrev pub before_the_check : Scene
before_the_check = record {
  servers = checked_server ∷ plain_server ∷ [];
  limits = opening_limits (checked_server ∷ plain_server ∷ []);
  ups = true ∷ true ∷ [];
  rows = Some (first_row (Some 0) 0 (Serving 0)) ∷ Some (second_row (Some 0) (Waiting (Server 0) 1)) ∷ None ∷ None ∷ [];
}

abbrev once_moved : Scene
once_moved = record {
  servers = checked_server ∷ plain_server ∷ [];
  limits = opening_limits (checked_server ∷ plain_server ∷ []);
  ups = false ∷ true ∷ [];
  rows = Some (first_row (Some 0) 0 (Serving 0)) ∷ Some (second_row None (Waiting Backend 2)) ∷ None ∷ None ∷ [];
}

fall_is_lawful : AreLawful (start_of (worked_with_checks [])) fall_moves_its_queue
fall_is_lawful = record {
  judged = (
    (
      record { over = tt; settled = λ server can. for_no_row can.1.0 can.1.1; accepted = refl; later = up_by 0 0; within = omega arith },
      record { numbered = refl; vacant = refl; class = class_0; due = (pos 0, no_offset, refl) },
    ),
    (
      (refl, (refl, refl)),
      (
        (
          record {
            over = tt;
            settled = settled_alone (checked_server ∷ plain_server ∷ []) (opening_limits (checked_server ∷ plain_server ∷ []))
                (true ∷ true ∷ []) (first_row (Some 0) 0 (Serving 0)) (λ server. refl);
            accepted = refl;
            later = up_by 0 1;
            within = omega arith;
          },
          record { numbered = refl; vacant = refl; class = class_0; due = (pos 0, no_offset, refl) },
        ),
        (
          (refl, (refl, λ free. false_true free)),
          (
            record {
              over = tt;
              settled = for_two_servers _ (λ can. false_true can.0)
                  (λ can. for_two_rows (λ r. IsTrue (may_go_to before_the_check 1 r.phase)
                  → ⊥) (first_row (Some 0) 0 (Serving 0)) (second_row (Some 0) (Waiting (Server 0) 1)) false_true false_true can.1.0 can.1.1 can.1.2)
                  (λ n can. false_true can.0);
              accepted = refl;
              later = up_by 1 1;
              within = omega arith;
            },
            (
              (refl, refl, λ e. false_true (sym e)),
              (
                (
                  refl,
                  refl,
                  record {
                    row = second_row (Some 0) (Waiting (Server 0) 1);
                    live = (1, refl);
                    named = refl;
                    waits = refl;
                    least = for_two_rows (λ r. IsTrue (phase_waits_in (Server 0) r.phase)
                        → key_cmp (second_row (Some 0) Loose).key r.key ≢ Greater) (first_row (Some 0) 0 (Serving 0))
                        (second_row (Some 0) (Waiting (Server 0) 1))
                        false_true (λ waits e. cc);
                  },
                ),
                (
                  (
                    λ redispatch. for_two_rows (λ r. IsTrue (phase_waits_in (Server 0) r.phase)
                        → ⊥) (first_row (Some 0) 0 (Serving 0)) (second_row None (Waiting Backend 2)) false_true false_true,
                    record {
                      row = second_row None (Waiting Backend 2);
                      live = (1, refl);
                      named = refl;
                      waits = refl;
                      taken = refl;
                      next = record {
                        takes = (refl, (second_row None (Waiting Backend 2), (1, refl), refl));
                        weightless_first = for_two_servers _ (λ weightless can. false_true can.0) (λ weightless can. let e : 1 ≡ 0 = weightless in
                            absurd (omega (arith, e))) (λ n weightless can. false_true can.0);
                        picked = λ heavy. record {
                          member = (refl, (second_row None (Waiting Backend 2), (1, refl), refl));
                          least = for_two_servers _ (λ can. false_true can.0) (λ can. up_by 0 0) (λ n can. false_true can.0);
                          nearest = for_two_servers _ (λ can first. false_true can.0) (λ can first. up_by 2 0) (λ n can first. false_true can.0);
                        };
                      };
                      least = for_two_rows (λ r. IsTrue (may_go_to once_moved 1 r.phase)
                          → key_cmp (second_row None Loose).key r.key ≢ Greater) (first_row (Some 0) 0 (Serving 0)) (second_row None (Waiting Backend 2))
                          false_true (λ goes e. cc);
                    },
                  ),
                  tt,
                ),
              ),
            ),
          ),
        ),
      ),
    ),
  );
  whole = tt;
  settled = for_two_servers _ (λ can. false_true can.0) (λ can. false_true can.0) (λ n can. false_true can.0);
}

pub redispatch_is_legal : IsLegal (worked_with_checks redispatch_to_the_other_server)
redispatch_is_legal = record { begins = opening_base (worked_with_checks []).setup; lawful = redispatch_is_lawful }

pub rising_is_legal : IsLegal (worked_in_time told_by_rising_ticket)
rising_is_legal = record { begins = opening_base (worked_in_time []).setup; lawful = rising_is_lawful }

pub fall_is_legal : IsLegal (worked_with_checks fall_moves_its_queue)
fall_is_legal = record { begins = opening_base (worked_with_checks []).setup; lawful = fall_is_lawful }
