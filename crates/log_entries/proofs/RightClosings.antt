-- Why the worked logs of servers that are closed and opened are legal.
use Rattle.std.proofs.Common.{◌≡◌, ◌≢◌, pos, true, List, [], ◌∷◌, ◌++◌, None, Some, IsTrue, refl, arith, Greater}
use Rattle.base_lists.proofs.Never.{false_true}
use Rattle.due_key.specs.Order.{key_cmp}
use Rattle.log_entries.specs.declared.allowance.Intake.TheVariants.{Open, Closed}
use Rattle.log_entries.specs.declared.entry.Entry.{Entry}
use Rattle.log_entries.specs.declared.entry.Entry.TheVariants.{Limit, Done, Freed, Ended, Granted}
use Rattle.log_entries.specs.declared.row.Phase.TheVariants.{Loose, Waiting, Serving}
use Rattle.log_entries.specs.declared.queue.Queue.TheVariants.{Backend, Server}
use Rattle.log_entries.specs.Histories.{start_of}
use Rattle.log_entries.specs.Judgement.{AreLawful}
use Rattle.log_entries.specs.Legal.{IsLegal}
use Rattle.log_entries.specs.States.{opening_limits, point_of}
use Rattle.log_entries.specs.Rows.{phase_waits_in}
use Rattle.log_entries.specs.Scenes.{Scene, may_go_to}
use Rattle.log_entries.specs.Worked.{plain_server}
use Rattle.log_entries.specs.WorkedChanges.{checked_server, worked_with_checks}
use Rattle.log_entries.specs.WorkedWindows.{worked_by_pairs}
use Rattle.log_entries.specs.WorkedClosings.{closed_server_serves_on, opened_server_grants, waits_for_an_opening, pin_to_a_closed_server_is_ignored}
use Rattle.log_entries.specs.WorkedClosings.{closing_moves_its_queue}
use Rattle.log_entries.proofs.FourPlaces.{for_no_row, for_two_rows, for_three_rows, first_row, second_row}
use Rattle.log_entries.proofs.RightLogs.{up_by, for_one_server, for_two_servers, class_0, no_offset, settled_alone, before_the_check}
use Rattle.log_entries.proofs.RightWindows.{pair_row, last_row, by_pairs, pairs_start, pairs_served, once_raised}
use Rattle.log_entries.proofs.Windows.{opening_base}

serves_on_is_lawful : AreLawful (point_of by_pairs pairs_start 0) closed_server_serves_on
serves_on_is_lawful = record {
  judged = pairs_served (Limit 3 0 Closed ∷ Done 4 1 ∷ Freed 1 0 ∷ Ended 1 ∷ []) (
    record {
      over = tt;
      settled = for_one_server _ (λ can. false_true can.0) (λ n can. false_true can.0);
      accepted = refl;
      later = up_by 1 2;
      within = omega arith;
    },
    (
      record {
        over = λ moves. false_true moves;
        settled = for_one_server _ (λ can. false_true can.0) (λ n can. false_true can.0);
        accepted = refl;
        later = up_by 3 1;
        within = omega arith;
      },
      (
        (refl, record { row = first_row None 0 (Serving 0); live = (0, refl); named = refl; phase = refl }),
        (refl, tt),
      ),
    ),
  );
  whole = tt;
  settled = for_one_server _ (λ can. false_true can.0) (λ n can. false_true can.0);
}

opened_is_lawful : AreLawful (point_of by_pairs pairs_start 0) opened_server_grants
opened_is_lawful = record {
  judged = pairs_served (Limit 3 0 Closed ∷ Limit 4 0 (Open 3) ∷ Granted 3 Backend 0 ∷ []) (
    record {
      over = tt;
      settled = for_one_server _ (λ can. false_true can.0) (λ n can. false_true can.0);
      accepted = refl;
      later = up_by 1 2;
      within = omega arith;
    },
    (
      record {
        over = λ moves. false_true moves;
        settled = for_one_server _ (λ can. false_true can.0) (λ n can. false_true can.0);
        accepted = refl;
        later = up_by 3 1;
        within = omega arith;
      },
      (
        (
          tt,
          record {
            row = last_row;
            live = (2, refl);
            named = refl;
            waits = refl;
            taken = refl;
            next = record {
              takes = (refl, (last_row, (2, refl), refl));
              weightless_first = for_one_server _ (λ weightless can. let e : 1 ≡ 0 = weightless in
                  absurd (omega (arith, e))) (λ n weightless can. false_true can.0);
              picked = λ heavy. record {
                member = (refl, (last_row, (2, refl), refl));
                least = for_one_server _ (λ can. up_by 2 0) (λ n can. false_true can.0);
                nearest = for_one_server _ (λ can first. up_by 1 0) (λ n can first. false_true can.0);
              };
            };
            least = for_three_rows (λ r. IsTrue (may_go_to once_raised 0 r.phase)
                → key_cmp last_row.key r.key ≢ Greater) (first_row None 0 (Serving 0)) (pair_row (Serving 0)) last_row
                false_true false_true (λ goes e. cc);
          },
        ),
        tt,
      ),
    ),
  );
  whole = tt;
  settled = for_one_server _ (λ can. false_true can.0) (λ n can. false_true can.0);
}

waits_is_lawful : AreLawful (point_of by_pairs pairs_start 0) waits_for_an_opening
waits_is_lawful = record {
  judged = (
    record { over = tt; settled = λ server can. for_no_row can.1.0 can.1.1; accepted = refl; later = up_by 0 0; within = omega arith },
    (
      (
        record { over = λ moves. false_true moves; settled = λ server can. for_no_row can.1.0 can.1.1; accepted = refl; later = up_by 0 1; within = omega arith },
        record { numbered = refl; vacant = refl; class = class_0; due = (pos 0, no_offset, refl) },
      ),
      (
        (refl, (refl, (0, refl), for_one_server _ false_true (λ n. false_true))),
        tt,
      ),
    ),
  );
  whole = tt;
  settled = for_one_server _ (λ can. false_true can.0) (λ n can. false_true can.0);
}

pin_is_lawful : AreLawful (start_of (worked_with_checks [])) pin_to_a_closed_server_is_ignored
pin_is_lawful = record {
  judged = (
    record { over = tt; settled = λ server can. for_no_row can.1.0 can.1.1; accepted = refl; later = up_by 0 0; within = omega arith },
    (
      (
        record {
          over = λ moves. λ row live waits. for_no_row row live;
          settled = λ server can. for_no_row can.1.0 can.1.1;
          accepted = refl;
          later = up_by 0 0;
          within = omega arith;
        },
        record { numbered = refl; vacant = refl; class = class_0; due = (pos 0, no_offset, refl) },
      ),
      (
        (
          refl,
          (
            record {
              member = (refl, λ avoids. let e : None ≡ Some 1 = avoids in cc);
              least = for_two_servers _ (λ it. false_true it.0) (λ it. up_by 0 0) (λ n it. false_true it.0);
              nearest = for_two_servers _ (λ it first. false_true it.0) (λ it first. up_by 2 0) (λ n it first. false_true it.0);
            },
            refl,
          ),
        ),
        tt,
      ),
    ),
  );
  whole = tt;
  settled = settled_alone (checked_server ∷ plain_server ∷ [])
      (record { limit = Closed; served = 0 } ∷ record { limit = Open 1; served = 0 } ∷ []) (true ∷ true ∷ [])
      (first_row (Some 0) 0 (Serving 1)) (λ server. refl);
}

-- once 2 is moved
abbrev once_moved : Scene
once_moved = record {
  servers = checked_server ∷ plain_server ∷ [];
  limits = record { limit = Closed; served = 1 } ∷ record { limit = Open 1; served = 0 } ∷ [];
  ups = true ∷ true ∷ [];
  rows = Some (first_row (Some 0) 0 (Serving 0)) ∷ Some (second_row None (Waiting Backend 2)) ∷ None ∷ None ∷ [];
}

closing_is_lawful : AreLawful (start_of (worked_with_checks [])) closing_moves_its_queue
closing_is_lawful = record {
  judged = (
    (
      record { over = tt; settled = λ server can. for_no_row can.1.0 can.1.1; accepted = refl; later = up_by 0 0; within = omega arith },
      record { numbered = refl; vacant = refl; class = class_0; due = (pos 0, no_offset, refl) },
    ),
    (
      (refl, (refl, refl)),
      (
        (
          record {
            over = tt;
            settled = settled_alone (checked_server ∷ plain_server ∷ []) (opening_limits (checked_server ∷ plain_server ∷ []))
                (true ∷ true ∷ []) (first_row (Some 0) 0 (Serving 0)) (λ server. refl);
            accepted = refl;
            later = up_by 0 1;
            within = omega arith;
          },
          record { numbered = refl; vacant = refl; class = class_0; due = (pos 0, no_offset, refl) },
        ),
        (
          (refl, (refl, λ free. false_true free)),
          (
            record {
              over = tt;
              settled = for_two_servers _ (λ can. false_true can.0)
                  (λ can. for_two_rows (λ r. IsTrue (may_go_to before_the_check 1 r.phase)
                  → ⊥) (first_row (Some 0) 0 (Serving 0)) (second_row (Some 0) (Waiting (Server 0) 1)) false_true false_true can.1.0 can.1.1 can.1.2)
                  (λ n can. false_true can.0);
              accepted = refl;
              later = up_by 1 1;
              within = omega arith;
            },
            (
              (
                refl,
                refl,
                record {
                  row = second_row (Some 0) (Waiting (Server 0) 1);
                  live = (1, refl);
                  named = refl;
                  waits = refl;
                  least = for_two_rows (λ r. IsTrue (phase_waits_in (Server 0) r.phase)
                      → key_cmp (second_row (Some 0) Loose).key r.key ≢ Greater) (first_row (Some 0) 0 (Serving 0))
                      (second_row (Some 0) (Waiting (Server 0) 1))
                      false_true (λ waits e. cc);
                },
              ),
              (
                (
                  λ redispatch. for_two_rows (λ r. IsTrue (phase_waits_in (Server 0) r.phase)
                      → ⊥) (first_row (Some 0) 0 (Serving 0)) (second_row None (Waiting Backend 2)) false_true false_true,
                  record {
                    row = second_row None (Waiting Backend 2);
                    live = (1, refl);
                    named = refl;
                    waits = refl;
                    taken = refl;
                    next = record {
                      takes = (refl, (second_row None (Waiting Backend 2), (1, refl), refl));
                      weightless_first = for_two_servers _ (λ weightless can. false_true can.0) (λ weightless can. let e : 1 ≡ 0 = weightless in
                          absurd (omega (arith, e))) (λ n weightless can. false_true can.0);
                      picked = λ heavy. record {
                        member = (refl, (second_row None (Waiting Backend 2), (1, refl), refl));
                        least = for_two_servers _ (λ can. false_true can.0) (λ can. up_by 0 0) (λ n can. false_true can.0);
                        nearest = for_two_servers _ (λ can first. false_true can.0) (λ can first. up_by 2 0) (λ n can first. false_true can.0);
                      };
                    };
                    least = for_two_rows (λ r. IsTrue (may_go_to once_moved 1 r.phase)
                        → key_cmp (second_row None Loose).key r.key ≢ Greater) (first_row (Some 0) 0 (Serving 0)) (second_row None (Waiting Backend 2))
                        false_true (λ goes e. cc);
                  },
                ),
                tt,
              ),
            ),
          ),
        ),
      ),
    ),
  );
  whole = tt;
  settled = for_two_servers _ (λ can. false_true can.0) (λ can. false_true can.0) (λ n can. false_true can.0);
}

pub serves_on_is_legal : IsLegal (worked_by_pairs closed_server_serves_on)
serves_on_is_legal = record { begins = opening_base by_pairs; lawful = serves_on_is_lawful }

pub opened_is_legal : IsLegal (worked_by_pairs opened_server_grants)
opened_is_legal = record { begins = opening_base by_pairs; lawful = opened_is_lawful }

pub waits_for_opening_is_legal : IsLegal (worked_by_pairs waits_for_an_opening)
waits_for_opening_is_legal = record { begins = opening_base by_pairs; lawful = waits_is_lawful }

pub pin_ignored_is_legal : IsLegal (worked_with_checks pin_to_a_closed_server_is_ignored)
pin_ignored_is_legal = record { begins = opening_base (worked_with_checks []).setup; lawful = pin_is_lawful }

pub closing_moves_is_legal : IsLegal (worked_with_checks closing_moves_its_queue)
closing_moves_is_legal = record { begins = opening_base (worked_with_checks []).setup; lawful = closing_is_lawful }
