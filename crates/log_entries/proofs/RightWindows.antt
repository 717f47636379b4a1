-- Why the worked logs of limits and windows are legal.
use Rattle.std.proofs.Common.{◌≡◌, ◌≢◌, pos, negsuc, true, List, [], ◌∷◌, ◌++◌, None, Some, IsTrue, refl, arith, Greater}
use Rattle.std.proofs.lemmas.List.Elements.{All-cons, All-nil}
use Rattle.base_lists.proofs.Never.{false_true}
use Rattle.due_key.specs.Order.{key_cmp}
use Rattle.log_entries.specs.declared.allowance.Intake.TheVariants.{Open}
use Rattle.log_entries.specs.declared.entry.Entry.{Entry}
use Rattle.log_entries.specs.declared.entry.Entry.TheVariants.{Limit, Done, Freed, Ended, Granted}
use Rattle.log_entries.specs.declared.row.Phase.{Phase}
use Rattle.log_entries.specs.declared.row.Phase.TheVariants.{Loose, Waiting, Serving}
use Rattle.log_entries.specs.declared.queue.Queue.TheVariants.{Backend}
use Rattle.log_entries.specs.declared.row.Row.{Row}
use Rattle.log_entries.specs.declared.setup.Setup.{Setup}
use Rattle.log_entries.specs.Histories.{next_window}
use Rattle.log_entries.specs.Judgement.{AreLawful, AllMayCome, granting}
use Rattle.log_entries.specs.Legal.{IsLegal}
use Rattle.log_entries.specs.Setups.{IsSound, is_within}
use Rattle.log_entries.specs.States.{State, after_all, opening_limits, point_of}
use Rattle.log_entries.specs.Scenes.{Scene, may_go_to}
use Rattle.log_entries.specs.Worked.{plain_server, worked, worked_setup, two_wait}
use Rattle.log_entries.specs.WorkedWindows.{pair_server, worked_by_pairs, two_are_served}
use Rattle.log_entries.specs.WorkedWindows.{raised_limit_grants, lowered_limit_is_reached, waits_of_the_base_are_served}
use Rattle.log_entries.proofs.FourPlaces.{for_no_row, for_three_rows, for_last_rows, first_row, second_row, third_row}
use Rattle.log_entries.proofs.RightLogs.{up_by, for_one_server, class_0, no_offset, five_less, settled_alone}
use Rattle.log_entries.proofs.Windows.{opening_base, next_legal}

-- the second and the third row of the first two logs
abbrev pub pair_row : Phase → Row
pair_row phase = record { key = record { class = pos 0; due = pos 0; ticket = 2 }; pin = None; failures = 0; phase = phase }

abbrev pub last_row : Row
last_row = record { key = record { class = pos 0; due = pos 1; ticket = 3 }; pin = None; failures = 0; phase = Waiting Backend 1 }

-- the setup of the first two
abbrev pub by_pairs : Setup
by_pairs = (worked_by_pairs []).setup

abbrev pub pairs_start : State
pairs_start = (worked_by_pairs []).base

-- tickets 1 and 2 are served and 3 waits, and so a log may go on that may come after that
pub pairs_served : (rest : List Entry) → AllMayCome (point_of by_pairs (after_all by_pairs pairs_start two_are_served) 6) granting rest
    → AllMayCome (point_of by_pairs pairs_start 0) granting (two_are_served ++ rest)
pairs_served rest follows = (
  (
    record { over = tt; settled = λ server can. for_no_row can.1.0 can.1.1; accepted = refl; later = up_by 0 0; within = omega arith },
    record { numbered = refl; vacant = refl; class = class_0; due = (pos 0, no_offset, refl) },
  ),
  (
    (
      refl,
      (
        record {
          member = (refl, λ avoids. let e : None ≡ Some 0 = avoids in cc);
          least = for_one_server _ (λ it. up_by 0 0) (λ n it. false_true it.0);
          nearest = for_one_server _ (λ it first. up_by 1 0) (λ n it first. false_true it.0);
        },
        refl,
      ),
    ),
    (
      (
        record {
          over = tt;
          settled = settled_alone (pair_server ∷ []) (opening_limits (pair_server ∷ [])) (true ∷ []) (first_row None 0 (Serving 0))
              (λ server. refl);
          accepted = refl;
          later = up_by 0 0;
          within = omega arith;
        },
        record { numbered = refl; vacant = refl; class = class_0; due = (pos 0, no_offset, refl) },
      ),
      (
        (
          refl,
          (
            record {
              member = (refl, λ avoids. let e : None ≡ Some 0 = avoids in cc);
              least = for_one_server _ (λ it. up_by 1 0) (λ n it. false_true it.0);
              nearest = for_one_server _ (λ it first. up_by 1 0) (λ n it first. false_true it.0);
            },
            refl,
          ),
        ),
        (
          (
            record {
              over = tt;
              settled = for_one_server _ (λ can. false_true can.0) (λ n can. false_true can.0);
              accepted = refl;
              later = up_by 0 1;
              within = omega arith;
            },
            record { numbered = refl; vacant = refl; class = class_0; due = (pos 0, no_offset, refl) },
          ),
          (
            (refl, (refl, (0, refl), for_one_server _ false_true (λ n. false_true))),
            follows,
          ),
        ),
      ),
    ),
  ),
)

-- once the limit is 3
abbrev pub once_raised : Scene
once_raised = record {
  servers = pair_server ∷ [];
  limits = record { limit = Open 3; served = 2 } ∷ [];
  ups = true ∷ [];
  rows = Some (first_row None 0 (Serving 0)) ∷ Some (pair_row (Serving 0)) ∷ Some last_row ∷ None ∷ [];
}

raised_is_lawful : AreLawful (point_of by_pairs pairs_start 0) raised_limit_grants
raised_is_lawful = record {
  judged = pairs_served (Limit 3 0 (Open 3) ∷ Granted 3 Backend 0 ∷ []) (
    record {
      over = tt;
      settled = for_one_server _ (λ can. false_true can.0) (λ n can. false_true can.0);
      accepted = refl;
      later = up_by 1 2;
      within = omega arith;
    },
    (
      (
        tt,
        record {
          row = last_row;
          live = (2, refl);
          named = refl;
          waits = refl;
          taken = refl;
          next = record {
            takes = (refl, (last_row, (2, refl), refl));
            weightless_first = for_one_server _ (λ weightless can. let e : 1 ≡ 0 = weightless in
                absurd (omega (arith, e))) (λ n weightless can. false_true can.0);
            picked = λ heavy. record {
              member = (refl, (last_row, (2, refl), refl));
              least = for_one_server _ (λ can. up_by 2 0) (λ n can. false_true can.0);
              nearest = for_one_server _ (λ can first. up_by 1 0) (λ n can first. false_true can.0);
            };
          };
          least = for_three_rows (λ r. IsTrue (may_go_to once_raised 0 r.phase)
              → key_cmp last_row.key r.key ≢ Greater) (first_row None 0 (Serving 0)) (pair_row (Serving 0)) last_row
              false_true false_true (λ goes e. cc);
        },
      ),
      tt,
    ),
  );
  whole = tt;
  settled = for_one_server _ (λ can. false_true can.0) (λ n can. false_true can.0);
}

lowered_is_lawful : AreLawful (point_of by_pairs pairs_start 0) lowered_limit_is_reached
lowered_is_lawful = record {
  judged = pairs_served (Limit 3 0 (Open 1) ∷ Done 4 1 ∷ Freed 1 0 ∷ Ended 1 ∷ []) (
    record {
      over = tt;
      settled = for_one_server _ (λ can. false_true can.0) (λ n can. false_true can.0);
      accepted = refl;
      later = up_by 1 2;
      within = omega arith;
    },
    (
      record {
        over = tt;
        settled = for_one_server _ (λ can. false_true can.0) (λ n can. false_true can.0);
        accepted = refl;
        later = up_by 3 1;
        within = omega arith;
      },
      (
        (refl, record { row = first_row None 0 (Serving 0); live = (0, refl); named = refl; phase = refl }),
        (refl, tt),
      ),
    ),
  );
  whole = tt;
  settled = for_one_server _ (λ can. false_true can.0) (λ n can. false_true can.0);
}

pub raised_is_legal : IsLegal (worked_by_pairs raised_limit_grants)
raised_is_legal = record { begins = opening_base by_pairs; lawful = raised_is_lawful }

pub lowered_is_legal : IsLegal (worked_by_pairs lowered_limit_is_reached)
lowered_is_legal = record { begins = opening_base by_pairs; lawful = lowered_is_lawful }

-- the window before, whose log is legal
two_wait_is_lawful : AreLawful (point_of worked_setup (worked []).base 0) two_wait
two_wait_is_lawful = record {
  judged = (
    (
      record { over = tt; settled = λ server can. for_no_row can.1.0 can.1.1; accepted = refl; later = up_by 0 0; within = omega arith },
      record { numbered = refl; vacant = refl; class = class_0; due = (pos 0, no_offset, refl) },
    ),
    (
      (
        refl,
        (
          record {
            member = (refl, λ avoids. let e : None ≡ Some 0 = avoids in cc);
            least = for_one_server _ (λ it. up_by 0 0) (λ n it. false_true it.0);
            nearest = for_one_server _ (λ it first. up_by 1 0) (λ n it first. false_true it.0);
          },
          refl,
        ),
      ),
      (
        (
          record {
            over = tt;
            settled = settled_alone (plain_server ∷ []) (opening_limits (plain_server ∷ [])) (true ∷ []) (first_row None 0 (Serving 0))
                (λ server. refl);
            accepted = refl;
            later = up_by 0 1;
            within = omega arith;
          },
          record { numbered = refl; vacant = refl; class = class_0; due = (pos 0, no_offset, refl) },
        ),
        (
          (refl, (refl, (0, refl), for_one_server _ false_true (λ n. false_true))),
          (
            (
              record {
                over = tt;
                settled = for_one_server _ (λ can. false_true can.0) (λ n can. false_true can.0);
                accepted = refl;
                later = up_by 1 1;
                within = omega arith;
              },
              record { numbered = refl; vacant = refl; class = class_0; due = (negsuc 4, five_less, refl) },
            ),
            ((refl, (refl, (0, refl), for_one_server _ false_true (λ n. false_true))), tt),
          ),
        ),
      ),
    ),
  );
  whole = tt;
  settled = for_one_server _ (λ can. false_true can.0) (λ n can. false_true can.0);
}

sound_setup : IsSound worked_setup
sound_setup = record {
  some_server = omega arith;
  servers = omega arith;
  within = All-cons (λ it. IsTrue (is_within it)) plain_server [] refl (All-nil (λ it. IsTrue (is_within it)));
  some_place = omega arith;
  places = omega arith;
  some_log = omega arith;
  log = omega arith;
  retries = omega arith;
  timeout = omega arith;
}

pub two_wait_is_legal : IsLegal (worked two_wait)
two_wait_is_legal = record { begins = opening_base worked_setup; lawful = two_wait_is_lawful }

-- once 1 has ended
abbrev once_ended : Scene
once_ended = record {
  servers = plain_server ∷ [];
  limits = record { limit = Open 1; served = 0 } ∷ [];
  ups = true ∷ [];
  rows = None ∷ Some (second_row None (Waiting Backend 1)) ∷ Some (third_row None (Waiting Backend 2)) ∷ None ∷ [];
}

waits_are_lawful : AreLawful (point_of worked_setup (next_window (worked two_wait)).base 0) waits_of_the_base_are_served.log
waits_are_lawful = record {
  judged = (
    record {
      over = tt;
      settled = for_one_server _ (λ can. false_true can.0) (λ n can. false_true can.0);
      accepted = refl;
      later = up_by 2 8;
      within = omega arith;
    },
    (
      (refl, record { row = first_row None 0 (Serving 0); live = (0, refl); named = refl; phase = refl }),
      (
        refl,
        (
          (
            tt,
            record {
              row = third_row None (Waiting Backend 2);
              live = (2, refl);
              named = refl;
              waits = refl;
              taken = refl;
              next = record {
                takes = (refl, (third_row None (Waiting Backend 2), (2, refl), refl));
                weightless_first = for_one_server _ (λ weightless can. let e : 1 ≡ 0 = weightless in
                    absurd (omega (arith, e))) (λ n weightless can. false_true can.0);
                picked = λ heavy. record {
                  member = (refl, (third_row None (Waiting Backend 2), (2, refl), refl));
                  least = for_one_server _ (λ can. up_by 0 0) (λ n can. false_true can.0);
                  nearest = for_one_server _ (λ can first. up_by 1 0) (λ n can first. false_true can.0);
                };
              };
              least = for_last_rows (λ r. IsTrue (may_go_to once_ended 0 r.phase)
                  → key_cmp (third_row None Loose).key r.key ≢ Greater) (second_row None (Waiting Backend 1)) (third_row None (Waiting Backend 2))
                  (λ goes e. cc) (λ goes e. cc);
            },
          ),
          tt,
        ),
      ),
    ),
  );
  whole = tt;
  settled = for_one_server _ (λ can. false_true can.0) (λ n can. false_true can.0);
}

pub waits_are_legal : IsLegal waits_of_the_base_are_served
waits_are_legal = record { begins = (next_legal (worked two_wait) sound_setup two_wait_is_legal).begins; lawful = waits_are_lawful }
