-- The trace of a script at worked examples: what must hold, and a wrong text that must not be taken.
use Rattle.std.proofs.Common.{◌≡◌, ℕ, List, [], ◌∷◌, codes, false, inl, refl, ap, arith, rules}
use Rattle.log_entries.specs.declared.refusal.Refusal.TheVariants.{NoSuchTicket, NoSuchServer}
use Rattle.std.specs.Fmt.{digits}
use Rattle.log_entries.specs.declared.entry.Entry.TheVariants as entries
use Rattle.log_entries.specs.Histories.{History, next_window}
use Rattle.log_entries.specs.Setups.{IsSound}
use Rattle.log_entries.proofs.Windows.{next_legal}
use Rattle.log_entries.proofs.Dispatched.{dispatched}
use Rattle.dispatch_core.proofs.Calls.{new_legal}
use Rattle.log_reading.specs.Windows.{window_in}
use Rattle.late_cert.specs.Certificates.{IsCertified}
use Rattle.log_texts.specs.Headers.{Settings, settings_of}
use Rattle.log_texts.specs.ScriptTexts.{IsRolled, IsScriptText}
use Rattle.replay.specs.Defaults.{default_names, opening, script_setup}
use Rattle.replay.specs.TraceTexts.{IsTraceOf}
use Rattle.late_cert.proofs.Certified.{certified}

-- the log of no event has no report
opening_certified : (settings : Settings) → IsCertified (opening settings) []
opening_certified settings =
    let legal = new_legal (opening settings) (script_setup settings) refl in
    certified (opening settings) (window_in (opening settings)) [] refl legal (dispatched (opening settings) legal)
    (record { chosen = tt; ascending = tt; complete = tt })

default_sound : IsSound (script_setup (settings_of []))
default_sound = record {
  some_server = omega arith;
  servers = omega arith;
  within = search rules;
  some_place = omega arith;
  places = omega arith;
  some_log = omega arith;
  log = omega arith;
  retries = omega arith;
  timeout = omega arith;
}

empty_script : IsTraceOf [] []
empty_script = record {
  last = opening (settings_of []);
  answers = [];
  reports = [];
  answered = (refl, refl);
  certified = opening_certified (settings_of []);
  written = refl;
}

comments_ask_for_nothing : IsTraceOf (codes "# nothing\n\n \t\n") []
comments_ask_for_nothing = record {
  last = opening (settings_of []);
  answers = [];
  reports = [];
  answered = (refl, refl);
  certified = opening_certified (settings_of []);
  written = refl;
}

-- nobody has the ticket, so the history stays as it is
unknown_ticket : IsTraceOf (codes "5 done 9") (codes "refused 4\n")
unfolding digits
unknown_ticket = record {
  last = opening (settings_of []);
  answers = codes "refused 4\n";
  reports = [];
  answered = (
    opening (settings_of []),
    codes "refused 4\n",
    [],
    inl record { refusal = NoSuchTicket; applies = refl; unchanged = refl; written = refl },
    refl,
    (refl, refl),
  );
  certified = opening_certified (settings_of []);
  written = refl;
}

nothing_more : (last : History) → IsScriptText default_names (opening (settings_of [])) [] last (codes "refused 4\n") → ⊥
nothing_more last same = let none = same.1 in cc

-- the next window of an empty one is empty too
roll_row : IsTraceOf (codes "roll") (codes "roll\n")
roll_row =
    let first = opening (settings_of []) in
    let next = next_window first in
    let legal = next_legal first default_sound (new_legal first (script_setup (settings_of [])) refl) in
    let none = certified next (window_in next) [] refl legal (dispatched next legal) (record { chosen = tt; ascending = tt; complete = tt }) in
    record {
      last = next;
      answers = codes "roll\n";
      reports = [];
      answered = (
        next,
        codes "roll\n",
        [],
        record { reports = []; begins = refl; certified = opening_certified (settings_of []); written = refl },
        refl,
        (refl, refl),
      );
      certified = none;
      written = refl;
    }

-- a window that keeps an entry isn't the next one
not_rolled : (history : History) (text : List ℕ) → history.log ≡ entries.Tick 5 ∷ [] → IsRolled default_names history history text → ⊥
not_rolled history text logged is = let none : history.log ≡ [] = ap (λ (h : History). h.log) is.begins in cc

-- a server with the number of a name that none has
unknown_server : IsTraceOf (codes "server a 1 0 1\n5 arrive 0 0 b") (codes "refused 6\n")
unfolding digits
unknown_server =
    let settings = settings_of (codes "server a 1 0 1" ∷ []) in
    record {
      last = opening settings;
      answers = codes "refused 6\n";
      reports = [];
      answered = (
        opening settings,
        codes "refused 6\n",
        [],
        inl record { refusal = NoSuchServer; applies = refl; unchanged = refl; written = refl },
        refl,
        (refl, refl),
      );
      certified = opening_certified settings;
      written = refl;
    }

-- the same by a check
check_of_unknown_server : IsTraceOf (codes "server a 1 0 1\n5 check b up") (codes "refused 6\n")
unfolding digits
check_of_unknown_server =
    let settings = settings_of (codes "server a 1 0 1" ∷ []) in
    record {
      last = opening settings;
      answers = codes "refused 6\n";
      reports = [];
      answered = (
        opening settings,
        codes "refused 6\n",
        [],
        inl record { refusal = NoSuchServer; applies = refl; unchanged = refl; written = refl },
        refl,
        (refl, refl),
      );
      certified = opening_certified settings;
      written = refl;
    }

-- what no line says is as without header lines
one_place : script_setup (settings_of (codes "places 1" ∷ [])) ≡ record {
  servers = (script_setup (settings_of [])).servers;
  places = 1;
  log = 262144;
  retries = 3;
  redispatch = false;
  queue_timeout = 0;
}
one_place = refl
