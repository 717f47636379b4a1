-- One entry more.
use Rattle.std.proofs.Common.{◌≡◌, ℕ, ◌+◌, ◌<◌, ◌≤◌, ℤ, List, [], ◌∷◌, ◌++◌, Option, None}
use Rattle.std.proofs.Common.{Some, is_some, IsTrue, length, refl, ap, sym, ◌∙◌, subst, arith, append_assoc, length-append}
use Rattle.std.specs.Option.{unwrap_or, option_map_or, IsSomeAnd}
use Rattle.std.proofs.lemmas.List.{append-nil}
use Rattle.due_key.specs.declared.key.Key.{Key}
use Rattle.log_entries.specs.declared.entry.Entry.{Entry}
use Rattle.log_entries.specs.declared.entry.Entry.TheVariants.{Granted}
use Rattle.log_entries.specs.declared.queue.Queue.{Queue}
use Rattle.log_reading.specs.declared.grant.SlotGrant.{SlotGrant}
use Rattle.log_reading.specs.Grants.{Wait, moment_in, grant_in, moment_of, key_known, joining_of, has_joined, grant_of, grant_after, grants_after, grants}
use Rattle.log_reading.specs.LogParts.{LogIsKept}
use Rattle.log_reading.specs.Windows.{Window}
use Rattle.log_reading.specs.declared.base.BaseRow.{BaseRow}
use Rattle.log_reading.specs.Readable.{MayFollow, AllFollow, IsReadable, HasArrived}
use Rattle.log_reading.proofs.Moments.{moment_of-push, moment_of_none}

-- the grants of a list of one grant or none
abbrev pub listed : Option SlotGrant → List SlotGrant
listed o = option_map_or (λ grant. grant ∷ []) o []

-- a grant by its parts
abbrev pub granted_by : Queue → ℤ → ℕ → ℕ → ℕ → ℕ → ℤ → SlotGrant
granted_by queue class moment ticket joined slot due = record {
  queue = queue;
  class = class;
  moment = moment;
  stay = record { ticket = ticket; joined = joined; slot = slot; due = due };
}

module _ (base : List BaseRow) where
  abbrev pub window_with : List Entry → Window
  window_with entries = record { base = base; entries = entries }

  grants_after-push : (past es : List Entry) (e : Entry)
      → grants_after base past (es ++ e ∷ []) ≡ grants_after base past es ++ listed (grant_after base (past ++ es) e)
  grants_after-push past [] e = append-nil (listed (grant_after base past e)) ∙ ap (λ l. listed (grant_after base l e)) (sym (append-nil past))
  grants_after-push past (x ∷ es) e =
      ap (λ l. listed (grant_after base past x) ++ l)
      (grants_after-push (past ++ x ∷ []) es e ∙ ap (λ l. grants_after base (past ++ x ∷ []) es ++ listed (grant_after base l e))
      (append_assoc past (x ∷ []) es))
      ∙ sym (append_assoc (listed (grant_after base past x)) (grants_after base (past ++ x ∷ []) es) (listed (grant_after base (past ++ x ∷ es) e)))

  pub grants-push : (log : List Entry) (e : Entry) → grants (window_with (log ++ e ∷ [])) ≡ grants (window_with log) ++ listed (grant_after base log e)
  grants-push log e = grants_after-push [] log e

  all_follow_push : (past es : List Entry) (e : Entry) → AllFollow base past es → MayFollow base (past ++ es) e → AllFollow base past (es ++ e ∷ [])
  all_follow_push past [] e all may = (subst (λ l. MayFollow base l e) (append-nil past) may, tt)
  all_follow_push past (x ∷ es) e all may =
      (all.0, all_follow_push (past ++ x ∷ []) es e all.1 (subst (λ l. MayFollow base l e) (sym (append_assoc past (x ∷ []) es)) may))

  pub readable_push : (log : List Entry) (e : Entry) → IsReadable (window_with log) → MayFollow base log e → IsReadable (window_with (log ++ e ∷ []))
  readable_push log e readable may = all_follow_push [] log e readable may

  -- grants are no more than entries
  grants_after-length : (past es : List Entry) → length (grants_after base past es) ≤ length es
  grants_after-length past [] = omega arith
  grants_after-length past (e ∷ es) = go (grant_after base past e) (grants_after-length (past ++ e ∷ []) es)
    where
      go : (o : Option SlotGrant) → length (grants_after base (past ++ e ∷ []) es) ≤ length es
          → length (listed o ++ grants_after base (past ++ e ∷ []) es) ≤ length (e ∷ es)
      go None h = omega arith
      go (Some g) h = omega arith

  pub grants-length : (log : List Entry) → length (grants (window_with log)) ≤ length log
  grants-length log = grants_after-length [] log

  -- what is kept with an entry more that is no grant
  pub kept_push : (list : List Entry) (granted : List SlotGrant) (moment most : ℕ) (e : Entry) → LogIsKept base list granted moment most → length list < most
      → MayFollow base list e → grant_in e ≡ None
      → LogIsKept base (list ++ e ∷ []) granted (unwrap_or (moment_in e) moment) most
  kept_push list granted moment most e kept short may none = record {
    within = omega (arith, length-append list (e ∷ []));
    readable = readable_push list e kept.readable may;
    granted_are = kept.granted_are ∙ sym (grants-push list e ∙ ungranted ∙ append-nil (grants (window_with list)));
    moment_is = ap (λ m. unwrap_or (moment_in e) m) kept.moment_is ∙ sym (moment_of-push list e);
  }
    where
      ungranted : grants (window_with list) ++ listed (grant_after base list e) ≡ grants (window_with list) ++ []
      ungranted = ap (λ (o : Option Wait). grants (window_with list) ++ listed
          (option_map_or (λ w. option_map_or (λ (k : Key). Some (grant_of list w k)) (key_known base w.ticket list) None) o None)) none

  -- the key whose class and due date are known
  record Known (past : List Entry) (ticket : ℕ) (class due : ℤ) : Type 0 where
    pub key : Key
    pub is : key_known base ticket past ≡ Some key
    pub class_is : key.class ≡ class
    pub due_is : key.due ≡ due

  known : (past : List Entry) (ticket : ℕ) (class due : ℤ) → HasArrived base past ticket class due → Known past ticket class due
  known past ticket class due h = go (key_known base ticket past) refl h
    where
      go : (o : Option Key) → key_known base ticket past ≡ o → IsSomeAnd o (λ (it : Key). (it.class ≡ class) × (it.due ≡ due)) → Known past ticket class due
      go None e h = absurd h
      go (Some k) e h = record { key = k; is = e; class_is = h.0; due_is = h.1 }

  -- a grant may follow inside an event where its ticket has arrived and joined the queue
  pub grant_may_follow : (list : List Entry) (ticket server : ℕ) (queue : Queue) (class due : ℤ) → 0 < length list → HasArrived base list ticket class due
      → IsTrue (has_joined base ticket queue list) → MayFollow base list (Granted ticket queue server)
  grant_may_follow list ticket server queue class due begun arrived waits =
      let has = known list ticket class due arrived in
      record {
        begins = λ h. absurd (omega (arith, h, begun));
        later = tt;
        arrived = ap is_some has.is;
        joined = waits;
      }

  -- the grant that it is
  pub grant_is : (list : List Entry) (ticket server joined : ℕ) (queue : Queue) (class due : ℤ) → HasArrived base list ticket class due
      → joining_of ticket queue list ≡ joined
      → grant_after base list (Granted ticket queue server) ≡ Some (granted_by queue class (moment_of list) ticket joined (length list + 1) due)
  grant_is list ticket server joined queue class due arrived is_joined =
      let has = known list ticket class due arrived in
      ap (λ (o : Option Key). option_map_or (λ (k : Key).
      Some (granted_by queue k.class (moment_of list) ticket (joining_of ticket queue list) (length list + 1) k.due)) o None) has.is
      ∙ ap (λ c. Some (granted_by queue c (moment_of list) ticket (joining_of ticket queue list) (length list + 1) has.key.due)) has.class_is
      ∙ ap (λ d. Some (granted_by queue class (moment_of list) ticket (joining_of ticket queue list) (length list + 1) d)) has.due_is
      ∙ ap (λ j. Some (granted_by queue class (moment_of list) ticket j (length list + 1) due)) is_joined

  -- what is kept with a grant more
  pub kept_grant : (list : List Entry) (granted : List SlotGrant) (moment most ticket server joined : ℕ) (queue : Queue) (class due : ℤ)
      → LogIsKept base list granted moment most → length list < most → 0 < length list
      → HasArrived base list ticket class due → joining_of ticket queue list ≡ joined → IsTrue (has_joined base ticket queue list)
      → LogIsKept base (list ++ Granted ticket queue server ∷ []) (granted ++ granted_by queue class moment ticket joined (length list + 1) due ∷ []) moment most
  kept_grant list granted moment most ticket server joined queue class due kept short begun arrived is_joined waits = record {
    within = omega (arith, length-append list (Granted ticket queue server ∷ []));
    readable = readable_push list (Granted ticket queue server) kept.readable (grant_may_follow list ticket server queue class due begun arrived waits);
    granted_are =
        ap (λ l. l ++ granted_by queue class moment ticket joined (length list + 1) due ∷ []) kept.granted_are
        ∙ ap (λ m. grants (window_with list) ++ granted_by queue class m ticket joined (length list + 1) due ∷ []) kept.moment_is
        ∙ sym (grants-push list (Granted ticket queue server)
        ∙ ap (λ o. grants (window_with list) ++ listed o) (grant_is list ticket server joined queue class due arrived is_joined));
    moment_is = kept.moment_is ∙ sym (moment_of_none list (Granted ticket queue server) refl);
  }
