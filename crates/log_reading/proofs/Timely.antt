-- What a readable log's grants have: their moments, and slots that rise and lie after the joinings.
use Rattle.std.proofs.Common.{◌≡◌, ◌+◌, ◌≤◌, List, [], ◌∷◌, ◌++◌, Option, None, Some}
use Rattle.std.proofs.Common.{length, take, refl, ap, sym, ◌∙◌, subst, arith, append_assoc, length-append}
use Rattle.std.specs.List.{AllByRecursion}
use Rattle.std.specs.Option.{option_map_or}
use Rattle.std.proofs.lemmas.List.{take_at}
use Rattle.std.proofs.lemmas.Option.{same_Some}
use Rattle.due_key.specs.declared.key.Key.{Key}
use Rattle.log_entries.specs.declared.entry.Entry.{Entry}
use Rattle.log_entries.specs.declared.entry.Entry.TheVariants.{Granted}
use Rattle.log_reading.specs.declared.grant.SlotGrant.{SlotGrant}
use Rattle.log_reading.specs.Grants.{Wait, moment_in, grant_in, moment_of, moment_at, key_known}
use Rattle.log_reading.specs.Grants.{joins, joining_of, grant_of, grant_after, grants_after, grants}
use Rattle.log_reading.specs.Readable.{MayFollow, AllFollow, IsReadable}
use Rattle.log_reading.specs.Timely.{IsTimely}
use Rattle.log_reading.specs.Windows.{Window}
use Rattle.log_reading.specs.declared.base.BaseRow.{BaseRow}
use Rattle.log_reading.proofs.Joinings.{last_position-le}
use Rattle.log_reading.proofs.Moments.{moment_of_none}

-- a grant begins no event
pub grants_no_event : (e : Entry) (w : Wait) → grant_in e ≡ Some w → moment_in e ≡ None
grants_no_event (Granted t q v) w h = refl
grants_no_event e w h = cc

-- the parts of a grant that follows a log
pub record Follows (base : List BaseRow) (past : List Entry) (entry : Entry) (grant : SlotGrant) : Type 0 where
  pub wait : Wait
  pub key : Key
  pub is : grant_in entry ≡ Some wait
  pub known : key_known base wait.ticket past ≡ Some key
  pub made : grant ≡ grant_of past wait key

pub follows : (base : List BaseRow) (past : List Entry) (e : Entry) (g : SlotGrant) → grant_after base past e ≡ Some g → Follows base past e g
follows base past e g h = by_wait (grant_in e) refl h
  where
    by_key : (w : Wait) → grant_in e ≡ Some w → (o : Option Key) → key_known base w.ticket past ≡ o
        → option_map_or (λ (k : Key). Some (grant_of past w k)) o None ≡ Some g → Follows base past e g
    by_key w is None known made = cc
    by_key w is (Some k) known made = record { wait = w; key = k; is = is; known = known; made = sym (same_Some _ _ made) }

    by_wait : (o : Option Wait) → grant_in e ≡ o
        → option_map_or (λ (w : Wait). option_map_or (λ (k : Key). Some (grant_of past w k)) (key_known base w.ticket past) None) o None ≡ Some g
        → Follows base past e g
    by_wait None is made = cc
    by_wait (Some w) is made = by_key w is (key_known base w.ticket past) refl made

timely_one : (base : List BaseRow) (past es : List Entry) (e : Entry) (g : SlotGrant) → MayFollow base past e → grant_after base past e ≡ Some g
    → IsTimely (record { base = base; entries = past ++ e ∷ es }) g
timely_one base past es e g may h =
    let f = follows base past e g h in
    let w = f.wait in
    let slot : g.stay.slot ≡ length past + 1 = ap (λ (x : SlotGrant). x.stay.slot) f.made in
    let joined : g.stay.joined ≡ joining_of w.ticket w.queue past = ap (λ (x : SlotGrant). x.stay.joined) f.made in
    let moment : g.moment ≡ moment_of past = ap (λ (x : SlotGrant). x.moment) f.made in
    let low : joining_of w.ticket w.queue past ≤ length past = last_position-le (joins w.ticket w.queue) past in
    let long : length (past ++ e ∷ []) ≡ length past + 1 = omega (arith, length-append past (e ∷ [])) in
    let split : past ++ e ∷ es ≡ (past ++ e ∷ []) ++ es = rw append_assoc refl in
    let here : take (length past + 1) (past ++ e ∷ es) ≡ past ++ e ∷ [] =
    subst (λ l. take (length past + 1) l ≡ past ++ e ∷ []) (sym split) (take_at (past ++ e ∷ []) es (length past + 1) long) in
    record {
      moment = moment ∙ sym (moment_of_none past e (grants_no_event e w f.is)) ∙ ap moment_of (sym here) ∙ ap (moment_at (past ++ e ∷ es)) (sym slot);
      joined = omega arith;
    }

timely_after : (base : List BaseRow) (past es : List Entry) → AllFollow base past es
    → AllByRecursion (IsTimely (record { base = base; entries = past ++ es })) (grants_after base past es)
timely_after base past [] all = tt
timely_after base past (e ∷ es) all =
    by_grant (grant_after base past e) refl
    (subst (λ log. AllByRecursion (IsTimely (record { base = base; entries = log })) (grants_after base (past ++ e ∷ []) es)) (append_assoc past (e ∷ []) es)
    (timely_after base (past ++ e ∷ []) es all.1))
  where
    window : Window
    window = record { base = base; entries = past ++ e ∷ es }

    by_grant : (o : Option SlotGrant) → grant_after base past e ≡ o → AllByRecursion (IsTimely window) (grants_after base (past ++ e ∷ []) es)
        → AllByRecursion (IsTimely window) (option_map_or (λ (g : SlotGrant). g ∷ []) o [] ++ grants_after base (past ++ e ∷ []) es)
    by_grant None is rest = rest
    by_grant (Some g) is rest = (timely_one base past es e g all.0 is, rest)

-- each grant of a readable window
pub timely : (window : Window) → IsReadable window → AllByRecursion (IsTimely window) (grants window)
timely window readable = timely_after window.base [] window.entries readable
