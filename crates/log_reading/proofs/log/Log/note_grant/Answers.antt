use Rattle.std.proofs.Common.{◌≡◌, ℕ, ◌+◌, ◌<◌, ◌≤◌, ◌++◌, ◌∷◌, [], List, IsTrue, length, ap, subst, sym, ◌∙◌, arith}
use Rattle.log_entries.specs.Logs.{Recorded}
use Rattle.log_entries.specs.declared.entry.Entry.{Entry}
use Rattle.log_entries.specs.declared.entry.Entry.TheVariants.{Granted}
use Rattle.log_reading.specs.declared.grant.SlotGrant.{SlotGrant}
use Rattle.log_reading.specs.Grants.{joining_of, has_joined, grants}
use Rattle.log_reading.specs.LogParts.{LogIsKept}
use Rattle.log_reading.specs.Readable.{HasArrived}
use Rattle.log_reading.specs.Windows.{base_rows}
use Rattle.log_reading.proofs.Pushes.{kept_grant, grants-length, granted_by, window_with}
use Rattle.log_reading.proofs.log.Log.note_grant.Goals as goal

pub put-requires : goal.put-requires
put-requires c =
    let s = c.self.inside in
    let base = base_rows s.base.rows in
    let short : length s.list.items < s.most = subst (λ (v : Recorded). length v.entries < v.room) (sym c.self.view_is) c.requires.room in
    let same : length s.granted.items ≡ length (grants (window_with base s.list.items)) = ap length c.self.invariant.1.granted_are in
    let few : length (grants (window_with base s.list.items)) ≤ length s.list.items = grants-length base s.list.items in
    omega (arith, s.granted.ok.0)

pub invariant_of-self : goal.invariant_of-self
invariant_of-self c =
    let s = c.self.inside in
    let a = c.args in
    let base = base_rows s.base.rows in
    let short : length s.list.items < s.most = subst (λ (v : Recorded). length v.entries < v.room) (sym c.self.view_is) c.requires.room in
    let begun : 0 < length s.list.items = subst (λ (v : Recorded). 0 < length v.entries) (sym c.self.view_is) c.requires.begun in
    let came : HasArrived base s.list.items a.key.ticket a.key.class a.key.due =
    subst (λ (v : Recorded). HasArrived (base_rows v.base.rows) v.entries a.key.ticket a.key.class a.key.due) (sym c.self.view_is) c.requires.arrived in
    let joined : joining_of a.key.ticket a.queue s.list.items ≡ a.joined =
    subst (λ (v : Recorded). joining_of a.key.ticket a.queue v.entries ≡ a.joined) (sym c.self.view_is) c.requires.joined in
    let waits : IsTrue (has_joined base a.key.ticket a.queue s.list.items) =
    subst (λ (v : Recorded). IsTrue (has_joined (base_rows v.base.rows) a.key.ticket a.queue v.entries)) (sym c.self.view_is) c.requires.waits in
    let slot : c.len-slot.result ≡ length s.list.items = omega (arith, s.list.ok.0) in
    let grant = λ (n : ℕ). granted_by a.queue a.key.class s.moment a.key.ticket a.joined (n + 1) a.key.due in
    let kept = kept_grant base s.list.items s.granted.items s.moment s.most a.key.ticket a.server a.joined a.queue a.key.class a.key.due c.self.invariant.1
    short begun came joined waits in (
      c.self.invariant.0,
      subst (λ (l : List Entry). LogIsKept base l c.put.new.list.items s.moment s.most) (sym c.put-2.ensures.items)
          (subst (λ (l : List SlotGrant). LogIsKept base (s.list.items ++ Granted a.key.ticket a.queue a.server ∷ []) l s.moment s.most) (sym c.put.ensures.items)
          (subst (λ (n : ℕ). LogIsKept base (s.list.items ++ Granted a.key.ticket a.queue a.server ∷ []) (s.granted.items ++ grant n ∷ []) s.moment s.most)
          (sym slot) kept)),
      c.put-2.ensures.room ∙ c.self.invariant.2,
      c.put.ensures.room ∙ c.self.invariant.3,
    )
