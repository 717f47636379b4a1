use Rattle.std.proofs.Common.{◌≡◌, ◌<◌, All, Some, length, vec_len, vec_capacity, refl, sym, ap, subst, ◌∙◌, arith}
use Rattle.slot_ledger.specs.Tickets.{Indexed, number_pairs, stretches}
use Rattle.slot_ledger.proofs.Rising.{length-kept}
use Rattle.slot_ledger.proofs.Stretches.{AreReady, ready_as_they_are, ready_compacted, pushed_are, pushed_pairs}
use Rattle.slot_ledger.proofs.tickets.Tickets.push.Goals as goal
use Rattle.slot_ledger.proofs.tickets.Tickets.push.Goals.{then-not-takes, else-not-takes}

-- compacted pairs are as many as the pairs
pub push_reserved-requires : goal.push_reserved-requires
push_reserved-requires c =
    elim c.if-not-takes.branch [
      | then-not-takes w ↦
          let same = c.self.view_is ∙ c.loop.invariant in
          let pairs : number_pairs (stretches c.self.inside.kept c.self.inside.next c.self.inside.pairs.items) ≡ c.args.self.now.pairs =
          ap (λ (i : Indexed). i.pairs) same in
          let room : vec_capacity c.self.inside.pairs ≡ c.args.self.now.room = ap (λ (i : Indexed). i.room) same in
          let long = length-kept (stretches c.self.inside.kept c.self.inside.next c.self.inside.pairs.items) in
          let fewer = ap length pairs in
          let left = ap length w.compact.ensures.items in
          rw w.self-inside-is (omega arith)
      | else-not-takes w ↦ let spare : vec_len c.self.inside.pairs < vec_capacity c.self.inside.pairs = c.takes.ensures.room w.if-not-takes.false in
          rw w.self-inside-is spare
    ]

pub invariant_of-self : goal.invariant_of-self
invariant_of-self c =
    let now = c.if-not-takes.self-inside in
    let same = c.self.view_is ∙ c.loop.invariant in
    let highest = subst (λ (i : Indexed). All (λ pair. pair.0 < c.args.ticket) i.pairs) (sym same) c.requires.highest in
    let ready : AreReady c.args.ticket now.kept now.next now.pairs.items
    (number_pairs (stretches c.self.inside.kept c.self.inside.next c.self.inside.pairs.items)) =
    elim c.if-not-takes.branch [
      | then-not-takes w ↦ rw (w.self-inside-is, w.compact.ensures.items)
          (ready_compacted c.args.ticket c.self.inside.kept c.self.inside.next c.self.inside.pairs.items c.self.invariant highest)
      | else-not-takes w ↦ rw w.self-inside-is (ready_as_they_are c.args.ticket c.self.inside.kept c.self.inside.next c.self.inside.pairs.items
          c.self.invariant (c.takes.ensures.highest w.if-not-takes.false))
    ] in
    rw c.push_reserved.ensures.items (pushed_are now.kept now.next now.pairs.items
    (record { ticket = c.args.ticket; place = Some c.args.place }) c.args.place _ refl ready)

pub returns-clause-pairs : goal.returns-clause-pairs
returns-clause-pairs c =
    let now = c.if-not-takes.self-inside in
    let same = c.self.view_is ∙ c.loop.invariant in
    let highest = subst (λ (i : Indexed). All (λ pair. pair.0 < c.args.ticket) i.pairs) (sym same) c.requires.highest in
    let ready : AreReady c.args.ticket now.kept now.next now.pairs.items
    (number_pairs (stretches c.self.inside.kept c.self.inside.next c.self.inside.pairs.items)) =
    elim c.if-not-takes.branch [
      | then-not-takes w ↦ rw (w.self-inside-is, w.compact.ensures.items)
          (ready_compacted c.args.ticket c.self.inside.kept c.self.inside.next c.self.inside.pairs.items c.self.invariant highest)
      | else-not-takes w ↦ rw w.self-inside-is (ready_as_they_are c.args.ticket c.self.inside.kept c.self.inside.next c.self.inside.pairs.items
          c.self.invariant (c.takes.ensures.highest w.if-not-takes.false))
    ] in
    rw (c.push_reserved.ensures.items, ← same)
    (pushed_pairs now.kept now.next now.pairs.items (record { ticket = c.args.ticket; place = Some c.args.place }) c.args.place _ refl ready)
