use Rattle.std.proofs.Common.{rules, ◌≡◌, ◌-◌, [], ◌∷◌, ◌++◌, None, length, ap, ◌∙◌, replicate, slice_get, arith, length-append}
use Rattle.std.proofs.Math.ListN.{length-replicate}
use Rattle.std.proofs.lemmas.List.{replicate_more}
use Rattle.base_lists.proofs.Pushed.{each_push}
use Rattle.slot_ledger.proofs.Indexing.{kept_new}
use Rattle.slot_ledger.proofs.places.Places.new.Goals as goal

pub loop-place-preserved : goal.loop-place-preserved
loop-place-preserved g c =
    let before = c.loop-place.invariant in
    let pushed = c.push_reserved-in-loop-place.ensures.items in
    record {
      cells = c.push_reserved.ensures.items ∙ ap (λ l. l ++ None ∷ []) before.cells ∙ replicate_more c.loop-place.place None;
      room = search rules;
      vacant = let e = ap length pushed in let l = length-append c.loop-place.vacant.items ((c.args.places - 1 - c.loop-place.place) ∷ []) in omega arith;
      each = λ at h. ap (λ l. slice_get l at) pushed
          ∙ each_push (λ k. c.args.places - 1 - k) c.loop-place.vacant.items c.loop-place.place before.vacant before.each at h;
      vacant_room = search rules;
    }

pub invariant_of-result : goal.invariant_of-result
invariant_of-result g c =
    let inv = c.loop-place.invariant in
    let all : c.loop-place.place ≡ c.args.places = omega arith in
    kept_new _ _ _ c.args.places c.loop-place.place _ all inv.cells inv.vacant inv.each inv.vacant_room c.in_ok-with_room.ensures.empty
    c.in_ok-with_room.ensures.room

pub returns : goal.returns
returns g c = let all : c.loop-place.place ≡ c.args.places = omega arith in c.loop-place.invariant.cells ∙ ap (λ n. replicate n None) all

pub loop-place-init : goal.loop-place-init
loop-place-init g c = record {
  cells = c.in_ok-cells.ensures.items;
  room = c.in_ok-cells.ensures.exact;
  vacant = ap length c.in_ok-vacant.ensures.items;
  each = λ at h. absurd (omega arith);
  vacant_room = c.in_ok-vacant.ensures.exact;
}

pub push_reserved-requires : goal.push_reserved-requires
push_reserved-requires g c =
    let before = c.loop-place.invariant in
    let long : length c.loop-place.cells.items ≡ c.loop-place.place = ap length before.cells ∙ length-replicate c.loop-place.place None in
    let room = before.room in
    omega arith

pub push_reserved-requires-in-loop-place : goal.push_reserved-requires-in-loop-place
push_reserved-requires-in-loop-place g c = let long = c.loop-place.invariant.vacant in let room = c.loop-place.invariant.vacant_room in omega arith

pub overflow_sub-places : goal.overflow_sub-places
overflow_sub-places g c = let below = c.loop-place-test.true in omega arith

pub overflow_sub-places-in-loop-place : goal.overflow_sub-places-in-loop-place
overflow_sub-places-in-loop-place g c = let below = c.loop-place-test.true in omega arith
