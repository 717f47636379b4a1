use Rattle.std.proofs.Common.{◌≡◌, suc, ◌+◌, ◌<◌, length, Some, slice_get, refl, ap, sym, ◌∙◌, arith}
use Rattle.std.proofs.Math.ListN.{set}
use Rattle.std.proofs.lemmas.Option.{slice_get-get_or}
use Rattle.base_lists.proofs.Front.{mapped_front, mapped_front-length, mapped_front-next, mapped_front-suc, mapped_front-all}
use Rattle.queue_waits.specs.Waitlists.{since_before}
use Rattle.queue_waits.proofs.waiting.forget_joinings.Goals as goal

pub loop-place-init : goal.loop-place-init
loop-place-init c = refl

pub loop-place-preserved : goal.loop-place-preserved
loop-place-preserved c =
    let before = c.args.waiters.now.items in
    let place = c.loop-place.place in
    let inv = c.loop-place.invariant in
    let long : length c.loop-place.waiters.items ≡ length before = ap length inv ∙ mapped_front-length since_before place before in
    let within : place < length c.loop-place.waiters.items = (let t = c.loop-place-test.true in let e = c.len-place-end.ensures in omega arith) in
    let stood : slice_get before place ≡ Some c.index.result.now =
    sym (mapped_front-next since_before place before) ∙ ap (λ l. slice_get l place) (sym inv)
    ∙ slice_get-get_or c.loop-place.waiters.items place c.index.result.now within ∙ ap Some (sym c.index.ensures) in
    let next : place + 1 ≡ suc place = omega arith in
    ap (λ l. set l place c.joined_before.result) inv ∙ ap (set (mapped_front since_before place before) place) c.joined_before.ensures
    ∙ mapped_front-suc since_before place before c.index.result.now stood ∙ ap (λ n. mapped_front since_before n before) (sym next)

pub returns : goal.returns
returns c =
    let before = c.args.waiters.now.items in
    let inv = c.loop-place.invariant in
    let all : c.loop-place.place ≡ length before =
    (let f = c.loop-place-test.false in let a = c.loop-place.auto.place-end in let e = c.len-place-end.ensures in omega arith) in
    inv ∙ ap (λ n. mapped_front since_before n before) all ∙ mapped_front-all since_before before
