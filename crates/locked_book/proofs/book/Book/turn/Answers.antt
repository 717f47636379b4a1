use Rattle.std.proofs.Common.{◌≡◌, suc, ◌+◌, Result, Ok, Err, inr, inl, refl, subst, arith}
use Rattle.std.specs.Result.{OnErr}
use Rattle.locked_book.specs.Turns.{WalksBlocks}
use Rattle.locked_book.proofs.book.Book.turn.Goals as goal

-- whatever the answer is
on_err : {A E X : Type 0} (answer : Result A E) → X → OnErr answer X
on_err (Ok a) x = tt
on_err (Err e) x = x

pub returns-in_err-turn_block-clause-stopped : goal.returns-in_err-turn_block-clause-stopped
returns-in_err-turn_block-clause-stopped g c =
    on_err c.from_residual.result
    (record {
      cause = inr (inl (record {
        number = c.loop-number.number;
        between = c.loop-number.self;
        woken_between = c.loop-number.woken;
        walks = c.loop-number.invariant;
        stops = c.in_err-turn_block.ensures.stopped;
      }));
    })

pub loop-number-preserved : goal.loop-number-preserved
loop-number-preserved g c =
    let next : suc c.loop-number.number ≡ c.loop-number.number + 1 = omega arith in
    subst (λ number. WalksBlocks c.args.moment number c.args.self.now c.args.woken.now c.turn_block.new.self c.turn_block.new.woken) next
    (c.loop-number.self, c.loop-number.woken, c.loop-number.invariant, c.in_ok-turn_block.ensures.ok)

pub loop-number-init : goal.loop-number-init
loop-number-init g c = (refl, refl)
