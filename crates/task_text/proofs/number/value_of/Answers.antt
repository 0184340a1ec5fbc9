use Rattle.std.proofs.Common.{◌-◌, get_or, arith}
use Rattle.task_text.proofs.Digits.{digit-at, digits-more, pow-more}
use Rattle.task_text.proofs.number.value_of.Goals as goal

pub loop-digit-preserved : goal.loop-digit-preserved
loop-digit-preserved c =
    let b = digit-at c.args.digits.now c.loop-digit.digit-index c.requires.digits c.loop-digit-test.true in
    rw c.from.ensures (
      digits-more c.args.digits.now c.loop-digit.digit-index c.loop-digit.value c.requires.digits c.loop-digit-test.true c.loop-digit.invariant.0,
      pow-more c.loop-digit.digit-index c.loop-digit.value (get_or c.args.digits.now c.loop-digit.digit-index 0 - 48) c.loop-digit.invariant.1 (omega (arith, b)),
    )
