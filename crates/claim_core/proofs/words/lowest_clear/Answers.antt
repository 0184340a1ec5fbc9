use Rattle.std.proofs.Common.{⊎_elim, arith}
use Rattle.std.proofs.lemmas.Bool.{cases_lt}
use Rattle.claim_core.proofs.FirstBits.{is_one_full, is_one_lowest, is_one_below_lowest}
use Rattle.claim_core.proofs.words.lowest_clear.Goals as goal

pub returns-then-word-clause-clear : goal.returns-then-word-clause-clear
returns-then-word-clause-clear c =
    λ _. is_one_lowest c.args.words.now c.loop-word.word-index c.loop-word.passed _ c.loop-word.invariant.0 c.lowest_in.ensures.within c.lowest_in.ensures.clear

pub returns-then-word-clause-below : goal.returns-then-word-clause-below
returns-then-word-clause-below c =
    λ bit before. ⊎_elim (c.loop-word.invariant.1 bit)
    (λ from. is_one_below_lowest c.args.words.now c.loop-word.word-index c.loop-word.passed _ c.loop-word.invariant.0 c.lowest_in.ensures.within c.lowest_in.ensures.below bit from before)
    (cases_lt bit c.loop-word.passed)

pub loop-word-preserved : goal.loop-word-preserved
loop-word-preserved c = (
  omega arith,
  (λ bit before. ⊎_elim (c.loop-word.invariant.1 bit)
      (λ from. is_one_full c.args.words.now c.loop-word.word-index bit c.if-word.false (omega (arith, c.loop-word.invariant.0)))
      (cases_lt bit c.loop-word.passed)),
)
