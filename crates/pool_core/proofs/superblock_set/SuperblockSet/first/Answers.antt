use Rattle.std.proofs.Common.{refl, arith}
use Rattle.std.proofs.lemmas.Bool.{true≢false}
use Rattle.pool_core.proofs.SuperblockSets.{first_is, none_is, first_excludes_none}
use Rattle.pool_core.proofs.superblock_set.SuperblockSet.first.Goals as goal

pub returns-then-word-ne0-clause-first : goal.returns-then-word-ne0-clause-first
returns-then-word-ne0-clause-first c =
    rw (← c.self.view_is)
    (first_is 1024 c.self.inside.words c.loop-word.word-index c.loop-word.passed c.lowest_in.result c.loop-word.invariant.0 c.lowest_in.ensures.within
    (omega (arith, c.loop-word.invariant.0, c.lowest_in.ensures.within, c.self.told)) c.lowest_in.ensures.one c.lowest_in.ensures.below c.loop-word.invariant.1)

pub returns-then-word-ne0-clause-none : goal.returns-then-word-ne0-clause-none
returns-then-word-ne0-clause-none c = (
  λ no. absurd (true≢false no),
  rw (← c.self.view_is)
      (λ none. absurd (first_excludes_none _ _
      (first_is 1024 c.self.inside.words c.loop-word.word-index c.loop-word.passed c.lowest_in.result c.loop-word.invariant.0 c.lowest_in.ensures.within
      (omega (arith, c.loop-word.invariant.0, c.lowest_in.ensures.within, c.self.told)) c.lowest_in.ensures.one c.lowest_in.ensures.below c.loop-word.invariant.1) none)),
)

pub returns-clause-none : goal.returns-clause-none
returns-clause-none c = (
  λ _. rw (← c.self.view_is)
      (none_is 1024 c.self.inside.words c.loop-word.passed (omega (arith, c.loop-word.invariant.0, c.self.told)) c.loop-word.invariant.1),
  λ _. refl,
)
