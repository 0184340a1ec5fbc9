use Rattle.std.proofs.Common.{◌≡◌, ℕ, ◌*◌, ◌<◌, true}
use Rattle.claim_core.specs.Bits.{is_one}
use Rattle.claim_core.proofs.words.lowest_clear.Given as goal

abbrev pub invariant-loop-word : goal.invariant-loop-word
invariant-loop-word l = (l.passed ≡ 64 * l.word-index) × ((bit : ℕ) → bit < l.passed → is_one l.words bit ≡ true)
