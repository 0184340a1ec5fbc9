use Rattle.std.proofs.Common.{arith}
use Rattle.claim_core.proofs.FirstBits.{length-first_bits}
use Rattle.claim_core.proofs.claim_bits.ClaimBits.count.Goals as goal

pub returns-clause-most : goal.returns-clause-most
returns-clause-most c =
    rw (← c.self.view_is) (omega (arith, length-first_bits c.self.inside.bits c.self.inside.words, c.self.invariant.most))
