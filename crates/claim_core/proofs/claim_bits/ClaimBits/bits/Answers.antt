use Rattle.std.proofs.Common.{length, sym, ◌∙◌, ap}
use Rattle.claim_core.specs.Claims.{Claims}
use Rattle.claim_core.proofs.FirstBits.{length-first_bits}
use Rattle.claim_core.proofs.claim_bits.ClaimBits.bits.Goals as goal

pub returns-clause-bits : goal.returns-clause-bits
returns-clause-bits c =
    sym (length-first_bits c.self.inside.bits c.self.inside.words) ∙ ap (λ (v : Claims). length v.set) c.self.view_is
