use Rattle.std.proofs.Common.{arith, sym, ◌∙◌, ap, length}
use Rattle.claim_core.specs.Claims.{Claims}
use Rattle.claim_core.proofs.FirstBits.{length-first_bits}
use Rattle.claim_core.proofs.claim_bits.ClaimBits.reserve.Goals as goal

pub invariant_of-self : goal.invariant_of-self
invariant_of-self c =
    let size = sym (length-first_bits c.self.inside.bits c.self.inside.words) ∙ ap (λ (v : Claims). length v.set) c.self.view_is in
    let count = ap (λ (v : Claims). v.count) c.self.view_is in
    record {
      few = c.self.invariant.few;
      most = omega (arith, size, count, c.requires.within, c.requires.below);
      least = omega (arith, c.self.invariant.least);
    }
