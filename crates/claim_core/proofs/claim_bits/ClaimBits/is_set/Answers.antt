use Rattle.std.proofs.Common.{length, Some, sym, ◌∙◌, ap, arith}
use Rattle.claim_core.specs.Claims.{Claims}
use Rattle.claim_core.proofs.FirstBits.{length-first_bits, slice_get-first_bits}
use Rattle.claim_core.proofs.claim_bits.ClaimBits.is_set.Goals as goal

pub is_bit_set-requires : goal.is_bit_set-requires
is_bit_set-requires c =
    let size = sym (length-first_bits c.self.inside.bits c.self.inside.words) ∙ ap (λ (v : Claims). length v.set) c.self.view_is in
    omega (arith, size, c.requires, c.self.invariant.few, c.self.told)

pub returns : goal.returns
returns c =
    let size = sym (length-first_bits c.self.inside.bits c.self.inside.words) ∙ ap (λ (v : Claims). length v.set) c.self.view_is in
    rw (← c.self.view_is)
    (slice_get-first_bits c.self.inside.bits c.self.inside.words c.args.bit (omega (arith, size, c.requires))
    ∙ ap (λ b. Some b) (sym c.is_bit_set.ensures))
