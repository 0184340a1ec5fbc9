use Rattle.std.proofs.Common.{length, true, slice_get, sym, ◌∙◌, ap, arith}
use Rattle.std.proofs.lemmas.Option.{slice_get_within}
use Rattle.claim_core.specs.Claims.{Claims, IsSet}
use Rattle.claim_core.specs.Bits.{first_bits}
use Rattle.claim_core.proofs.Counted.{set_count_cleared}
use Rattle.claim_core.proofs.FirstBits.{length-first_bits}
use Rattle.claim_core.proofs.claim_bits.ClaimBits.clear.Goals as goal

pub clear_bit-requires : goal.clear_bit-requires
clear_bit-requires c =
    let size = sym (length-first_bits c.self.inside.bits c.self.inside.words) ∙ ap (λ (v : Claims). length v.set) c.self.view_is in
    omega (arith, size, slice_get_within c.args.self.now.set c.args.bit true c.requires, c.self.invariant.few, c.self.told)

pub invariant_of-self : goal.invariant_of-self
invariant_of-self c =
    let was : IsSet (first_bits c.self.inside.bits c.self.inside.words) c.args.bit = ap (λ (v : Claims). slice_get v.set c.args.bit) c.self.view_is ∙ c.requires in
    record {
      few = c.self.invariant.few;
      most = c.self.invariant.most;
      least = rw (c.clear_bit.ensures c.self.inside.bits)
          (omega (arith, set_count_cleared (first_bits c.self.inside.bits c.self.inside.words) c.args.bit was, c.self.invariant.least));
    }

pub returns-clause-fewer : goal.returns-clause-fewer
returns-clause-fewer c =
    let was : IsSet (first_bits c.self.inside.bits c.self.inside.words) c.args.bit = ap (λ (v : Claims). slice_get v.set c.args.bit) c.self.view_is ∙ c.requires in
    rw (← c.self.view_is, c.clear_bit.ensures c.self.inside.bits) (set_count_cleared (first_bits c.self.inside.bits c.self.inside.words) c.args.bit was)
