use Rattle.std.proofs.Common.{replicate, arith, refl}
use Rattle.claim_core.proofs.Counted.{set_count-none}
use Rattle.claim_core.proofs.FirstBits.{first_bits-none, get_or-zeros}
use Rattle.claim_core.proofs.claim_bits.ClaimBits.new.Goals as goal

pub invariant_of-result : goal.invariant_of-result
invariant_of-result c =
    record {
      few = c.requires.few;
      most = omega arith;
      least = rw (first_bits-none c.args.bits (replicate 8 0) (get_or-zeros 8)) (omega (arith, set_count-none c.args.bits));
    }

pub returns : goal.returns
returns c = rw (first_bits-none c.args.bits (replicate 8 0) (get_or-zeros 8)) refl
