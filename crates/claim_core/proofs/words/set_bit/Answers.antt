use Rattle.std.proofs.Common.{true, ◌==◌, ap, arith, ◌%◌}
use Rattle.std.specs.Int.{w64}
use Rattle.std.proofs.lemmas.Nat.Bits.{bit_at_set_same, bit_at_set_other}
use Rattle.claim_core.proofs.FirstBits.{first_bits_written}
use Rattle.claim_core.proofs.words.set_bit.Goals as goal

pub returns : goal.returns
returns c =
    first_bits_written c.args.words.now c.args.bit _ true (omega (arith, c.requires))
    (ap (λ x. x == 1) (bit_at_set_same w64 _ (c.args.bit % 64) (omega arith)))
    (λ i within ne. bit_at_set_other w64 _ (c.args.bit % 64) (omega arith) i ne)
