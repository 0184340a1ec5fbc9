use Rattle.std.proofs.Common.{true, ◌==◌, ◌%◌, ◌∙◌, ap, set, arith}
use Rattle.std.specs.Int.{w64}
use Rattle.std.proofs.lemmas.Nat.Bits.{bit_at_set_same, bit_at_set_other}
use Rattle.claim_core.proofs.FirstBits.{first_bits_written}
use Rattle.pool_core.proofs.superblock_set.SuperblockSet.insert.Goals as goal

pub returns : goal.returns
returns c =
    first_bits_written c.self.inside.words c.args.superblock _ true (omega (arith, c.requires, c.self.told))
    (ap (λ x. x == 1) (bit_at_set_same w64 _ (c.args.superblock % 64) (omega arith)))
    (λ i within ne. bit_at_set_other w64 _ (c.args.superblock % 64) (omega arith) i ne) 1024
    ∙ ap (λ bits. set bits c.args.superblock true) c.self.view_is
