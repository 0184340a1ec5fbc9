use Rattle.std.proofs.Common.{◌<◌, sym, subst, arith}
use Rattle.claim_core.specs.Claims.{Claims, set_count}
use Rattle.claim_core.specs.Bits.{first_bits}
use Rattle.claim_core.proofs.Counted.{set_count_claimed}
use Rattle.claim_core.proofs.Lowest.{lowest-lt, IsLowestClear-first_bits}
use Rattle.claim_core.proofs.claim_bits.ClaimBits.claim.Goals as goal

pub set_bit-requires : goal.set_bit-requires
set_bit-requires c =
    let fewer = subst (λ (v : Claims). set_count v.set < v.count) (sym c.self.view_is) c.requires in
    let within = lowest-lt c.self.inside.bits c.self.inside.count c.lowest_clear-bit.result c.self.inside.words c.self.invariant.most fewer c.lowest_clear-bit.ensures.below in
    omega (arith, within, c.self.invariant.few, c.self.invariant.most, c.self.told)

pub invariant_of-self : goal.invariant_of-self
invariant_of-self c =
    let fewer = subst (λ (v : Claims). set_count v.set < v.count) (sym c.self.view_is) c.requires in
    let within = lowest-lt c.self.inside.bits c.self.inside.count c.lowest_clear-bit.result c.self.inside.words c.self.invariant.most fewer c.lowest_clear-bit.ensures.below in
    let lowest = IsLowestClear-first_bits c.self.inside.bits c.lowest_clear-bit.result c.self.inside.words (omega (arith, within, c.self.invariant.most))
    (c.lowest_clear-bit.ensures.clear (omega (arith, within, c.self.invariant.few, c.self.invariant.most, c.self.told))) c.lowest_clear-bit.ensures.below in
    record {
      few = c.self.invariant.few;
      most = c.self.invariant.most;
      least = rw (c.set_bit.ensures c.self.inside.bits)
          (omega (arith, set_count_claimed (first_bits c.self.inside.bits c.self.inside.words) c.lowest_clear-bit.result lowest.clear, fewer));
    }

pub returns-clause-lowest : goal.returns-clause-lowest
returns-clause-lowest c =
    let fewer = subst (λ (v : Claims). set_count v.set < v.count) (sym c.self.view_is) c.requires in
    let within = lowest-lt c.self.inside.bits c.self.inside.count c.lowest_clear-bit.result c.self.inside.words c.self.invariant.most fewer c.lowest_clear-bit.ensures.below in
    rw (← c.self.view_is) (IsLowestClear-first_bits c.self.inside.bits c.lowest_clear-bit.result c.self.inside.words (omega (arith, within, c.self.invariant.most))
    (c.lowest_clear-bit.ensures.clear (omega (arith, within, c.self.invariant.few, c.self.invariant.most, c.self.told))) c.lowest_clear-bit.ensures.below)

pub returns-clause-within : goal.returns-clause-within
returns-clause-within c =
    let fewer = subst (λ (v : Claims). set_count v.set < v.count) (sym c.self.view_is) c.requires in
    rw (← c.self.view_is) (lowest-lt c.self.inside.bits c.self.inside.count c.lowest_clear-bit.result c.self.inside.words c.self.invariant.most fewer c.lowest_clear-bit.ensures.below)

pub returns-clause-more : goal.returns-clause-more
returns-clause-more c =
    let fewer = subst (λ (v : Claims). set_count v.set < v.count) (sym c.self.view_is) c.requires in
    let within = lowest-lt c.self.inside.bits c.self.inside.count c.lowest_clear-bit.result c.self.inside.words c.self.invariant.most fewer c.lowest_clear-bit.ensures.below in
    let lowest = IsLowestClear-first_bits c.self.inside.bits c.lowest_clear-bit.result c.self.inside.words (omega (arith, within, c.self.invariant.most))
    (c.lowest_clear-bit.ensures.clear (omega (arith, within, c.self.invariant.few, c.self.invariant.most, c.self.told))) c.lowest_clear-bit.ensures.below in
    rw (← c.self.view_is, c.set_bit.ensures c.self.inside.bits) (set_count_claimed (first_bits c.self.inside.bits c.self.inside.words) c.lowest_clear-bit.result lowest.clear)
