-- Which blocks are out after one superblock changed.
use Rattle.std.proofs.Common.{◌≡◌, ◌≢◌, ◌⊎◌, ◌↔◌, ℕ, ◌/◌, ◌%◌, ◌<◌, ◌≤◌, true, false, Some, slice_get, set, refl, sym, ◌∙◌, ap, subst, inl, inr, ⊎_elim, arith}
use Rattle.std.proofs.lemmas.Bool.{cases_eq, false≢true}
use Rattle.std.proofs.lemmas.Option.{same_Some, slice_get_within}
use Rattle.claim_core.specs.Claims.{IsSet, IsClear, IsLowestClear}
use Rattle.kt_words.specs.Capacity.{block_units, capacity}
use Rattle.pool_core.specs.Blocks.{BlockState, block_at}
use Rattle.pool_core.specs.Pool.{PoolState, IsOutAt, IsOut, IsSound, Adds, Removes, with_superblock}
use Rattle.pool_core.specs.Superblocks.{SuperblockState, IsEmpty, IsKept, given, taken_back}
use Rattle.pool_core.proofs.Giving.{IsReady, IsSound-given}
use Rattle.pool_core.proofs.Keeping.{set_count_some, IsSet_claimed, IsSet_cleared}
use Rattle.pool_core.proofs.Places.{slice_get-set_same, slice_get-set_other}
use Rattle.pool_core.proofs.Taking.{place_of, bit_of, IsSound-taken_back}

-- what is out of a superblock: its bit is set, and the block is that of the bit
pub record IsOutOf (units place bit : ℕ) (superblock : SuperblockState) (block : BlockState) : Type 0 where
  pub is_set : IsSet superblock.set bit
  pub block_is : block ≡ block_at units place superblock.class bit

pub out_of : (pool : PoolState) (block : BlockState) (place at bit : ℕ) (here superblock : SuperblockState)
    → slice_get pool.superblocks place ≡ Some here → at ≡ place → IsOutAt pool block at bit superblock → IsOutOf pool.units place bit here block
out_of pool block place at bit here superblock there e out =
    let same : superblock ≡ here = same_Some superblock here (sym out.there ∙ ap (slice_get pool.superblocks) e ∙ there) in
    record {
      is_set = subst (λ (s : SuperblockState). IsSet s.set bit) same out.is_set;
      block_is = out.block_is ∙ ap (λ k. block_at pool.units k superblock.class bit) e ∙ ap (λ (s : SuperblockState). block_at pool.units place s.class bit) same;
    }

pub out_from : (pool : PoolState) (block : BlockState) (place bit : ℕ) (here : SuperblockState)
    → slice_get pool.superblocks place ≡ Some here → IsOutOf pool.units place bit here block → IsOut pool block
out_from pool block place bit here there out = record {
  place = place;
  bit = bit;
  superblock = here;
  at = record { there = there; is_set = out.is_set; block_is = out.block_is };
}

-- in the other superblocks the same blocks are out
out_before : (pool : PoolState) (place : ℕ) (new : SuperblockState) (block : BlockState) (out : IsOut (with_superblock pool place new) block)
    → out.place ≢ place → IsOut pool block
out_before pool place new block out ne =
    out_from pool block out.place out.bit out.superblock (sym (slice_get-set_other pool.superblocks place out.place new ne) ∙ out.at.there)
    (record { is_set = out.at.is_set; block_is = out.at.block_is })

out_after : (pool : PoolState) (place : ℕ) (new : SuperblockState) (block : BlockState) (out : IsOut pool block)
    → out.place ≢ place → IsOut (with_superblock pool place new) block
out_after pool place new block out ne =
    out_from (with_superblock pool place new) block out.place out.bit out.superblock (slice_get-set_other pool.superblocks place out.place new ne ∙ out.at.there)
    (record { is_set = out.at.is_set; block_is = out.at.block_is })

-- where another superblock than this becomes so, what is out changes as it does in the superblock
out_changes : (pool : PoolState) (place : ℕ) (was new : SuperblockState) (block : BlockState)
    → slice_get pool.superblocks place ≡ Some was
    → ((bit : ℕ) → IsOutOf pool.units place bit new block ↔ IsOutOf pool.units place bit was block)
    → IsOut (with_superblock pool place new) block ↔ IsOut pool block
out_changes pool place was new block there same =
    let now : slice_get (set pool.superblocks place new) place ≡ Some new = slice_get-set_same pool.superblocks place new (slice_get_within pool.superblocks place was there) in (
      λ out. ⊎_elim
          (λ e. out_from pool block place out.bit was there
          ((same out.bit).0 (out_of (with_superblock pool place new) block place out.place out.bit new out.superblock now e out.at)))
          (λ ne. out_before pool place new block out ne)
          (cases_eq out.place place),
      λ out. ⊎_elim
          (λ e. out_from (with_superblock pool place new) block place out.bit new now
          ((same out.bit).1 (out_of pool block place out.place out.bit was out.superblock there e out.at)))
          (λ ne. out_after pool place new block out ne)
          (cases_eq out.place place),
    )

-- blocks are out of a superblock of the class, or of none
class_of_set : (units class bit : ℕ) (was : SuperblockState) → IsKept units was → (was.class ≡ class) ⊎ IsEmpty was → IsSet was.set bit → was.class ≡ class
class_of_set units class bit was kept (inl e) is_set = e
class_of_set units class bit was kept (inr empty) is_set = absurd (omega (arith, empty, kept.counted, set_count_some was.set bit is_set))

given_others : (pool : PoolState) (class place bit : ℕ) (was : SuperblockState) → IsReady pool class place was → IsClear was.set bit
    → (other : BlockState) → other ≢ block_at pool.units place class bit
    → (at : ℕ) → IsOutOf pool.units place at (given was class bit) other ↔ IsOutOf pool.units place at was other
given_others pool class place bit was ready clear other ne at = (
  λ out. ⊎_elim
      (λ e. absurd (ne (out.block_is ∙ ap (block_at pool.units place class) e)))
      (λ far.
      let is_set = IsSet_claimed was.set bit at out.is_set far in
      record {
        is_set = is_set;
        block_is = out.block_is ∙ ap (λ k. block_at pool.units place k at) (sym (class_of_set pool.units class at was ready.kept ready.of_class is_set));
      })
      (cases_eq at bit),
  λ out.
      let far : at ≢ bit = λ e. false≢true (same_Some false true (sym clear ∙ ap (slice_get was.set) (sym e) ∙ out.is_set)) in
      record {
        is_set = slice_get-set_other was.set bit at true far ∙ out.is_set;
        block_is = out.block_is ∙ ap (λ k. block_at pool.units place k at) (class_of_set pool.units class at was ready.kept ready.of_class out.is_set);
      },
)

given_out_at : (pool : PoolState) (class place bit : ℕ) (was : SuperblockState) → slice_get pool.superblocks place ≡ Some was → IsClear was.set bit
    → IsOutAt (with_superblock pool place (given was class bit)) (block_at pool.units place class bit) place bit (given was class bit)
given_out_at pool class place bit was there clear = record {
  there = slice_get-set_same pool.superblocks place (given was class bit) (slice_get_within pool.superblocks place was there);
  is_set = slice_get-set_same was.set bit true (slice_get_within was.set bit false clear);
  block_is = refl;
}

-- a block that stands at the same place of the same superblock in two pools of the same units
same_place : (one other : PoolState) (block : BlockState) (at bit place place_bit : ℕ) (superblock here : SuperblockState)
    → IsSound one → IsSound other → one.units ≡ other.units → IsOutAt one block at bit superblock → IsOutAt other block place place_bit here
    → (at ≡ place) × (bit ≡ place_bit)
same_place one other block at bit place place_bit superblock here one_sound other_sound units out there = (
  sym (place_of one block at bit superblock one_sound out) ∙ ap (λ n. block.unit / n) units ∙ place_of other block place place_bit here other_sound there,
  sym (bit_of one block at bit superblock one_sound out) ∙ ap (λ n. block.unit % n / block_units block.class) units ∙ bit_of other block place place_bit here other_sound there,
)

pub Adds-given : (pool : PoolState) (class place bit : ℕ) (was : SuperblockState) → IsSound pool → class ≤ 3 → IsReady pool class place was
    → IsLowestClear was.set bit → bit < capacity pool.units class
    → Adds pool (block_at pool.units place class bit) (with_superblock pool place (given was class bit))
Adds-given pool class place bit was sound fits ready lowest inside =
    let is_out = given_out_at pool class place bit was ready.there lowest.clear in
    let new_sound = IsSound-given pool class place bit was sound fits ready lowest inside in
    record {
      was_in = λ out.
          let same = same_place pool (with_superblock pool place (given was class bit)) (block_at pool.units place class bit) out.place out.bit place bit out.superblock (given was class bit) sound new_sound refl out.at is_out in
          let in_it = out_of pool (block_at pool.units place class bit) place out.place out.bit was out.superblock ready.there same.0 out.at in
          false≢true (same_Some false true (sym lowest.clear ∙ ap (slice_get was.set) (sym same.1) ∙ in_it.is_set));
      is_out = record { place = place; bit = bit; superblock = given was class bit; at = is_out };
      others = λ other ne. out_changes pool place was (given was class bit) other ready.there (given_others pool class place bit was ready lowest.clear other ne);
    }

taken_back_others : (pool : PoolState) (place bit : ℕ) (was : SuperblockState) → IsSet was.set bit
    → (other : BlockState) → other ≢ block_at pool.units place was.class bit
    → (at : ℕ) → IsOutOf pool.units place at (taken_back was bit) other ↔ IsOutOf pool.units place at was other
taken_back_others pool place bit was is_set other ne at = (
  λ out. record { is_set = (IsSet_cleared was.set bit at (slice_get_within was.set bit true is_set) out.is_set).1; block_is = out.block_is },
  λ out.
      let far : at ≢ bit = λ e. ne (out.block_is ∙ ap (block_at pool.units place was.class) e) in
      record { is_set = slice_get-set_other was.set bit at false far ∙ out.is_set; block_is = out.block_is },
)

pub Removes-taken_back : (pool : PoolState) (block : BlockState) (place bit : ℕ) (was : SuperblockState) → IsSound pool
    → IsOutAt pool block place bit was → Removes pool block (with_superblock pool place (taken_back was bit))
Removes-taken_back pool block place bit was sound at =
    let new_sound = IsSound-taken_back pool block place bit was sound at in
    let now : slice_get (set pool.superblocks place (taken_back was bit)) place ≡ Some (taken_back was bit) =
    slice_get-set_same pool.superblocks place (taken_back was bit) (slice_get_within pool.superblocks place was at.there) in
    record {
      is_in = λ out.
          let same = same_place (with_superblock pool place (taken_back was bit)) pool block out.place out.bit place bit out.superblock was new_sound sound refl out.at at in
          let in_it = out_of (with_superblock pool place (taken_back was bit)) block place out.place out.bit (taken_back was bit) out.superblock now same.0 out.at in
          (IsSet_cleared was.set bit out.bit (slice_get_within was.set bit true at.is_set) in_it.is_set).0 same.1;
      others = λ other ne. out_changes pool place was (taken_back was bit) other at.there
          (taken_back_others pool place bit was at.is_set other (λ e. ne (e ∙ sym at.block_is)));
    }
