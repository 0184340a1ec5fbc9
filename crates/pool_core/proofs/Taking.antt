-- The superblock of a block that is out, and the pool after it was taken back.
use Rattle.std.proofs.Common.{◌≡◌, ℕ, ◌/◌, ◌%◌, List, get_or, sym, ◌∙◌, ap, subst}
use Rattle.std.proofs.lemmas.Option.{slice_get_within, get_or_from_slice_get}
use Rattle.kt_words.specs.Capacity.{block_units}
use Rattle.pool_core.specs.Blocks.{BlockState}
use Rattle.pool_core.specs.Pool.{PoolState, IsOut, IsOutAt, IsSound, with_superblock}
use Rattle.pool_core.specs.Superblocks.{SuperblockState, taken_back}
use Rattle.pool_core.proofs.Keeping.{IsKept_taken_back}
use Rattle.pool_core.proofs.Sound.{IsSound-with}
use Rattle.pool_core.proofs.Units.{place_of_unit, bit_of_unit}

pub place_of : (pool : PoolState) (block : BlockState) (place bit : ℕ) (superblock : SuperblockState) → IsSound pool
    → IsOutAt pool block place bit superblock → block.unit / pool.units ≡ place
place_of pool block place bit superblock sound out =
    let kept = sound.kept place superblock out.there in
    ap (λ (b : BlockState). b.unit / pool.units) out.block_is
    ∙ place_of_unit pool.units superblock.class place bit sound.unit_count kept.class_fits (kept.inside bit out.is_set)

pub bit_of : (pool : PoolState) (block : BlockState) (place bit : ℕ) (superblock : SuperblockState) → IsSound pool
    → IsOutAt pool block place bit superblock → block.unit % pool.units / block_units block.class ≡ bit
bit_of pool block place bit superblock sound out =
    let kept = sound.kept place superblock out.there in
    ap (λ (b : BlockState). b.unit % pool.units / block_units b.class) out.block_is
    ∙ bit_of_unit pool.units superblock.class place bit sound.unit_count kept.class_fits (kept.inside bit out.is_set)

pub IsSound-taken_back : (pool : PoolState) (block : BlockState) (place bit : ℕ) (was : SuperblockState) → IsSound pool
    → IsOutAt pool block place bit was → IsSound (with_superblock pool place (taken_back was bit))
IsSound-taken_back pool block place bit was sound out =
    IsSound-with pool place (taken_back was bit) sound (slice_get_within pool.superblocks place was out.there)
    (IsKept_taken_back pool.units bit was (sound.kept place was out.there) out.is_set)

-- what is read at the place of the block
pub record IsFound (at within class place bit : ℕ) (now superblock : SuperblockState) : Type 0 where
  pub place_is : at ≡ place
  pub bit_is : within / block_units class ≡ bit
  pub now_is : now ≡ superblock

pub found : (units : ℕ) (items : List SuperblockState) (block : BlockState) (place bit : ℕ) (now superblock : SuperblockState) (unit class at within : ℕ)
    → IsSound (record { units = units; superblocks = items }) → IsOutAt (record { units = units; superblocks = items }) block place bit superblock
    → unit ≡ block.unit → class ≡ block.class → at ≡ unit / units → within ≡ unit % units → now ≡ get_or items at now
    → IsFound at within class place bit now superblock
found units items block place bit now superblock unit class at within sound out is_unit is_class is_at is_within read =
    let pool : PoolState = record { units = units; superblocks = items } in
    let here : at ≡ place = is_at ∙ ap (λ u. u / units) is_unit ∙ place_of pool block place bit superblock sound out in
    record {
      place_is = here;
      bit_is = ap (λ w. w / block_units class) is_within ∙ ap (λ u. u % units / block_units class) is_unit
          ∙ ap (λ k. block.unit % units / block_units k) is_class ∙ bit_of pool block place bit superblock sound out;
      now_is = read ∙ ap (λ k. get_or items k now) here ∙ get_or_from_slice_get items place superblock now out.there;
    }

-- the same where the pool is seen in other words
pub out_seen : {seen pool : PoolState} {block : BlockState} (out : IsOut pool block) → seen ≡ pool → IsOutAt seen block out.place out.bit out.superblock
out_seen {seen} {pool} {block} out same = subst (λ (p : PoolState). IsOutAt p block out.place out.bit out.superblock) (sym same) out.at

pub found_seen : {seen pool : PoolState} {block : BlockState} (out : IsOut pool block) {unit class at within : ℕ} {now : SuperblockState} → seen ≡ pool → IsSound seen
    → unit ≡ block.unit → class ≡ block.class → at ≡ unit / seen.units → within ≡ unit % seen.units → now ≡ get_or seen.superblocks at now
    → IsFound at within class out.place out.bit now out.superblock
found_seen {seen} {pool} {block} out {unit} {class} {at} {within} {now} same sound =
    found seen.units seen.superblocks block out.place out.bit now out.superblock unit class at within sound (out_seen out same)
