-- Blocks that are out share no unit.
use Rattle.std.proofs.Common.{◌≡◌, ℕ, ◌+◌, ◌-◌, ◌*◌, ◌/◌, ◌<◌, ◌≤◌, length, slice_get, sym, ◌∙◌, ap, subst, arith}
use Rattle.std.proofs.Math.Nat.{mul-le-mul_right}
use Rattle.std.proofs.lemmas.Nat.{div-mul-add}
use Rattle.std.proofs.lemmas.Option.{same_Some, slice_get_within}
use Rattle.kt_words.specs.Capacity.{block_units, capacity}
use Rattle.pool_core.specs.Blocks.{BlockState, block_at, HasUnit}
use Rattle.pool_core.specs.Pool.{PoolState, IsOutAt, IsSound, BlocksAreApart, BlocksAreInside}
use Rattle.pool_core.specs.Superblocks.{SuperblockState}
use Rattle.pool_core.proofs.Units.{capacity_fills, block_ends}

-- the row of a number among rows of the same width
row_of : (row width x : ℕ) → row * width ≤ x → x < row * width + width → x / width ≡ row
row_of row width x from before =
    let split : x ≡ row * width + (x - row * width) = omega arith in
    ap (λ y. y / width) split ∙ div-mul-add row width (x - row * width) (omega arith)

-- a block that is out ends inside its superblock
ends_of : (pool : PoolState) (block : BlockState) (place bit : ℕ) (superblock : SuperblockState) → IsSound pool → IsOutAt pool block place bit superblock
    → bit * block_units superblock.class + block_units superblock.class ≤ pool.units
ends_of pool block place bit superblock sound out =
    let kept = sound.kept place superblock out.there in
    block_ends pool.units superblock.class bit (capacity pool.units superblock.class) (capacity_fills pool.units superblock.class sound.unit_count kept.class_fits).0 (kept.inside bit out.is_set)

-- where a unit of it stands
pub record IsUnitOf (units place bit class unit : ℕ) : Type 0 where
  pub from : place * units + bit * block_units class ≤ unit
  pub before : unit < place * units + bit * block_units class + block_units class

unit_of : (pool : PoolState) (block : BlockState) (place bit unit : ℕ) (superblock : SuperblockState) → IsOutAt pool block place bit superblock
    → HasUnit block unit → IsUnitOf pool.units place bit superblock.class unit
unit_of pool block place bit unit superblock out has = record {
  from = subst (λ (b : BlockState). b.unit ≤ unit) out.block_is has.from;
  before = subst (λ (b : BlockState). unit < b.unit + block_units b.class) out.block_is has.before;
}

place_of_unit_in : (units place bit class unit : ℕ) → bit * block_units class + block_units class ≤ units → IsUnitOf units place bit class unit → unit / units ≡ place
place_of_unit_in units place bit class unit ends in_it = row_of place units unit (omega (arith, in_it.from)) (omega (arith, in_it.before, ends))

bit_of_unit_in : (units place bit class unit : ℕ) → IsUnitOf units place bit class unit → (unit - place * units) / block_units class ≡ bit
bit_of_unit_in units place bit class unit in_it =
    row_of bit (block_units class) (unit - place * units) (omega (arith, in_it.from)) (omega (arith, in_it.from, in_it.before))

pub blocks_apart : (pool : PoolState) → IsSound pool → BlocksAreApart pool
blocks_apart pool sound one other unit out out_too has has_too =
    let here = unit_of pool one out.place out.bit unit out.superblock out.at has in
    let there = unit_of pool other out_too.place out_too.bit unit out_too.superblock out_too.at has_too in
    let place : out.place ≡ out_too.place =
    sym (place_of_unit_in pool.units out.place out.bit out.superblock.class unit (ends_of pool one out.place out.bit out.superblock sound out.at) here)
    ∙ place_of_unit_in pool.units out_too.place out_too.bit out_too.superblock.class unit (ends_of pool other out_too.place out_too.bit out_too.superblock sound out_too.at) there in
    let superblock : out.superblock ≡ out_too.superblock =
    same_Some out.superblock out_too.superblock (sym out.at.there ∙ ap (slice_get pool.superblocks) place ∙ out_too.at.there) in
    let class : out.superblock.class ≡ out_too.superblock.class = ap (λ (s : SuperblockState). s.class) superblock in
    let bit : out.bit ≡ out_too.bit =
    sym (bit_of_unit_in pool.units out.place out.bit out.superblock.class unit here)
    ∙ ap (λ k. (unit - k * pool.units) / block_units out.superblock.class) place
    ∙ ap (λ k. (unit - out_too.place * pool.units) / block_units k) class
    ∙ bit_of_unit_in pool.units out_too.place out_too.bit out_too.superblock.class unit there in
    out.at.block_is
    ∙ ap (λ k. block_at pool.units k out.superblock.class out.bit) place
    ∙ ap (λ k. block_at pool.units out_too.place k out.bit) class
    ∙ ap (block_at pool.units out_too.place out_too.superblock.class) bit
    ∙ sym out_too.at.block_is

pub blocks_inside : (pool : PoolState) → IsSound pool → BlocksAreInside pool
blocks_inside pool sound block out =
    let ends = ends_of pool block out.place out.bit out.superblock sound out.at in
    let more : out.place + 1 ≤ length pool.superblocks = omega (arith, slice_get_within pool.superblocks out.place out.superblock out.at.there) in
    subst (λ (b : BlockState). b.unit + block_units b.class ≤ length pool.superblocks * pool.units) (sym out.at.block_is)
    (omega (arith, ends, mul-le-mul_right pool.units more))
