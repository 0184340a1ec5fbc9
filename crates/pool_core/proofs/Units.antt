-- The units of a block among those of its superblock and of the pool.
use Rattle.std.proofs.Common.{◌≡◌, ℕ, ◌+◌, ◌*◌, ◌/◌, ◌%◌, ◌^◌, ◌<◌, ◌≤◌, zero, suc, ◌∙◌, ap, arith}
use Rattle.std.proofs.Math.Nat.{mul-le-mul_right, mul-div_left, mod-eq_of_lt}
use Rattle.std.proofs.lemmas.Nat.{div-mul-add, mod-mul-add, pow_pos}
use Rattle.kt_words.specs.Ranges.{IsUnitCount}
use Rattle.kt_words.specs.Capacity.{block_units, capacity}

-- the block at a place below the capacity ends inside its superblock
pub block_ends : (units class bit room : ℕ) → room * block_units class ≡ units → bit < room → bit * block_units class + block_units class ≤ units
block_ends units class bit room whole below =
    let more : bit + 1 ≤ room = omega arith in
    omega (arith, mul-le-mul_right (block_units class) more, whole)

-- a number of units of a pool has 32 bits
pub unit_fits : (place units offset : ℕ) → place < 1024 → units ≤ 512 → offset ≤ 512 → place * units + offset < 2 ^ 32
unit_fits place units offset few small inside =
    let most : place ≤ 1024 = omega arith in
    omega (arith, mul-le-mul_right units most, small, inside)

-- the blocks of a class fill a superblock
pub capacity_fills : (units class : ℕ) → IsUnitCount units → class ≤ 3
    → (capacity units class * block_units class ≡ units) × (1 ≤ capacity units class) × (capacity units class ≤ units) × (8 ≤ units) × (units ≤ 512)
capacity_fills units zero h e = omega (arith, h)
capacity_fills units (suc zero) h e = omega (arith, h)
capacity_fills units (suc (suc zero)) h e = omega (arith, h)
capacity_fills units (suc (suc (suc zero))) h e = omega (arith, h)
capacity_fills units (suc (suc (suc (suc k)))) h e = absurd (omega arith)

pub block_units-pos : (class : ℕ) → 0 < block_units class
block_units-pos class = pow_pos class

-- the superblock and the place of a block, by its first unit
pub place_of_unit : (units class place bit : ℕ) → IsUnitCount units → class ≤ 3 → bit < capacity units class
    → (place * units + bit * block_units class) / units ≡ place
place_of_unit units class place bit h e below =
    let whole = capacity_fills units class h e in
    let ends = block_ends units class bit (capacity units class) whole.0 below in
    div-mul-add place units (bit * block_units class) (omega (arith, ends, block_units-pos class))

pub bit_of_unit : (units class place bit : ℕ) → IsUnitCount units → class ≤ 3 → bit < capacity units class
    → (place * units + bit * block_units class) % units / block_units class ≡ bit
bit_of_unit units class place bit h e below =
    let whole = capacity_fills units class h e in
    let ends = block_ends units class bit (capacity units class) whole.0 below in
    ap (λ x. x / block_units class) (mod-mul-add place units (bit * block_units class) (omega (arith, ends, block_units-pos class)))
    ∙ mul-div_left bit (block_units-pos class)

-- where a block stands, in 32 bits
pub shifted : (units class bit room : ℕ) → room * block_units class ≡ units → bit < room → units ≤ 512
    → bit * 2 ^ class % 4294967296 ≡ bit * block_units class
shifted units class bit room whole below small =
    let ends = block_ends units class bit room whole below in
    mod-eq_of_lt (omega (arith, ends, small))
