-- Laws of geometries and plans.
use Rattle.std.specs.Prelude.{◌≡◌, ◌↔◌, ℕ, ◌+◌, ◌*◌, ◌/◌, ◌%◌, ◌<◌, ◌≤◌}
use Rattle.kt_words.specs.Ranges.{IsUnitCount}
use Rattle.kt_words.specs.Capacity.{block_units, capacity, HasRoom, IsWithoutRoom}
use Rattle.kt_words.specs.declared.geometry.Geometry.{Geometry}
use Rattle.kt_words.specs.declared.plan.Plan.{Plan}

-- a superblock has one of seven numbers of units
abbrev pub UnitsByName : Type 0
UnitsByName = (geometry : Geometry) → IsUnitCount geometry.units

-- the blocks of a class fill a superblock, with no unit left over
abbrev pub BlocksFill : Type 0
BlocksFill = (geometry : Geometry) (class : ℕ) → class ≤ 3
    → (capacity geometry.units class * block_units class ≡ geometry.units) × (1 ≤ capacity geometry.units class) × (capacity geometry.units class ≤ 512)

-- a block that is among them ends inside its superblock
abbrev pub BlocksEndInside : Type 0
BlocksEndInside = (geometry : Geometry) (class place : ℕ) → class ≤ 3 → place < capacity geometry.units class
    → place * block_units class + block_units class ≤ geometry.units

-- the first unit of a block tells its superblock and, with its class, its place there
abbrev pub UnitNamesPlace : Type 0
UnitNamesPlace = (geometry : Geometry) (superblock class place : ℕ) → class ≤ 3 → place < capacity geometry.units class
    → ((superblock * geometry.units + place * block_units class) / geometry.units ≡ superblock)
    × ((superblock * geometry.units + place * block_units class) % geometry.units / block_units class ≡ place)

-- a superblock is without room exactly where it has none in its class, and has blocks that keep it from another
abbrev pub RoomIsEither : Type 0
RoomIsEither = (geometry : Geometry) (wanted class count : ℕ) → wanted ≤ 3
    → IsWithoutRoom geometry.units wanted class count ↔ ((HasRoom geometry.units wanted class count → ⊥) × (0 < count))

-- two geometries with the same numbers are the same
abbrev pub NumbersMakeGeometry : Type 0
NumbersMakeGeometry = (one other : Geometry) → one.superblocks ≡ other.superblocks → one.units ≡ other.units → one ≡ other

-- two plans with the same numbers are the same
abbrev pub NumbersMakePlan : Type 0
NumbersMakePlan = (one other : Plan) → one.geometry ≡ other.geometry → one.limit ≡ other.limit → one.roots ≡ other.roots → one ≡ other
