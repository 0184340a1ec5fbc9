-- Which numbers a geometry and a plan may have.
use Rattle.std.specs.Prelude.{◌≡◌, ◌⊎◌, ℕ, ◌≤◌}
use Rattle.std.specs.Int.{IsPowerOfTwo}

-- 1 to 1,024 superblocks
abbrev pub HasSuperblocks : ℕ → Type 0
HasSuperblocks superblocks = (1 ≤ superblocks) × (superblocks ≤ 1024)

-- each of 8 to 512 units, a power of two
abbrev pub HasUnits : ℕ → Type 0
HasUnits units = (8 ≤ units) × (units ≤ 512) × IsPowerOfTwo units

-- the numbers of a geometry
pub record IsGeometry (superblocks units : ℕ) : Type 0 where
  pub superblocks_fit : HasSuperblocks superblocks
  pub units_fit : HasUnits units

-- the numbers of a plan: at least one activation and at most 4,000,000, and at most 16 roots
pub record IsPlan (limit roots : ℕ) : Type 0 where
  pub some_activation : 1 ≤ limit
  pub limit_fits : limit ≤ 4000000
  pub roots_fit : roots ≤ 16

-- the powers of two from 8 to 512, by name
abbrev pub IsUnitCount : ℕ → Type 0
IsUnitCount units =
    (units ≡ 8) ⊎ ((units ≡ 16) ⊎ ((units ≡ 32) ⊎ ((units ≡ 64) ⊎ ((units ≡ 128) ⊎ ((units ≡ 256) ⊎ (units ≡ 512))))))
