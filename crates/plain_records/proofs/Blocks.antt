-- The blocks that are kept by their classes.
use Rattle.std.proofs.Common.{◌≡◌, ℕ, zero, suc, ◌+◌, ◌<◌, Option, Some, None, List, [], ◌∷◌, length, replicate, slice_get, refl, sym, ap, ◌∙◌, arith}
use Rattle.std.specs.Prelude.{slice_set, get_or, IfSome}
use Rattle.pool_core.specs.Blocks.{BlockState}
use Rattle.pool_core.specs.Pool.{PoolState, IsOut}
use Rattle.record_core.specs.Numbers.{flat}
use Rattle.plain_records.specs.Allocated.{IsGivenBack, pool_without, pool_without_if}
use Rattle.plain_records.specs.StoreView.{block_of_class, blocks_from, blocks_of}

-- there are as many as classes
from-length : (unit : ℕ) (classes : List (Option ℕ)) → length (blocks_from unit classes) ≡ length classes
from-length unit [] = refl
from-length unit (class ∷ classes) = ap suc (from-length (suc unit) classes)

pub blocks_length : (classes : List (Option ℕ)) → length (blocks_of classes) ≡ length classes
blocks_length classes = from-length 0 classes

-- no class is no block
from-none : (unit count : ℕ) → blocks_from unit (replicate count None) ≡ replicate count None
from-none unit zero = refl
from-none unit (suc count) = ap (λ (bs : List (Option BlockState)). None ∷ bs) (from-none (suc unit) count)

pub blocks_none : (count : ℕ) → blocks_of (replicate count None) ≡ replicate count None
blocks_none count = from-none 0 count

-- the block at a place is that of the class that is read there
from-read : (unit : ℕ) (classes : List (Option ℕ)) (at : ℕ) (kept : Option ℕ) → at < length classes → kept ≡ get_or classes at kept
    → slice_get (blocks_from unit classes) at ≡ Some (block_of_class (unit + at) kept)
from-read unit [] at kept within read = absurd (omega (arith, within))
from-read unit (c ∷ classes) zero kept within read = let e : unit + 0 ≡ unit = omega arith in rw e (ap (λ o. Some (block_of_class unit o)) (sym read))
from-read unit (c ∷ classes) (suc at) kept within read = let e : unit + suc at ≡ suc unit + at = omega arith in rw e (from-read (suc unit) classes at kept (omega (arith, within)) read)

pub blocks_read : (classes : List (Option ℕ)) (at : ℕ) (kept : Option ℕ) → at < length classes → kept ≡ get_or classes at kept
    → slice_get (blocks_of classes) at ≡ Some (block_of_class at kept)
blocks_read classes at kept within read = from-read 0 classes at kept within read ∙ ap (λ n. Some (block_of_class n kept)) (omega arith)

-- a class that is put at a place puts its block there
from-set : (unit : ℕ) (classes : List (Option ℕ)) (at : ℕ) (class : Option ℕ) → blocks_from unit (slice_set classes at class) ≡ slice_set (blocks_from unit classes) at (block_of_class (unit + at) class)
from-set unit [] at class = refl
from-set unit (c ∷ classes) zero class = let e : unit + 0 ≡ unit = omega arith in rw e refl
from-set unit (c ∷ classes) (suc at) class = let e : unit + suc at ≡ suc unit + at = omega arith in rw e (ap (λ (bs : List (Option BlockState)). block_of_class unit c ∷ bs) (from-set (suc unit) classes at class))

pub blocks_set : (classes : List (Option ℕ)) (at : ℕ) (class : Option ℕ) → blocks_of (slice_set classes at class) ≡ slice_set (blocks_of classes) at (block_of_class at class)
blocks_set classes at class = from-set 0 classes at class ∙ ap (λ n. slice_set (blocks_of classes) at (block_of_class n class)) (omega arith)

-- what is read at a unit that is given back is out
pub kept_out : (pool : PoolState) (classes : List (Option ℕ)) (unit : ℕ) (kept : Option ℕ) → IsGivenBack pool (blocks_of classes) unit → kept ≡ get_or classes unit kept
    → IfSome kept (λ class. IsOut pool (record { unit = unit; class = class }))
kept_out pool classes unit None given read = tt
kept_out pool classes unit (Some class) given read =
    given.out (record { unit = unit; class = class }) (ap flat (blocks_read classes unit (Some class) (omega (arith, given.within, blocks_length classes)) read))

-- and the pool without it is the one without the block there
pub kept_without : (pool : PoolState) (classes : List (Option ℕ)) (unit : ℕ) (kept : Option ℕ) → unit < length (blocks_of classes) → kept ≡ get_or classes unit kept
    → pool_without_if pool (block_of_class unit kept) ≡ pool_without pool (blocks_of classes) unit
kept_without pool classes unit kept within read =
    ap (λ o. pool_without_if pool (flat o)) (sym (blocks_read classes unit kept (omega (arith, within, blocks_length classes)) read))
