-- The blocks that are out, in the order of their units.
use Rattle.std.proofs.Common.{◌≡◌, ◌⊎◌, ℕ, zero, suc, ◌+◌, ◌*◌, ◌<◌, ◌≤◌, Bool, true, false, List, [], ◌∷◌, ◌++◌, Some, length, slice_get, refl, sym, ◌∙◌, ap, subst, inl, inr, ⊎_elim, arith, length-append}
use Rattle.std.specs.Prelude.{Contains, sum_by}
use Rattle.std.proofs.lemmas.List.Sums.{sum_by-cons}
use Rattle.std.proofs.lemmas.Option.{same_Some, none-some, slice_get_within, slice_get-get_or, get_or_from_slice_get}
use Rattle.claim_core.specs.Claims.{set_count, IsSet}
use Rattle.claim_core.proofs.Counted.{set_count-cons}
use Rattle.std.proofs.lemmas.Bool.{false≢true}
use Rattle.kt_words.specs.Capacity.{block_units, capacity}
use Rattle.kt_words.specs.Ranges.{IsUnitCount}
use Rattle.pool_core.proofs.Units.{capacity_fills, block_ends, block_units-pos}
use Rattle.pool_core.specs.Blocks.{BlockState, block_at}
use Rattle.pool_core.specs.Choice.{Each}
use Rattle.pool_core.specs.Pool.{PoolState, IsSound, AreAllOut, BlocksAreCounted}
use Rattle.pool_core.specs.Superblocks.{SuperblockState, IsKept}

-- the blocks of a superblock from a place on whose bits are set
unfoldable pub blocks_of : ℕ → ℕ → ℕ → ℕ → List Bool → List BlockState
blocks_of units place class from [] = []
blocks_of units place class from (true ∷ bits) = block_at units place class from ∷ blocks_of units place class (suc from) bits
blocks_of units place class from (false ∷ bits) = blocks_of units place class (suc from) bits

-- the blocks of the superblocks from a place on
unfoldable blocks_from : ℕ → ℕ → List SuperblockState → List BlockState
blocks_from units place [] = []
blocks_from units place (superblock ∷ rest) = blocks_of units place superblock.class 0 superblock.set ++ blocks_from units (suc place) rest

pub length-blocks_of : (units place class from : ℕ) (bits : List Bool) → length (blocks_of units place class from bits) ≡ set_count bits
unfolding blocks_of
length-blocks_of units place class from [] = refl
length-blocks_of units place class from (true ∷ bits) = omega (arith, length-blocks_of units place class (suc from) bits, set_count-cons true bits)
length-blocks_of units place class from (false ∷ bits) = omega (arith, length-blocks_of units place class (suc from) bits, set_count-cons false bits)

length-blocks_from : (units place : ℕ) (superblocks : List SuperblockState) → Each (IsKept units) superblocks
    → length (blocks_from units place superblocks) ≡ sum_by (λ (s : SuperblockState). s.count) superblocks
unfolding blocks_from
length-blocks_from units place [] kept = refl
length-blocks_from units place (superblock ∷ rest) kept =
    let here = (kept 0 superblock refl).counted in
    let later = length-blocks_from units (suc place) rest (λ at other there. kept (suc at) other there) in
    omega (
      arith,
      here,
      later,
      length-blocks_of units place superblock.class 0 superblock.set,
      length-append (blocks_of units place superblock.class 0 superblock.set) (blocks_from units (suc place) rest),
      sum_by-cons (λ (s : SuperblockState). s.count) superblock rest,
    )

-- x is somewhere in the list
abbrev pub Somewhere : {X : Type 0} → List X → X → Type 0
Somewhere xs x = (k : ℕ) × (slice_get xs k ≡ Some x)

later : {X : Type 0} (y : X) (xs : List X) (x : X) → Somewhere xs x → Somewhere (y ∷ xs) x
later y xs x (k, there) = (suc k, there)

in_left : {X : Type 0} (xs ys : List X) (k : ℕ) (x : X) → slice_get xs k ≡ Some x → Somewhere (xs ++ ys) x
in_left [] ys k x there = absurd (none-some x there)
in_left (y ∷ xs) ys zero x there = (0, there)
in_left (y ∷ xs) ys (suc k) x there = later y (xs ++ ys) x (in_left xs ys k x there)

in_right : {X : Type 0} (xs ys : List X) (x : X) → Somewhere ys x → Somewhere (xs ++ ys) x
in_right [] ys x there = there
in_right (y ∷ xs) ys x there = later y (xs ++ ys) x (in_right xs ys x there)

in_either : {X : Type 0} (xs ys : List X) (k : ℕ) (x : X) → slice_get (xs ++ ys) k ≡ Some x → Somewhere xs x ⊎ Somewhere ys x
in_either [] ys k x there = inr (k, there)
in_either (y ∷ xs) ys zero x there = inl (0, there)
in_either (y ∷ xs) ys (suc k) x there = ⊎_elim (λ left. inl (later y xs x left)) (λ right. inr right) (in_either xs ys k x there)

-- a block of these is that of a set bit
pub record IsOfBit (units place class from : ℕ) (bits : List Bool) (block : BlockState) : Type 0 where
  pub bit : ℕ
  pub is_set : IsSet bits bit
  pub block_is : block ≡ block_at units place class (from + bit)

next_bit : (units place class from : ℕ) (first : Bool) (bits : List Bool) (block : BlockState)
    → IsOfBit units place class (suc from) bits block → IsOfBit units place class from (first ∷ bits) block
next_bit units place class from first bits block of_bit =
    let e : suc from + of_bit.bit ≡ from + suc of_bit.bit = omega arith in
    record { bit = suc of_bit.bit; is_set = of_bit.is_set; block_is = of_bit.block_is ∙ ap (block_at units place class) e }

pub bit_of_block : (units place class from : ℕ) (bits : List Bool) (k : ℕ) (block : BlockState)
    → slice_get (blocks_of units place class from bits) k ≡ Some block → IsOfBit units place class from bits block
unfolding blocks_of
bit_of_block units place class from [] k block there = absurd (none-some block there)
bit_of_block units place class from (true ∷ bits) zero block there =
    let e : from ≡ from + 0 = omega arith in
    record { bit = 0; is_set = refl; block_is = sym (same_Some (block_at units place class from) block there) ∙ ap (block_at units place class) e }
bit_of_block units place class from (true ∷ bits) (suc k) block there =
    next_bit units place class from true bits block (bit_of_block units place class (suc from) bits k block there)
bit_of_block units place class from (false ∷ bits) k block there =
    next_bit units place class from false bits block (bit_of_block units place class (suc from) bits k block there)

pub block_of_bit : (units place class from : ℕ) (bits : List Bool) (bit : ℕ) → IsSet bits bit
    → Somewhere (blocks_of units place class from bits) (block_at units place class (from + bit))
unfolding blocks_of
block_of_bit units place class from [] bit is_set = absurd (none-some true is_set)
block_of_bit units place class from (true ∷ bits) zero is_set =
    let e : from ≡ from + 0 = omega arith in
    (0, ap (λ k. Some (block_at units place class k)) e)
block_of_bit units place class from (false ∷ bits) zero is_set = absurd (false≢true (same_Some false true is_set))
block_of_bit units place class from (true ∷ bits) (suc bit) is_set =
    let e : suc from + bit ≡ from + suc bit = omega arith in
    later (block_at units place class from) (blocks_of units place class (suc from) bits) (block_at units place class (from + suc bit))
    (subst (λ k. Somewhere (blocks_of units place class (suc from) bits) (block_at units place class k)) e (block_of_bit units place class (suc from) bits bit is_set))
block_of_bit units place class from (false ∷ bits) (suc bit) is_set =
    let e : suc from + bit ≡ from + suc bit = omega arith in
    subst (λ k. Somewhere (blocks_of units place class (suc from) bits) (block_at units place class k)) e (block_of_bit units place class (suc from) bits bit is_set)

-- a block of a list of superblocks
record IsOfPlace (units from : ℕ) (superblocks : List SuperblockState) (block : BlockState) : Type 0 where
  at : ℕ
  bit : ℕ
  superblock : SuperblockState
  there : slice_get superblocks at ≡ Some superblock
  is_set : IsSet superblock.set bit
  block_is : block ≡ block_at units (from + at) superblock.class bit

place_of_block : (units from : ℕ) (superblocks : List SuperblockState) (k : ℕ) (block : BlockState)
    → slice_get (blocks_from units from superblocks) k ≡ Some block → IsOfPlace units from superblocks block
unfolding blocks_from
place_of_block units from [] k block there = absurd (none-some block there)
place_of_block units from (superblock ∷ rest) k block there =
    ⊎_elim
    (λ here.
    let of_bit = bit_of_block units from superblock.class 0 superblock.set here.0 block here.1 in
    let place : from ≡ from + 0 = omega arith in
    let bit : 0 + of_bit.bit ≡ of_bit.bit = omega arith in
    record {
      at = 0;
      bit = of_bit.bit;
      superblock = superblock;
      there = refl;
      is_set = of_bit.is_set;
      block_is = of_bit.block_is ∙ ap (block_at units from superblock.class) bit ∙ ap (λ p. block_at units p superblock.class of_bit.bit) place;
    })
    (λ further.
    let rec = place_of_block units (suc from) rest further.0 block further.1 in
    let place : suc from + rec.at ≡ from + suc rec.at = omega arith in
    record {
      at = suc rec.at;
      bit = rec.bit;
      superblock = rec.superblock;
      there = rec.there;
      is_set = rec.is_set;
      block_is = rec.block_is ∙ ap (λ p. block_at units p rec.superblock.class rec.bit) place;
    })
    (in_either (blocks_of units from superblock.class 0 superblock.set) (blocks_from units (suc from) rest) k block there)

block_of_place : (units from : ℕ) (superblocks : List SuperblockState) (at bit : ℕ) (superblock : SuperblockState)
    → slice_get superblocks at ≡ Some superblock → IsSet superblock.set bit
    → Somewhere (blocks_from units from superblocks) (block_at units (from + at) superblock.class bit)
unfolding blocks_from
block_of_place units from [] at bit superblock there is_set = absurd (none-some superblock there)
block_of_place units from (first ∷ rest) zero bit superblock there is_set =
    let same : first ≡ superblock = same_Some first superblock there in
    let place : from ≡ from + 0 = omega arith in
    let found = block_of_bit units from first.class 0 first.set bit (subst (λ (s : SuperblockState). IsSet s.set bit) (sym same) is_set) in
    let offset : 0 + bit ≡ bit = omega arith in
    let is_block : block_at units from first.class (0 + bit) ≡ block_at units (from + 0) superblock.class bit =
    ap (block_at units from first.class) offset ∙ ap (λ p. block_at units p first.class bit) place ∙ ap (λ (s : SuperblockState). block_at units (from + 0) s.class bit) same in
    subst (Somewhere (blocks_from units from (first ∷ rest))) is_block
    (in_left (blocks_of units from first.class 0 first.set) (blocks_from units (suc from) rest) found.0 (block_at units from first.class (0 + bit)) found.1)
block_of_place units from (first ∷ rest) (suc at) bit superblock there is_set =
    let place : suc from + at ≡ from + suc at = omega arith in
    in_right (blocks_of units from first.class 0 first.set) (blocks_from units (suc from) rest) (block_at units (from + suc at) superblock.class bit)
    (subst (λ p. Somewhere (blocks_from units (suc from) rest) (block_at units p superblock.class bit)) place (block_of_place units (suc from) rest at bit superblock there is_set))

-- units rise from one block of a list to the next, from a unit on
abbrev pub Rising : ℕ → List BlockState → Type 0
Rising low [] = Unit {0}
Rising low (block ∷ blocks) = (low ≤ block.unit) × Rising (suc block.unit) blocks

Rising_from : (low high : ℕ) (blocks : List BlockState) → low ≤ high → Rising high blocks → Rising low blocks
Rising_from low high [] le rising = tt
Rising_from low high (block ∷ blocks) le rising = (omega (arith, le, rising.0), rising.1)

Rising_low : (low : ℕ) (blocks : List BlockState) (k : ℕ) (block : BlockState) → Rising low blocks → slice_get blocks k ≡ Some block → low ≤ block.unit
Rising_low low [] k block rising there = absurd (none-some block there)
Rising_low low (first ∷ blocks) zero block rising there = subst (λ (b : BlockState). low ≤ b.unit) (same_Some first block there) rising.0
Rising_low low (first ∷ blocks) (suc k) block rising there =
    let later = Rising_low (suc first.unit) blocks k block rising.1 there in omega (arith, later, rising.0)

pub Rising_once : (low : ℕ) (blocks : List BlockState) (i j : ℕ) (block : BlockState) → Rising low blocks
    → slice_get blocks i ≡ Some block → slice_get blocks j ≡ Some block → i ≡ j
Rising_once low [] i j block rising here there = absurd (none-some block here)
Rising_once low (first ∷ blocks) zero zero block rising here there = refl
Rising_once low (first ∷ blocks) zero (suc j) block rising here there =
    let more = Rising_low (suc first.unit) blocks j block rising.1 there in
    let same = ap (λ (b : BlockState). b.unit) (same_Some first block here) in
    absurd (omega (arith, more, same))
Rising_once low (first ∷ blocks) (suc i) zero block rising here there =
    let more = Rising_low (suc first.unit) blocks i block rising.1 here in
    let same = ap (λ (b : BlockState). b.unit) (same_Some first block there) in
    absurd (omega (arith, more, same))
Rising_once low (first ∷ blocks) (suc i) (suc j) block rising here there = ap (λ k. suc k) (Rising_once (suc first.unit) blocks i j block rising.1 here there)

Rising_append : (low mid : ℕ) (xs ys : List BlockState) → low ≤ mid → Rising low xs
    → ((k : ℕ) (block : BlockState) → slice_get xs k ≡ Some block → block.unit < mid) → Rising mid ys → Rising low (xs ++ ys)
Rising_append low mid [] ys le rising below after = Rising_from low mid ys le after
Rising_append low mid (x ∷ xs) ys le rising below after =
    (rising.0, Rising_append (suc x.unit) mid xs ys (below 0 x refl) rising.1 (λ k block there. below (suc k) block there) after)

pub Rising-blocks_of : (units place class from : ℕ) (bits : List Bool) → Rising (place * units + from * block_units class) (blocks_of units place class from bits)
unfolding blocks_of
Rising-blocks_of units place class from [] = tt
Rising-blocks_of units place class from (true ∷ bits) = (
  omega arith,
  Rising_from (suc (place * units + from * block_units class)) (place * units + suc from * block_units class) (blocks_of units place class (suc from) bits)
      (omega (arith, block_units-pos class)) (Rising-blocks_of units place class (suc from) bits),
)
Rising-blocks_of units place class from (false ∷ bits) =
    Rising_from (place * units + from * block_units class) (place * units + suc from * block_units class) (blocks_of units place class (suc from) bits)
    (omega (arith, block_units-pos class)) (Rising-blocks_of units place class (suc from) bits)

unit_below : (units place : ℕ) (superblock : SuperblockState) (k : ℕ) (block : BlockState) → IsUnitCount units → IsKept units superblock
    → slice_get (blocks_of units place superblock.class 0 superblock.set) k ≡ Some block → block.unit < suc place * units
unit_below units place superblock k block unit_count kept there =
    let of_bit = bit_of_block units place superblock.class 0 superblock.set k block there in
    let ends = block_ends units superblock.class of_bit.bit (capacity units superblock.class) (capacity_fills units superblock.class unit_count kept.class_fits).0 (kept.inside of_bit.bit of_bit.is_set) in
    let unit : block.unit ≡ place * units + (0 + of_bit.bit) * block_units superblock.class = ap (λ (b : BlockState). b.unit) of_bit.block_is in
    omega (arith, ends, unit, block_units-pos superblock.class)

Rising-blocks_from : (units place : ℕ) (superblocks : List SuperblockState) → IsUnitCount units → Each (IsKept units) superblocks
    → Rising (place * units) (blocks_from units place superblocks)
unfolding blocks_from
Rising-blocks_from units place [] unit_count kept = tt
Rising-blocks_from units place (superblock ∷ rest) unit_count kept =
    let start : place * units + 0 * block_units superblock.class ≡ place * units = omega arith in
    Rising_append (place * units) (suc place * units) (blocks_of units place superblock.class 0 superblock.set) (blocks_from units (suc place) rest)
    (omega arith)
    (subst (λ low. Rising low (blocks_of units place superblock.class 0 superblock.set)) start (Rising-blocks_of units place superblock.class 0 superblock.set))
    (λ k block there. unit_below units place superblock k block unit_count (kept 0 superblock refl) there)
    (Rising-blocks_from units (suc place) rest unit_count (λ at other there. kept (suc at) other there))

pub Contains_somewhere : {X : Type 0} (xs : List X) (x : X) → Somewhere xs x → Contains xs x
Contains_somewhere xs x (k, there) = (k, slice_get_within xs k x there, get_or_from_slice_get xs k x x there)

all_out : (pool : PoolState) → IsSound pool → AreAllOut pool (blocks_from pool.units 0 pool.superblocks)
all_out pool sound = record {
  members = λ block. (
    (λ (k, within, is).
        let of_place = place_of_block pool.units 0 pool.superblocks k block (slice_get-get_or (blocks_from pool.units 0 pool.superblocks) k block within ∙ ap (λ b. Some b) is) in
        let place : 0 + of_place.at ≡ of_place.at = omega arith in
        record {
          place = of_place.at;
          bit = of_place.bit;
          superblock = of_place.superblock;
          at = record {
            there = of_place.there;
            is_set = of_place.is_set;
            block_is = of_place.block_is ∙ ap (λ p. block_at pool.units p of_place.superblock.class of_place.bit) place;
          };
        }),
    (λ out.
        let place : 0 + out.place ≡ out.place = omega arith in
        let found = block_of_place pool.units 0 pool.superblocks out.place out.bit out.superblock out.at.there out.at.is_set in
        let is_block : block_at pool.units (0 + out.place) out.superblock.class out.bit ≡ block =
        ap (λ p. block_at pool.units p out.superblock.class out.bit) place ∙ sym out.at.block_is in
        Contains_somewhere (blocks_from pool.units 0 pool.superblocks) block (subst (Somewhere (blocks_from pool.units 0 pool.superblocks)) is_block found)),
  );
  once = λ i j block here there.
      Rising_once (0 * pool.units) (blocks_from pool.units 0 pool.superblocks) i j block (Rising-blocks_from pool.units 0 pool.superblocks sound.unit_count sound.kept) here there;
}

pub blocks_counted : (pool : PoolState) → IsSound pool → BlocksAreCounted pool
blocks_counted pool sound = (blocks_from pool.units 0 pool.superblocks, all_out pool sound, length-blocks_from pool.units 0 pool.superblocks sound.kept)
