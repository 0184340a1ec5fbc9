-- Blocks that stand apart in superblocks of their class make a sound pool.
use Rattle.std.proofs.Common.{◌≡◌, ◌≢◌, ℕ, zero, suc, ◌+◌, ◌*◌, ◌/◌, ◌<◌, ◌≤◌, ◌^◌, Bool, true, false, cond, nat_eq, ◌&&◌, ◌||◌, Some, List, [], ◌∷◌, length, slice_get, refl, sym, ◌∙◌, ap, subst, ⊎_elim, arith, eq-eqb}
use Rattle.std.specs.List.{list_any}
use Rattle.std.proofs.lemmas.Bool.{cases_eq, eqb-true, and_parts, and_from}
use Rattle.std.proofs.lemmas.Option.{none-some, same_Some, slice_get_within}
use Rattle.task_syntax.specs.Places.{AllDiffer, Each}
use Rattle.claim_core.specs.Claims.{set_count, IsSet}
use Rattle.claim_core.proofs.Counted.{set_count-cons}
use Rattle.kt_words.specs.Ranges.{IsUnitCount}
use Rattle.kt_words.specs.Capacity.{block_units, capacity}
use Rattle.pool_core.specs.Blocks.{BlockState, block_at}
use Rattle.pool_core.specs.Pool.{PoolState, IsSound, IsOut}
use Rattle.pool_core.specs.Superblocks.{SuperblockState, IsKept}
use Rattle.pool_core.proofs.Units.{capacity_fills, place_of_unit}
use Rattle.run_model.specs.State.{Super}
use Rattle.run_model.specs.Placing.{stands_in, stands_at, count_in, set_in, superblock_of, superblocks_from}
use Rattle.run_model.proofs.UsedFacts.{any_true, any_from}

-- a block stands in a superblock of its class, at a bit below the capacity
pub record IsPlaced (units : ℕ) (supers : List Super) (b : BlockState) : Type 0 where
  pub place : ℕ
  pub bit : ℕ
  pub super : Super
  pub there : slice_get supers place ≡ Some super
  pub block_is : b ≡ block_at units place super.class bit
  pub below : bit < capacity units super.class

-- what a superblock keeps beside its blocks
pub record SuperFits (units : ℕ) (bs : List BlockState) (place : ℕ) (super : Super) : Type 0 where
  pub class_fits : super.class ≤ 3
  pub ever_fits : super.ever < 2 ^ 44
  pub ever_counts : count_in units place bs ≤ super.ever

-- multiples of the units of a block differ
bits_same : (class k bit : ℕ) → class ≤ 3 → k * block_units class ≡ bit * block_units class → k ≡ bit
bits_same zero k bit fits e = omega (arith, e)
bits_same (suc zero) k bit fits e = omega (arith, e)
bits_same (suc (suc zero)) k bit fits e = omega (arith, e)
bits_same (suc (suc (suc zero))) k bit fits e = omega (arith, e)
bits_same (suc (suc (suc (suc n)))) k bit fits e = absurd (omega arith)

-- one more block sets one bit more
module _ (units place : ℕ) (b : BlockState) (bs : List BlockState) where
  set_same : (bit left : ℕ) → ((k : ℕ) → bit ≤ k → stands_at units place k b ≡ false) → set_count (set_in units place (b ∷ bs) bit left) ≡ set_count (set_in units place bs bit left)
  set_same bit zero none = refl
  set_same bit (suc left) none =
      let here = ap (λ x. x || list_any (stands_at units place bit) bs) (none bit (omega arith)) in
      let rest = set_same (suc bit) left (λ k le. none k (omega arith)) in
      let one = set_count-cons (stands_at units place bit b || list_any (stands_at units place bit) bs) (set_in units place (b ∷ bs) (suc bit) left) in
      let other = set_count-cons (list_any (stands_at units place bit) bs) (set_in units place bs (suc bit) left) in
      let same : ◌≡◌ {A = ℕ} (cond (stands_at units place bit b || list_any (stands_at units place bit) bs) 1 0) (cond (list_any (stands_at units place bit) bs) 1 0) = ap (λ x. cond x 1 0) here in
      omega (arith, one, other, rest, same)

  set_more : (bit left k : ℕ) → bit ≤ k → k < bit + left → stands_at units place k b ≡ true → ((j : ℕ) → j ≢ k → stands_at units place j b ≡ false) → list_any (stands_at units place k) bs ≡ false
      → set_count (set_in units place (b ∷ bs) bit left) ≡ set_count (set_in units place bs bit left) + 1
  set_more bit zero k from below here others none = absurd (omega (arith, from, below))
  set_more bit (suc left) k from below here others none =
      let one = set_count-cons (stands_at units place bit b || list_any (stands_at units place bit) bs) (set_in units place (b ∷ bs) (suc bit) left) in
      let other = set_count-cons (list_any (stands_at units place bit) bs) (set_in units place bs (suc bit) left) in
      ⊎_elim
      (λ same.
      let set : ◌≡◌ {A = ℕ} (cond (stands_at units place bit b || list_any (stands_at units place bit) bs) 1 0) 1 = ap (λ x. cond (x || list_any (stands_at units place bit) bs) 1 0) (ap (λ j. stands_at units place j b) same ∙ here) in
      let clear : ◌≡◌ {A = ℕ} (cond (list_any (stands_at units place bit) bs) 1 0) 0 = ap (λ x. cond x 1 0) (ap (λ j. list_any (stands_at units place j) bs) same ∙ none) in
      let rest = set_same (suc bit) left (λ j le. others j (λ e. absurd (omega (arith, le, e, same)))) in
      omega (arith, one, other, set, clear, rest))
      (λ differ.
      let kept : ◌≡◌ {A = ℕ} (cond (stands_at units place bit b || list_any (stands_at units place bit) bs) 1 0) (cond (list_any (stands_at units place bit) bs) 1 0) =
      ap (λ x. cond (x || list_any (stands_at units place bit) bs) 1 0) (others bit differ) in
      let rest = set_more (suc bit) left k (omega (arith, from, differ)) (omega (arith, below)) here others none in
      omega (arith, one, other, kept, rest))
      (cases_eq bit k)

module _ (units : ℕ) (supers : List Super) (unit_count : IsUnitCount units) (classes : (place : ℕ) (super : Super) → slice_get supers place ≡ Some super → super.class ≤ 3) where
  -- a placed block stands in its superblock, and at its bit alone
  pub stands_here : (b : BlockState) (placed : IsPlaced units supers b) → stands_in units placed.place b ≡ true
  stands_here b placed =
      let fits = classes placed.place placed.super placed.there in
      eq-eqb (b.unit / units) placed.place (ap (λ (x : BlockState). x.unit / units) placed.block_is ∙ place_of_unit units placed.super.class placed.place placed.bit unit_count fits placed.below)

  -- a placed block stands in one superblock
  pub is_place : (b : BlockState) (placed : IsPlaced units supers b) (place : ℕ) → stands_in units place b ≡ true → placed.place ≡ place
  is_place b placed place e = sym (eqb-true (b.unit / units) placed.place (stands_here b placed)) ∙ eqb-true (b.unit / units) place e

  -- a placed block stands at its bit
  pub stands_bit : (b : BlockState) (placed : IsPlaced units supers b) → stands_at units placed.place placed.bit b ≡ true
  stands_bit b placed =
      and_from (stands_in units placed.place b) (nat_eq b.unit (placed.place * units + placed.bit * block_units b.class)) (stands_here b placed)
      (eq-eqb b.unit (placed.place * units + placed.bit * block_units b.class) (unit_is ∙ sym (ap (λ class. placed.place * units + placed.bit * block_units class) class_is)))
    where
      unit_is : b.unit ≡ placed.place * units + placed.bit * block_units placed.super.class
      unit_is = ap (λ (x : BlockState). x.unit) placed.block_is

      class_is : b.class ≡ placed.super.class
      class_is = ap (λ (x : BlockState). x.class) placed.block_is

  -- a bit at which it stands is its own
  pub is_bit : (b : BlockState) (placed : IsPlaced units supers b) (place k : ℕ) → stands_at units place k b ≡ true → (placed.place ≡ place) × (k ≡ placed.bit)
  is_bit b placed place k e =
      let (in_place, at_unit) = and_parts (stands_in units place b) (nat_eq b.unit (place * units + k * block_units b.class)) e in
      let same = is_place b placed place in_place in
      let fits = classes placed.place placed.super placed.there in
      let class_is : b.class ≡ placed.super.class = ap (λ (x : BlockState). x.class) placed.block_is in
      let unit_is : b.unit ≡ placed.place * units + placed.bit * block_units placed.super.class = ap (λ (x : BlockState). x.unit) placed.block_is in
      let other_unit : b.unit ≡ placed.place * units + k * block_units placed.super.class =
      eqb-true b.unit (place * units + k * block_units b.class) at_unit ∙ ap (λ j. j * units + k * block_units b.class) (sym same) ∙ ap (λ class. placed.place * units + k * block_units class) class_is in
      (same, bits_same placed.super.class k placed.bit fits (omega (arith, unit_is, other_unit)))

  -- the count is that of the bits that are set
  pub counted : (place : ℕ) (bs : List BlockState) → Each bs (IsPlaced units supers) → AllDiffer bs → count_in units place bs ≡ set_count (set_in units place bs 0 units)
  counted place [] all differ = sym (none_set 0 units)
    where
      none_set : (bit left : ℕ) → set_count (set_in units place [] bit left) ≡ 0
      none_set bit zero = refl
      none_set bit (suc left) = omega (arith, set_count-cons false (set_in units place [] (suc bit) left), none_set (suc bit) left)
  counted place (b ∷ bs) all differ = by (stands_in units place b) refl (counted place bs (λ at x e. all (suc at) x e) (λ i j x e f. omega (arith, differ (suc i) (suc j) x e f)))
    where
      placed : IsPlaced units supers b
      placed = all 0 b refl

      others_differ : (k : ℕ) → stands_at units place k b ≡ true → list_any (stands_at units place k) bs ≡ false
      others_differ k here = no (list_any (stands_at units place k) bs) refl
        where
          no : (x : Bool) → list_any (stands_at units place k) bs ≡ x → x ≡ false
          no false e = refl
          no true e =
              let (at, other, there, stands) = any_true (stands_at units place k) bs e in
              let placed' = all (suc at) other there in
              let one = is_bit b placed place k here in
              let two = is_bit other placed' place k stands in
              let same_place : placed.place ≡ placed'.place = one.0 ∙ sym two.0 in
              let same_bit : placed.bit ≡ placed'.bit = sym one.1 ∙ two.1 in
              let same_super : placed.super ≡ placed'.super = same_Some placed.super placed'.super (sym placed.there ∙ ap (slice_get supers) same_place ∙ placed'.there) in
              let same : b ≡ other = placed.block_is ∙ ap (λ j. block_at units j placed.super.class placed.bit) same_place ∙ ap (λ (s : Super). block_at units placed'.place s.class placed.bit) same_super
              ∙ ap (block_at units placed'.place placed'.super.class) same_bit ∙ sym placed'.block_is in
              absurd (omega (arith, differ 0 (suc at) b refl (there ∙ sym (ap Some same))))

      by : (x : Bool) → stands_in units place b ≡ x → count_in units place bs ≡ set_count (set_in units place bs 0 units) → cond x 1 0 + count_in units place bs ≡ set_count (set_in units place (b ∷ bs) 0 units)
      by false e rest = omega (arith, rest, set_same units place b bs 0 units (λ k le. ap (λ x. x && nat_eq b.unit (place * units + k * block_units b.class)) e))
      by true e rest =
          let same = is_place b placed place e in
          let here : stands_at units place placed.bit b ≡ true = ap (λ j. stands_at units j placed.bit b) (sym same) ∙ stands_bit b placed in
          let whole = capacity_fills units placed.super.class unit_count (classes placed.place placed.super placed.there) in
          omega (
            arith,
            rest,
            set_more units place b bs 0 units placed.bit (omega arith) (omega (arith, placed.below, whole.2)) here
                (λ j differs. no j differs (stands_at units place j b) refl) (others_differ placed.bit here),
          )
        where
          no : (j : ℕ) → j ≢ placed.bit → (x : Bool) → stands_at units place j b ≡ x → x ≡ false
          no j differs false f = refl
          no j differs true f = absurd (differs (is_bit b placed place j f).1)

-- the bits of a superblock, read
pub set_in_length : (units place : ℕ) (bs : List BlockState) (bit left : ℕ) → length (set_in units place bs bit left) ≡ left
set_in_length units place bs bit zero = refl
set_in_length units place bs bit (suc left) = ap suc (set_in_length units place bs (suc bit) left)

-- a bit is set where a block stands at it
pub set_in_at : (units place : ℕ) (bs : List BlockState) (bit left i : ℕ) → i < left → slice_get (set_in units place bs bit left) i ≡ Some (list_any (stands_at units place (bit + i)) bs)
set_in_at units place bs bit zero i lt = absurd (omega arith)
set_in_at units place bs bit (suc left) zero lt = ap (λ k. Some (list_any (stands_at units place k) bs)) (omega arith)
set_in_at units place bs bit (suc left) (suc i) lt =
    let same : suc bit + i ≡ bit + suc i = omega arith in
    set_in_at units place bs (suc bit) left i (omega (arith, lt)) ∙ ap (λ k. Some (list_any (stands_at units place k) bs)) same

-- few bits are set, where all that are set are low
set_count_below : (n : ℕ) (set : List Bool) → ((i : ℕ) → IsSet set i → i < n) → set_count set ≤ n
set_count_below n [] low = omega arith
set_count_below zero (true ∷ set) low = absurd (omega (arith, low 0 refl))
set_count_below zero (false ∷ set) low = omega (arith, set_count-cons false set, set_count_below zero set (λ i e. absurd (omega (arith, low (suc i) e))))
set_count_below (suc n) (x ∷ set) low =
    let rest = set_count_below n set (λ i e. omega (arith, low (suc i) e)) in
    omega (arith, set_count-cons x set, rest, at_most x)
  where
    at_most : (x : Bool) → ◌≤◌ (cond x 1 0) 1
    at_most true = omega arith
    at_most false = omega arith

-- the superblocks, read
pub superblock_at : (units : ℕ) (bs : List BlockState) (from at : ℕ) (supers : List Super) (s : SuperblockState) → slice_get (superblocks_from units bs from supers) at ≡ Some s
    → (super : Super) × (slice_get supers at ≡ Some super) × (s ≡ superblock_of units bs (from + at) super)
superblock_at units bs from at [] s e = absurd (none-some s e)
superblock_at units bs from zero (super ∷ supers) s e = let same : from + zero ≡ from = omega arith in (super, refl, sym (same_Some (superblock_of units bs from super) s e) ∙ ap (λ k. superblock_of units bs k super) (sym same))
superblock_at units bs from (suc at) (super ∷ supers) s e =
    let (found, there, is_s) = superblock_at units bs (suc from) at supers s e in
    let same : suc from + at ≡ from + suc at = omega arith in (found, there, is_s ∙ ap (λ k. superblock_of units bs k found) same)

-- a superblock is made of the blocks that stand in it
pub superblock_from : (units : ℕ) (bs : List BlockState) (from at : ℕ) (supers : List Super) (super : Super) → slice_get supers at ≡ Some super → slice_get (superblocks_from units bs from supers) at ≡ Some (superblock_of units bs (from + at) super)
superblock_from units bs from at [] super e = absurd (none-some super e)
superblock_from units bs from zero (other ∷ supers) super e = let same : from ≡ from + zero = omega arith in ap (λ s. Some (superblock_of units bs from s)) (same_Some other super e) ∙ ap (λ k. Some (superblock_of units bs k super)) same
superblock_from units bs from (suc at) (other ∷ supers) super e =
    let same : suc from + at ≡ from + suc at = omega arith in superblock_from units bs (suc from) at supers super e ∙ ap (λ k. Some (superblock_of units bs k super)) same

-- there are as many superblocks as words
pub superblocks_length : (units : ℕ) (bs : List BlockState) (from : ℕ) (supers : List Super) → length (superblocks_from units bs from supers) ≡ length supers
superblocks_length units bs from [] = refl
superblocks_length units bs from (super ∷ supers) = ap suc (superblocks_length units bs (suc from) supers)

abbrev pub pool_with : ℕ → List Super → List BlockState → PoolState
pool_with units supers bs = record { units = units; superblocks = superblocks_from units bs 0 supers }

-- the blocks fit the superblocks
pub record BlocksFit (units : ℕ) (supers : List Super) (bs : List BlockState) : Type 0 where
  pub supers_fit : (place : ℕ) (super : Super) → slice_get supers place ≡ Some super → SuperFits units bs place super
  pub placed : Each bs (IsPlaced units supers)
  pub differ : AllDiffer bs

module _ (units : ℕ) (supers : List Super) (bs : List BlockState) (unit_count : IsUnitCount units) (fit : BlocksFit units supers bs) where
  -- each superblock has a class that there is
  pub classes_of : (place : ℕ) (super : Super) → slice_get supers place ≡ Some super → super.class ≤ 3
  classes_of place super there = (fit.supers_fit place super there).class_fits

  -- a bit that is set is a block's
  pub set_block : (place i : ℕ) → i < units → IsSet (set_in units place bs 0 units) i → (at : ℕ) × (b : BlockState) × (slice_get bs at ≡ Some b) × (stands_at units place i b ≡ true)
  set_block place i lt set =
      let passes = same_Some (list_any (stands_at units place (0 + i)) bs) true (sym (set_in_at units place bs 0 units i lt) ∙ set) in
      let same : 0 + i ≡ i = omega arith in
      any_true (stands_at units place i) bs (ap (λ k. list_any (stands_at units place k) bs) (sym same) ∙ passes)

  kept : (place : ℕ) (super : Super) → slice_get supers place ≡ Some super → IsKept units (superblock_of units bs place super)
  kept place super there =
      let fits = fit.supers_fit place super there in
      let same = counted units supers unit_count classes_of place bs fit.placed fit.differ in
      record {
        size = set_in_length units place bs 0 units;
        class_fits = fits.class_fits;
        counted = same;
        inside = inside;
        within = omega (arith, same, set_count_below (capacity units super.class) (set_in units place bs 0 units) inside);
        ever_fits = fits.ever_fits;
        ever_counts = fits.ever_counts;
      }
    where
      inside : (i : ℕ) → IsSet (set_in units place bs 0 units) i → i < capacity units super.class
      inside i set =
          let lt : i < units = omega (arith, slice_get_within (set_in units place bs 0 units) i true set, set_in_length units place bs 0 units) in
          let (at, b, has, stands) = set_block place i lt set in
          let placed = fit.placed at b has in
          let (same_place, same_bit) = is_bit units supers unit_count classes_of b placed place i stands in
          let same_super : placed.super ≡ super = same_Some placed.super super (sym placed.there ∙ ap (slice_get supers) same_place ∙ there) in
          subst (λ (s : Super). i < capacity units s.class) same_super (subst (λ k. k < capacity units placed.super.class) (sym same_bit) placed.below)

  -- the pool of blocks that stand apart is sound
  pub sound_of : 1 ≤ length supers → length supers ≤ 1024 → IsSound (pool_with units supers bs)
  sound_of some few = record {
    some = omega (arith, some, superblocks_length units bs 0 supers);
    few = omega (arith, few, superblocks_length units bs 0 supers);
    unit_count = unit_count;
    kept = λ at s e. let (super, there, is_s) = superblock_at units bs 0 at supers s e in
        let same : 0 + at ≡ at = omega arith in subst (IsKept units) (sym (is_s ∙ ap (λ k. superblock_of units bs k super) same)) (kept at super there);
  }

  -- each block in use is out
  pub out_of : (at : ℕ) (b : BlockState) → slice_get bs at ≡ Some b → IsOut (pool_with units supers bs) b
  out_of at b has =
      let placed = fit.placed at b has in
      let whole = capacity_fills units placed.super.class unit_count (classes_of placed.place placed.super placed.there) in
      let lt : placed.bit < units = omega (arith, placed.below, whole.2) in
      let zero_plus : 0 + placed.place ≡ placed.place = omega arith in
      let zero_bit : 0 + placed.bit ≡ placed.bit = omega arith in
      record {
        place = placed.place;
        bit = placed.bit;
        superblock = superblock_of units bs placed.place placed.super;
        at = record {
          there = superblock_from units bs 0 placed.place supers placed.super placed.there ∙ ap (λ k. Some (superblock_of units bs k placed.super)) zero_plus;
          is_set = set_in_at units placed.place bs 0 units placed.bit lt ∙ ap (λ k. Some (list_any (stands_at units placed.place k) bs)) zero_bit
              ∙ ap Some (any_from (stands_at units placed.place placed.bit) bs at b has (stands_bit units supers unit_count classes_of b placed));
          block_is = placed.block_is;
        };
      }
