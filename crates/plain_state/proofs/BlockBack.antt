-- The pool that blocks in use make, after one of them is not in use any more, is the pool to which that block went back.
use Rattle.std.proofs.Common.{◌≡◌, ◌≢◌, ℕ, zero, suc, ◌+◌, ◌-◌, ◌*◌, ◌/◌, ◌≤◌, Bool, true, false, cond, nat_eq, ◌&&◌, ◌||◌, Option, Some, None, List, [], ◌∷◌, slice_get, slice_set, refl, sym, ◌∙◌, ap, subst, arith, eq-eqb}
use Rattle.std.specs.List.{list_any}
use Rattle.std.proofs.Math.Nat.{mul-div_left}
use Rattle.std.proofs.lemmas.Bool.{eqb-true, and_parts}
use Rattle.std.proofs.lemmas.Option.{none-some, same_Some}
use Rattle.kt_words.specs.Capacity.{block_units}
use Rattle.pool_core.specs.Blocks.{BlockState}
use Rattle.pool_core.specs.Superblocks.{SuperblockState, taken_back}
use Rattle.pool_core.specs.Pool.{PoolState, IsSound, IsOut, with_superblock}
use Rattle.pool_core.proofs.Taking.{place_of, bit_of}
use Rattle.pool_core.proofs.Units.{block_units-pos}
use Rattle.run_model.specs.State.{Body, RootWord, Super}
use Rattle.run_model.specs.Placing.{is_in_use, used_from, stands_in, stands_at, count_in, set_in, superblock_of, superblocks_from}
use Rattle.run_model.proofs.UsedSound.{pool_with, superblock_at}
use Rattle.plain_state.specs.Store.{taken_from, without_block}
use Rattle.plain_state.proofs.InHand.{used_same_from}

-- the one list has this block more than the other
pub record Loses (blocks left : List BlockState) (block : BlockState) : Type 0 where
  pub counts : (units place : ℕ) → count_in units place blocks ≡ cond (stands_in units place block) 1 0 + count_in units place left
  pub tests : (test : BlockState → Bool) → list_any test blocks ≡ (test block || list_any test left)

-- tests in another order
or_swap : (a b c : Bool) → (a || (b || c)) ≡ (b || (a || c))
or_swap true true c = refl
or_swap true false c = refl
or_swap false true c = refl
or_swap false false c = refl

-- a block in front of both lists
loses_later : (x : BlockState) (blocks left : List BlockState) (block : BlockState) → Loses blocks left block → Loses (x ∷ blocks) (x ∷ left) block
loses_later x blocks left block loses = record {
  counts = λ units place. omega (arith, loses.counts units place);
  tests = λ test. ap (λ b. test x || b) (loses.tests test) ∙ or_swap (test x) (test block) (list_any test left);
}

-- one task less is in use
pub used_loses : (roots roots' : List RootWord) (bodies bodies' : List (Option Body)) (t : ℕ) (blocks : List (Option BlockState)) (k : ℕ)
    (block : BlockState)
    → slice_get blocks k ≡ Some (Some block)
    → is_in_use roots bodies (t + k) ≡ true → is_in_use roots' bodies' (t + k) ≡ false
    → ((u : ℕ) → u ≢ t + k → is_in_use roots bodies u ≡ is_in_use roots' bodies' u)
    → Loses (used_from roots bodies t blocks) (used_from roots' bodies' t blocks) block
used_loses roots roots' bodies bodies' t [] k block there was now same = absurd (none-some (Some block) there)
used_loses roots roots' bodies bodies' t (None ∷ blocks) zero block there was now same = absurd (none-some block (same_Some None (Some block) there))
used_loses roots roots' bodies bodies' t (None ∷ blocks) (suc k) block there was now same =
    let next : t + suc k ≡ suc t + k = omega arith in
    used_loses roots roots' bodies bodies' (suc t) blocks k block there (ap (is_in_use roots bodies) (sym next) ∙ was)
    (ap (is_in_use roots' bodies') (sym next) ∙ now) (λ u differ. same u (λ e. differ (e ∙ next)))
used_loses roots roots' bodies bodies' t (Some b ∷ blocks) zero block there was now same =
    let here : t + 0 ≡ t = omega arith in
    let is_block : b ≡ block = same_Some b block (same_Some (Some b) (Some block) there) in
    let old : used_from roots bodies t (Some b ∷ blocks) ≡ b ∷ used_from roots bodies (suc t) blocks =
    ap (λ x. cond x (b ∷ used_from roots bodies (suc t) blocks) (used_from roots bodies (suc t) blocks))
    (ap (is_in_use roots bodies) (sym here) ∙ was) in
    let new : used_from roots' bodies' t (Some b ∷ blocks) ≡ used_from roots' bodies' (suc t) blocks =
    ap (λ x. cond x (b ∷ used_from roots' bodies' (suc t) blocks) (used_from roots' bodies' (suc t) blocks))
    (ap (is_in_use roots' bodies') (sym here) ∙ now) in
    let rest : used_from roots bodies (suc t) blocks ≡ used_from roots' bodies' (suc t) blocks =
    used_same_from roots roots' bodies bodies' (suc t) blocks (λ u le. same u (λ e. absurd (omega (arith, le, e)))) in
    subst (λ x. Loses x (used_from roots' bodies' t (Some b ∷ blocks)) block)
    (sym (old ∙ ap (λ x. b ∷ x) rest ∙ ap (λ x. x ∷ used_from roots' bodies' (suc t) blocks) is_block))
    (subst (λ x. Loses (block ∷ used_from roots' bodies' (suc t) blocks) x block) (sym new)
    (record { counts = λ units place. refl; tests = λ test. refl }))
used_loses roots roots' bodies bodies' t (Some b ∷ blocks) (suc k) block there was now same =
    let next : t + suc k ≡ suc t + k = omega arith in
    let rest = used_loses roots roots' bodies bodies' (suc t) blocks k block there (ap (is_in_use roots bodies) (sym next) ∙ was)
    (ap (is_in_use roots' bodies') (sym next) ∙ now) (λ u differ. same u (λ e. differ (e ∙ next))) in
    let both = same t (λ e. absurd (omega (arith, e))) in
    subst (λ x. Loses (cond (is_in_use roots bodies t) (b ∷ used_from roots bodies (suc t) blocks) (used_from roots bodies (suc t) blocks))
    (cond x (b ∷ used_from roots' bodies' (suc t) blocks) (used_from roots' bodies' (suc t) blocks)) block) both (by (is_in_use roots bodies t) rest)
  where
    by : (x : Bool) → Loses (used_from roots bodies (suc t) blocks) (used_from roots' bodies' (suc t) blocks) block
        → Loses (cond x (b ∷ used_from roots bodies (suc t) blocks) (used_from roots bodies (suc t) blocks))
        (cond x (b ∷ used_from roots' bodies' (suc t) blocks) (used_from roots' bodies' (suc t) blocks)) block
    by true rest = loses_later b (used_from roots bodies (suc t) blocks) (used_from roots' bodies' (suc t) blocks) block rest
    by false rest = rest

-- sets of bits, where one bit is cleared or none
set_kept : (units place : ℕ) (blocks left : List BlockState) (bit n : ℕ)
    → ((j : ℕ) → bit ≤ j → list_any (stands_at units place j) blocks ≡ list_any (stands_at units place j) left)
    → set_in units place left bit n ≡ set_in units place blocks bit n
set_kept units place blocks left bit zero same = refl
set_kept units place blocks left bit (suc n) same =
    ap (λ b. b ∷ set_in units place left (suc bit) n) (sym (same bit (omega arith)))
    ∙ ap (λ s. list_any (stands_at units place bit) blocks ∷ s) (set_kept units place blocks left (suc bit) n (λ j le. same j (omega (arith, le))))

-- where one bit is cleared, the set is that with this bit cleared
set_cleared : (units place : ℕ) (blocks left : List BlockState) (bit n i : ℕ)
    → ((j : ℕ) → j ≢ bit + i → list_any (stands_at units place j) blocks ≡ list_any (stands_at units place j) left)
    → list_any (stands_at units place (bit + i)) left ≡ false → set_in units place left bit n ≡ slice_set (set_in units place blocks bit n) i false
set_cleared units place blocks left bit zero i same clear = refl
set_cleared units place blocks left bit (suc n) zero same clear =
    let here : bit + 0 ≡ bit = omega arith in
    ap (λ b. b ∷ set_in units place left (suc bit) n) (ap (λ k. list_any (stands_at units place k) left) (sym here) ∙ clear)
    ∙ ap (λ s. false ∷ s) (set_kept units place blocks left (suc bit) n (λ j le. same j (λ e. absurd (omega (arith, le, e)))))
set_cleared units place blocks left bit (suc n) (suc i) same clear =
    let next : bit + suc i ≡ suc bit + i = omega arith in
    ap (λ b. b ∷ set_in units place left (suc bit) n) (sym (same bit (λ e. absurd (omega (arith, e)))))
    ∙ ap (λ s. list_any (stands_at units place bit) blocks ∷ s)
    (set_cleared units place blocks left (suc bit) n i (λ j differ. same j (λ e. differ (e ∙ next)))
    (ap (λ k. list_any (stands_at units place k) left) (sym next) ∙ clear))

-- superblocks, where one of them changes
supers_kept : (units : ℕ) (blocks left : List BlockState) (from : ℕ) (supers : List Super)
    → ((place : ℕ) (super : Super) → from ≤ place → superblock_of units left place super ≡ superblock_of units blocks place super)
    → superblocks_from units left from supers ≡ superblocks_from units blocks from supers
supers_kept units blocks left from [] same = refl
supers_kept units blocks left from (super ∷ supers) same =
    ap (λ s. s ∷ superblocks_from units left (suc from) supers) (same from super (omega arith))
    ∙ ap (λ ss. superblock_of units blocks from super ∷ ss)
    (supers_kept units blocks left (suc from) supers (λ place other le. same place other (omega (arith, le))))

-- where one superblock changes, the list is that with this one set
supers_changed : (units : ℕ) (blocks left : List BlockState) (from at : ℕ) (supers : List Super) (super : Super) (new : SuperblockState)
    → slice_get supers at ≡ Some super
    → ((place : ℕ) (other : Super) → place ≢ from + at → superblock_of units left place other ≡ superblock_of units blocks place other)
    → superblock_of units left (from + at) super ≡ new
    → superblocks_from units left from supers ≡ slice_set (superblocks_from units blocks from supers) at new
supers_changed units blocks left from at [] super new there same here = refl
supers_changed units blocks left from zero (first ∷ supers) super new there same here =
    let none : from + 0 ≡ from = omega arith in
    ap (λ s. s ∷ superblocks_from units left (suc from) supers)
    (ap (superblock_of units left from) (same_Some first super there) ∙ ap (λ k. superblock_of units left k super) (sym none) ∙ here)
    ∙ ap (λ ss. new ∷ ss) (supers_kept units blocks left (suc from) supers (λ place other le. same place other (λ e. absurd (omega (arith, le, e)))))
supers_changed units blocks left from (suc at) (first ∷ supers) super new there same here =
    let next : from + suc at ≡ suc from + at = omega arith in
    ap (λ s. s ∷ superblocks_from units left (suc from) supers) (same from first (λ e. absurd (omega (arith, e))))
    ∙ ap (λ ss. superblock_of units blocks from first ∷ ss)
    (supers_changed units blocks left (suc from) at supers super new there (λ place other differ. same place other (λ e. differ (e ∙ next)))
    (ap (λ k. superblock_of units left k super) (sym next) ∙ here))

-- where the block of a pool goes back
pub without_is : (pool : PoolState) (block : BlockState) → IsSound pool → (out : IsOut pool block)
    → without_block pool block ≡ with_superblock pool out.place (taken_back out.superblock out.bit)
without_is pool block sound out =
    let at = place_of pool block out.place out.bit out.superblock sound out.at in
    let bit = bit_of pool block out.place out.bit out.superblock sound out.at in
    ap (λ place. taken_from pool block place (slice_get pool.superblocks place)) at
    ∙ ap (taken_from pool block out.place) out.at.there
    ∙ ap (λ k. with_superblock pool out.place (taken_back out.superblock k)) bit

-- a test that fails adds nothing
or_false : (a : Bool) → (a || false) ≡ a
or_false true = refl
or_false false = refl

-- a block stands at no other bit of its superblock
module _ (units : ℕ) (supers : List Super) (blocks left : List BlockState) (block : BlockState) (sound : IsSound (pool_with units supers blocks))
    (out : IsOut (pool_with units supers blocks) block)
    (loses : Loses blocks left block) (clear : list_any (stands_at units out.place out.bit) left ≡ false) where
  at_place : block.unit / units ≡ out.place
  at_place = place_of (pool_with units supers blocks) block out.place out.bit out.superblock sound out.at

  -- its class
  class_is : block.class ≡ out.superblock.class
  class_is = ap (λ (b : BlockState). b.class) out.at.block_is

  -- and its first unit
  unit_is : block.unit ≡ out.place * units + out.bit * block_units block.class
  unit_is = ap (λ (b : BlockState). b.unit) out.at.block_is ∙ ap (λ k. out.place * units + out.bit * block_units k) (sym class_is)

  -- it stands in no other superblock
  not_in : (place : ℕ) → place ≢ out.place → stands_in units place block ≡ false
  not_in place differ = by (stands_in units place block) refl
    where
      by : (x : Bool) → stands_in units place block ≡ x → x ≡ false
      by false e = refl
      by true e = absurd (differ (sym (eqb-true (block.unit / units) place e) ∙ at_place))

  -- and at no other bit
  not_at : (j : ℕ) → j ≢ out.bit → stands_at units out.place j block ≡ false
  not_at j differ = by (stands_at units out.place j block) refl
    where
      by : (x : Bool) → stands_at units out.place j block ≡ x → x ≡ false
      by false e = refl
      by true e =
          let at = eqb-true block.unit (out.place * units + j * block_units block.class)
          (and_parts (stands_in units out.place block) (nat_eq block.unit (out.place * units + j * block_units block.class)) e).1 in
          let same : j * block_units block.class ≡ out.bit * block_units block.class = omega (arith, at, unit_is) in
          absurd (differ (sym (mul-div_left j (block_units-pos block.class)) ∙ ap (λ k. k / block_units block.class) same
          ∙ mul-div_left out.bit (block_units-pos block.class)))

  -- it stands in its superblock
  in_place : stands_in units out.place block ≡ true
  in_place = eq-eqb (block.unit / units) out.place at_place

  -- the other superblocks stay
  others : (place : ℕ) (super : Super) → place ≢ out.place → superblock_of units left place super ≡ superblock_of units blocks place super
  others place super differ =
      let none : ◌≡◌ {A = ℕ} (cond (stands_in units place block) 1 0) 0 = ap (λ b. cond b 1 0) (not_in place differ) in
      let count : count_in units place left ≡ count_in units place blocks = omega (arith, loses.counts units place, none) in
      let set : set_in units place left 0 units ≡ set_in units place blocks 0 units =
      set_kept units place blocks left 0 units
      (λ j le. loses.tests (stands_at units place j)
      ∙ ap (λ x. (x && nat_eq block.unit (place * units + j * block_units block.class)) || list_any (stands_at units place j) left)
      (not_in place differ)) in
      ap (λ n. record { class = super.class; count = n; ever = super.ever; set = set_in units place left 0 units }) count
      ∙ ap (λ s. record { class = super.class; count = count_in units place blocks; ever = super.ever; set = s }) set

  -- its own superblock has one block less
  own_place : (super : Super) → superblock_of units left out.place super ≡ taken_back (superblock_of units blocks out.place super) out.bit
  own_place super =
      let one : ◌≡◌ {A = ℕ} (cond (stands_in units out.place block) 1 0) 1 = ap (λ b. cond b 1 0) in_place in
      let count : count_in units out.place left ≡ count_in units out.place blocks - 1 = omega (arith, loses.counts units out.place, one) in
      let zero_bit : 0 + out.bit ≡ out.bit = omega arith in
      let set : set_in units out.place left 0 units ≡ slice_set (set_in units out.place blocks 0 units) out.bit false =
      set_cleared units out.place blocks left 0 units out.bit
      (λ j differ. loses.tests (stands_at units out.place j)
      ∙ ap (λ x. x || list_any (stands_at units out.place j) left) (not_at j (λ e. differ (e ∙ sym zero_bit))))
      (ap (λ k. list_any (stands_at units out.place k) left) zero_bit ∙ clear) in
      ap (λ n. record { class = super.class; count = n; ever = super.ever; set = set_in units out.place left 0 units }) count
      ∙ ap (λ s. record { class = super.class; count = count_in units out.place blocks - 1; ever = super.ever; set = s }) set

  -- the pool of the blocks that are left is that to which the block went back
  pub pool_without : without_block (pool_with units supers blocks) block ≡ pool_with units supers left
  pool_without =
      let (super, there, is_super) = superblock_at units blocks 0 out.place supers out.superblock out.at.there in
      let zero_place : 0 + out.place ≡ out.place = omega arith in
      without_is (pool_with units supers blocks) block sound out
      ∙ ap (λ ss. record { units = units; superblocks = ss })
      (sym (supers_changed units blocks left 0 out.place supers super (taken_back out.superblock out.bit) there
      (λ place other differ. others place other (λ e. differ (e ∙ sym zero_place)))
      (ap (λ k. superblock_of units left k super) zero_place ∙ own_place super
      ∙ ap (λ s. taken_back s out.bit) (ap (λ k. superblock_of units blocks k super) (sym zero_place) ∙ sym is_super))))
