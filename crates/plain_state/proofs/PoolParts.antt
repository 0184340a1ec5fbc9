-- The pool of the blocks in use: which blocks are out of it, and how it changes when a block is given.
use Rattle.std.proofs.Common.{◌≡◌, ◌≢◌, ◌⊎◌, ℕ, suc, ◌+◌, ◌<◌, ◌≤◌, Option, Some, None, List, slice_get, refl, sym, ◌∙◌, ap, subst, inl, inr, ⊎_elim}
use Rattle.std.proofs.Common.{arith, true}
use Rattle.std.specs.Prelude.{MatchOption}
use Rattle.std.proofs.lemmas.Bool.{cases_eq}
use Rattle.std.proofs.lemmas.Option.{same_Some, slice_get_within}
use Rattle.kt_words.specs.Ranges.{IsUnitCount}
use Rattle.kt_words.specs.Capacity.{capacity}
use Rattle.pool_core.specs.Blocks.{BlockState, block_at}
use Rattle.pool_core.specs.Superblocks.{SuperblockState, given, taken_back}
use Rattle.pool_core.specs.Pool.{PoolState, IsSound, IsOut, Gives, HasNoRoom, with_superblock}
use Rattle.pool_core.proofs.OneAnswer.{one_given}
use Rattle.pool_core.proofs.EitherAnswer.{never_gives_without_room}
use Rattle.pool_core.proofs.Taking.{place_of, bit_of}
use Rattle.record_core.specs.Numbers.{flat, found}
use Rattle.run_model.specs.State.{Body, RootWord, Super}
use Rattle.run_model.specs.Placing.{is_in_use, used_from, set_in, superblock_of, placed}
use Rattle.run_model.proofs.Placed.{placed_gives}
use Rattle.run_model.proofs.UsedFacts.{Uses, in_use}
use Rattle.run_model.proofs.UsedSound.{BlocksFit, IsPlaced, SuperFits, pool_with, superblock_at, superblock_from, set_in_length, set_block, is_bit, classes_of}
use Rattle.run_model.proofs.UsedSound.{out_of}
use Rattle.run_model.proofs.BlocksParts.{Core, used_member, core_fit, core_has}
use Rattle.plain_state.specs.Store.{taken_from, without_block}

-- what a pool gives is what is placed, and nothing is placed where it has no room
module _ (pool : PoolState) (class : ℕ) (fits : class ≤ 3) (sound : IsSound pool) where
  abbrev IsGiven : BlockState → Type 0
  IsGiven block = (new : PoolState) × Gives pool class block new

  -- what is given is placed
  pub gives_placed : (block : BlockState) (new : PoolState) → Gives pool class block new → placed pool class ≡ Some block
  gives_placed block new gives = by (placed pool class) (placed_gives pool class fits sound)
    where
      by : (o : Option BlockState) → MatchOption o (HasNoRoom pool class) IsGiven → o ≡ Some block
      by None full = absurd (never_gives_without_room pool class sound fits (block, (new, gives)) full)
      by (Some other) (newer, gives') = ap Some (one_given pool class other block newer new gives' gives).0

  -- without room nothing is placed
  pub no_room_placed : HasNoRoom pool class → placed pool class ≡ None
  no_room_placed full = by (placed pool class) (placed_gives pool class fits sound)
    where
      by : (o : Option BlockState) → MatchOption o (HasNoRoom pool class) IsGiven → o ≡ None
      by None full' = refl
      by (Some other) given = absurd (never_gives_without_room pool class sound fits (other, given) full)

-- a block back in the place where it stands
pub taken_pool : (pool : PoolState) (block : BlockState) → IsSound pool → (out : IsOut pool block)
    → without_block pool block ≡ with_superblock pool out.place (taken_back out.superblock out.bit)
taken_pool pool block sound out =
    let place = place_of pool block out.place out.bit out.superblock sound out.at in
    let bit = bit_of pool block out.place out.bit out.superblock sound out.at in
    ap (λ k. taken_from pool block k (slice_get pool.superblocks k)) place
    ∙ ap (taken_from pool block out.place) out.at.there
    ∙ ap (λ k. with_superblock pool out.place (taken_back out.superblock k)) bit

-- two blocks are one or not
pub block_cases : (one other : BlockState) → (one ≡ other) ⊎ (one ≢ other)
block_cases one other =
    ⊎_elim
    (λ unit. ⊎_elim (λ class. inl (λ i. record { unit = unit i; class = class i })) (λ differ. inr (λ e. differ (ap
    (λ (b : BlockState). b.class) e))) (cases_eq one.class other.class))
    (λ differ. inr (λ e. differ (ap (λ (b : BlockState). b.unit) e)))
    (cases_eq one.unit other.unit)

-- two blocks that stand at one place and bit, in superblocks of one class, are one
stands_same : (units place place' bit bit' class class' : ℕ) (one other : BlockState) → one ≡ block_at units place class bit
    → other ≡ block_at units place' class' bit' → place ≡ place' → class ≡ class' → bit ≡ bit' → one ≡ other
stands_same units place place' bit bit' class class' one other is_one is_other places classes bits =
    is_one ∙ (λ i. block_at units (places i) (classes i) (bits i)) ∙ sym is_other

-- a block that is out of the pool of some blocks is one of them
out_listed : (units : ℕ) (supers : List Super) (bs : List BlockState) → IsUnitCount units → BlocksFit units supers bs → (b : BlockState)
    → IsOut (pool_with units supers bs) b → (at : ℕ) × (slice_get bs at ≡ Some b)
out_listed units supers bs unit_count fit b out =
    let (super, there, is_s) = superblock_at units bs 0 out.place supers out.superblock out.at.there in
    let zero_plus : 0 + out.place ≡ out.place = omega arith in
    let is_super : out.superblock ≡ superblock_of units bs out.place super = is_s ∙ ap (λ k. superblock_of units bs k super) zero_plus in
    let is_set : slice_get (set_in units out.place bs 0 units) out.bit ≡ Some true =
    ap (λ (s : SuperblockState). slice_get s.set out.bit) (sym is_super) ∙ out.at.is_set in
    let within = slice_get_within (set_in units out.place bs 0 units) out.bit true is_set in
    let lt : out.bit < units = omega (arith, within, set_in_length units out.place bs 0 units) in
    let (at, other, has, stands) = set_block units supers bs unit_count fit out.place out.bit lt is_set in
    let lies = fit.placed at other has in
    let (same_place, same_bit) = is_bit units supers unit_count (classes_of units supers bs unit_count fit) other lies out.place out.bit stands in
    let same_super : lies.super ≡ super = same_Some lies.super super (sym lies.there ∙ ap (slice_get supers) same_place ∙ there) in
    let same_class : lies.super.class ≡ out.superblock.class =
    ap (λ (s : Super). s.class) same_super ∙ sym (ap (λ (s : SuperblockState). s.class) is_super) in
    let same = stands_same units lies.place out.place lies.bit out.bit lies.super.class out.superblock.class other b lies.block_is out.at.block_is
    same_place same_class (sym same_bit) in
    (at, has ∙ ap Some same)

-- the blocks in use are those that are out of their pool
module _ (units : ℕ) (unit_count : IsUnitCount units) (roots : List RootWord) (bodies : List (Option Body)) (blocks : List (Option BlockState))
    (supers : List Super) where
  abbrev pub used_pool : PoolState
  used_pool = pool_with units supers (used_from roots bodies 1 blocks)

  -- the block of a task in use is out
  pub used_out : Core units roots bodies blocks supers → (t : ℕ) (b : BlockState) → found blocks t ≡ Some b → Uses roots bodies t → IsOut used_pool b
  used_out core t b e used =
      let (i, there) = core_has roots bodies blocks t b e ((in_use roots bodies t).1 used) in
      out_of units supers (used_from roots bodies 1 blocks) unit_count (core_fit units roots bodies blocks supers core) i b there

  -- a block that is out is that of a task in use
  pub out_used : Core units roots bodies blocks supers → (b : BlockState) → IsOut used_pool b
      → (t : ℕ) × (found blocks t ≡ Some b) × Uses roots bodies t
  out_used core b out =
      let fit = core_fit units roots bodies blocks supers core in
      let (at, has) = out_listed units supers (used_from roots bodies 1 blocks) unit_count fit b out in
      let (k, stood, used) = used_member roots bodies 1 blocks at b has in
      let next : 1 + k ≡ suc k = omega arith in
      (suc k, ap flat stood, (in_use roots bodies (suc k)).0 (ap (is_in_use roots bodies) (sym next) ∙ used))

  -- what is kept of blocks, from what is seen of their pool
  pub core_from : IsSound used_pool → ((t : ℕ) (b : BlockState) → found blocks t ≡ Some b → Uses roots bodies t → IsOut used_pool b)
      → ((t u : ℕ) (b : BlockState) → found blocks t ≡ Some b → found blocks u ≡ Some b → Uses roots bodies t → Uses roots bodies u → t ≡ u)
      → Core units roots bodies blocks supers
  core_from sound out apart = record { placed = placed_at; apart = apart; supers_fit = supers_fit }
    where
      zero_plus : (k : ℕ) → 0 + k ≡ k
      zero_plus k = omega arith

      placed_at : (t : ℕ) (b : BlockState) → found blocks t ≡ Some b → Uses roots bodies t → IsPlaced units supers b
      placed_at t b e used =
          let is_out = out t b e used in
          let (super, there, is_s) = superblock_at units (used_from roots bodies 1 blocks) 0 is_out.place supers is_out.superblock is_out.at.there in
          let class_is : is_out.superblock.class ≡ super.class = ap (λ (s : SuperblockState). s.class) is_s in
          record {
            place = is_out.place;
            bit = is_out.bit;
            super = super;
            there = there;
            block_is = is_out.at.block_is ∙ ap (λ k. block_at units is_out.place k is_out.bit) class_is;
            below = subst (λ k. is_out.bit < capacity units k) class_is
                ((sound.kept is_out.place is_out.superblock is_out.at.there).inside is_out.bit is_out.at.is_set);
          }

      supers_fit : (place : ℕ) (super : Super) → slice_get supers place ≡ Some super → SuperFits units (used_from roots bodies 1 blocks) place super
      supers_fit place super there =
          let here = superblock_from units (used_from roots bodies 1 blocks) 0 place supers super there
          ∙ ap (λ k. Some (superblock_of units (used_from roots bodies 1 blocks) k super)) (zero_plus place) in
          let kept = sound.kept place (superblock_of units (used_from roots bodies 1 blocks) place super) here in
          record { class_fits = kept.class_fits; ever_fits = kept.ever_fits; ever_counts = kept.ever_counts }
