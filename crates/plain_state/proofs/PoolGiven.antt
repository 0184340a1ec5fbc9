-- The pool of the blocks in use after one more block was given, and after it was given and taken back at once.
use Rattle.std.proofs.Common.{◌≡◌, ◌≢◌, ℕ, suc, ◌/◌, ◌<◌, ◌≤◌, Option, Some, List, [], ◌∷◌, ◌++◌, length, slice_get, refl, sym, ◌∙◌, ap, subst}
use Rattle.std.proofs.Common.{⊎_elim, arith}
use Rattle.std.specs.Prelude.{slice_set}
use Rattle.std.proofs.lemmas.Bool.{cases_eq}
use Rattle.std.proofs.lemmas.Option.{same_Some, slice_get_within}
use Rattle.claim_core.proofs.Counted.{le-set_count}
use Rattle.kt_words.specs.Ranges.{IsUnitCount}
use Rattle.kt_words.specs.Capacity.{capacity}
use Rattle.kt_words.specs.SuperWords.{risen}
use Rattle.pool_core.specs.Blocks.{BlockState}
use Rattle.pool_core.specs.Superblocks.{SuperblockState, given, taken_back}
use Rattle.pool_core.specs.Pool.{PoolState, IsSound, IsOut, Gives, Adds, Removes, with_superblock}
use Rattle.pool_core.proofs.Places.{slice_get-set_same, slice_get-set_other}
use Rattle.pool_core.proofs.Units.{place_of_unit}
use Rattle.pool_core.proofs.Giving.{there_of, ready_at}
use Rattle.pool_core.proofs.Given.{gives_sound, gives_adds}
use Rattle.pool_core.proofs.Taking.{IsSound-taken_back}
use Rattle.pool_core.proofs.Out.{Removes-taken_back}
use Rattle.pool_core.proofs.Determined.{pool_is_its_blocks}
use Rattle.record_core.specs.Numbers.{by_number, put_number}
use Rattle.run_model.specs.State.{Body, RootWord, Super}
use Rattle.run_model.specs.Placing.{used_from, super_with, supers_with}
use Rattle.run_model.proofs.ByNumber.{found_new, found_other, found_old, length_put}
use Rattle.run_model.proofs.UsedFacts.{Uses}
use Rattle.run_model.proofs.UsedSound.{pool_with, superblock_at, superblocks_length, sound_of}
use Rattle.run_model.proofs.BlocksParts.{Core, Newly, newly, core_fit, core_placed, core_block, supers_length}
use Rattle.plain_state.specs.Store.{without_block}
use Rattle.plain_state.proofs.PoolParts.{taken_pool, block_cases, used_pool, used_out, out_used}

-- a superblock of the pool of blocks has the class and the number of its superblock
pub numbers_at : (units : ℕ) (supers : List Super) (bs : List BlockState) (place : ℕ) (s : SuperblockState)
    → slice_get (pool_with units supers bs).superblocks place ≡ Some s
    → (super : Super) × (slice_get supers place ≡ Some super) × (s.class ≡ super.class) × (s.ever ≡ super.ever)
numbers_at units supers bs place s e =
    let (super, there, is_s) = superblock_at units bs 0 place supers s e in (
      super,
      there,
      ap (λ (x : SuperblockState). x.class) is_s,
      ap
          (λ (x : SuperblockState). x.ever) is_s,
    )

-- the pool with a block back that is out
abbrev back_of : (pool : PoolState) (block : BlockState) → IsOut pool block → PoolState
back_of pool block out = with_superblock pool out.place (taken_back out.superblock out.bit)

module _ (units : ℕ) (unit_count : IsUnitCount units) (roots : List RootWord) (bodies : List (Option Body)) (blocks : List (Option BlockState))
    (supers : List Super)
    (core : Core units roots bodies blocks supers) (sound : IsSound (pool_with units supers (used_from roots bodies 1 blocks)))
    (class : ℕ) (fits : class ≤ 3) (block : BlockState) (new : PoolState) (gives : Gives (pool_with units supers
    (used_from roots bodies 1 blocks)) class block new) where
  abbrev old : PoolState
  old = pool_with units supers (used_from roots bodies 1 blocks)

  abbrev supers' : List Super
  supers' = supers_with units supers block

  -- there is a superblock
  some : 1 ≤ length supers
  some = omega (arith, sound.some, superblocks_length units (used_from roots bodies 1 blocks) 0 supers)

  -- and there are few
  few : length supers ≤ 1024
  few = omega (arith, sound.few, superblocks_length units (used_from roots bodies 1 blocks) 0 supers)

  -- the chosen superblock
  there : slice_get old.superblocks gives.place ≡ Some gives.was
  there = there_of class (capacity units class) gives.place old.superblocks gives.was gives.chosen

  -- the bit is below the capacity
  bit_below : gives.bit < capacity units class
  bit_below = let ready = ready_at old class gives.place gives.was sound fits gives.chosen in omega
      (arith, le-set_count gives.was.set gives.bit gives.lowest.below, ready.kept.counted, ready.below)

  -- the block stands in the superblock that was chosen
  place_is : block.unit / units ≡ gives.place
  place_is = ap (λ (b : BlockState). b.unit / units) gives.block_is ∙ place_of_unit units class gives.place gives.bit unit_count fits bit_below

  -- the class of the block
  pub class_is : block.class ≡ class
  class_is = ap (λ (b : BlockState). b.class) gives.block_is

  -- the superblocks afterwards
  supers_then : (super : Super) → slice_get supers gives.place ≡ Some super
      → supers_with units supers block ≡ slice_set supers gives.place (record { class = class; ever = risen super.ever })
  supers_then super has =
      ap (λ k. put_number supers (suc k) (super_with (by_number supers (suc k)) block.class)) place_is
      ∙ ap (λ o. put_number supers (suc gives.place) (super_with o block.class)) has
      ∙ ap (λ k. slice_set supers gives.place (record { class = k; ever = risen super.ever })) class_is

  -- the pool afterwards
  after_is : new.superblocks ≡ slice_set old.superblocks gives.place (given gives.was class gives.bit)
  after_is = ap (λ (pool : PoolState). pool.superblocks) gives.after

  -- superblocks keep their numbers
  numbers : (place : ℕ) (was : SuperblockState) (super : Super) → slice_get new.superblocks place ≡ Some was → slice_get supers' place ≡ Some super
      → (was.class ≡ super.class) × (was.ever ≡ super.ever)
  numbers place was super e f =
      let (before, has, of_class, of_ever) = numbers_at units supers (used_from roots bodies 1 blocks) gives.place gives.was there in
      let then = supers_then before has in
      let within = slice_get_within old.superblocks gives.place gives.was there in
      let within' = slice_get_within supers gives.place before has in
      ⊎_elim
      (λ same.
      let is_was : given gives.was class gives.bit ≡ was = same_Some (given gives.was class gives.bit) was
      (sym (slice_get-set_same old.superblocks gives.place (given gives.was class gives.bit) within)
      ∙ ap (λ xs. slice_get xs gives.place) (sym after_is) ∙ ap (slice_get new.superblocks) (sym same) ∙ e) in
      let is_super : record { class = class; ever = risen before.ever } ≡ super = same_Some (record { class = class; ever = risen before.ever }) super
      (sym (slice_get-set_same supers gives.place (record { class = class; ever = risen before.ever }) within')
      ∙ ap (λ xs. slice_get xs gives.place) (sym then) ∙ ap (slice_get supers') (sym same) ∙ f) in (
        ap (λ (s : SuperblockState). s.class) (sym is_was) ∙ ap (λ (s : Super). s.class) is_super,
        ap (λ (s : SuperblockState). s.ever) (sym is_was) ∙ ap risen of_ever ∙ ap (λ (s : Super). s.ever) is_super,
      ))
      (λ differ.
      let e' : slice_get old.superblocks place ≡ Some was = sym (slice_get-set_other old.superblocks gives.place place
      (given gives.was class gives.bit) differ) ∙ ap (λ xs. slice_get xs place) (sym after_is) ∙ e in
      let f' : slice_get supers place ≡ Some super = sym (slice_get-set_other supers gives.place place
      (record { class = class; ever = risen before.ever }) differ) ∙ ap (λ xs. slice_get xs place) (sym then) ∙ f in
      let (super', has', class', ever') = numbers_at units supers (used_from roots bodies 1 blocks) place was e' in
      let same : super' ≡ super = same_Some super' super (sym has' ∙ f') in
      (class' ∙ ap (λ (s : Super). s.class) same, ever' ∙ ap (λ (s : Super). s.ever) same))
      (cases_eq place gives.place)

  -- the block is a new one
  is_new : Newly units supers (used_from roots bodies 1 blocks) class block
  is_new = newly units supers (used_from roots bodies 1 blocks) class block new unit_count fits (core_fit units roots bodies blocks supers core) gives

  -- as many superblocks
  many' : length supers' ≡ length supers
  many' = supers_length units unit_count roots bodies blocks supers core class block fits is_new

  -- one block more is out
  adds : Adds old block new
  adds = gives_adds old new class block sound fits gives

  -- the pool stays sound
  pub new_sound : IsSound new
  new_sound = gives_sound old new class block sound fits gives

  -- its superblocks are as large
  units_is : new.units ≡ units
  units_is = ap (λ (pool : PoolState). pool.units) gives.after

  -- and as many
  many : length new.superblocks ≡ length supers
  many = ap length after_is ∙ length_put old.superblocks (suc gives.place) (given gives.was class gives.bit)
      ∙ superblocks_length units (used_from roots bodies 1 blocks) 0 supers

  -- the block was not out
  pub was_in : ¬ IsOut old block
  was_in = adds.was_in

  -- with the block for one more task the pool is the pool afterwards
  module _ (roots' : List RootWord) (bodies' : List (Option Body)) (less : (u : ℕ) → Uses roots' bodies' u → u ≢ suc (length blocks)
      → Uses roots bodies u)
      (kept : (u : ℕ) → Uses roots bodies u → Uses roots' bodies' u) (fresh : Uses roots' bodies' (suc (length blocks))) where
    abbrev blocks' : List (Option BlockState)
    blocks' = blocks ++ Some block ∷ []

    -- what is kept of the blocks with the new one
    pub core_given : Core units roots' bodies' (blocks ++ Some block ∷ []) (supers_with units supers block)
    core_given = core_block units unit_count roots bodies blocks supers core class block fits is_new roots' bodies' less

    -- the pool afterwards is that of all blocks in use
    pub given_pool : new ≡ pool_with units (supers_with units supers block) (used_from roots' bodies' 1 (blocks ++ Some block ∷ []))
    given_pool = pool_is_its_blocks new (used_pool units unit_count roots' bodies' blocks' supers') new_sound sound' units_is
        (many ∙ sym many' ∙ sym (superblocks_length units (used_from roots' bodies' 1 blocks') 0 supers')) same_numbers (λ b. (to b, from b))
      where
        sound' : IsSound (used_pool units unit_count roots' bodies' blocks' supers')
        sound' = sound_of units supers' (used_from roots' bodies' 1 blocks') unit_count (core_fit units roots' bodies' blocks' supers' core_given)
            (omega (arith, some, many')) (omega (arith, few, many'))

        same_numbers : (place : ℕ) (was now : SuperblockState) → slice_get new.superblocks place ≡ Some was
            → slice_get (used_pool units unit_count roots' bodies' blocks' supers').superblocks place ≡ Some now
            → (was.class ≡ now.class) × (was.ever ≡ now.ever)
        same_numbers place was now e f =
            let (super, has, of_class, of_ever) = numbers_at units supers' (used_from roots' bodies' 1 blocks') place now f in
            let same = numbers place was super e has in
            (same.0 ∙ sym of_class, same.1 ∙ sym of_ever)

        to : (b : BlockState) → IsOut new b → IsOut (used_pool units unit_count roots' bodies' blocks' supers') b
        to b out =
            ⊎_elim
            (λ same. used_out units unit_count roots' bodies' blocks' supers' core_given (suc (length blocks)) b (found_new blocks (Some block) (suc
            (length blocks)) refl ∙ ap Some (sym same)) fresh)
            (λ differ.
            let (t, has, used) = out_used units unit_count roots bodies blocks supers core b ((adds.others b differ).0 out) in
            used_out units unit_count roots' bodies' blocks' supers' core_given t b (found_old blocks (Some block) t b has) (kept t used))
            (block_cases b block)

        from : (b : BlockState) → IsOut (used_pool units unit_count roots' bodies' blocks' supers') b → IsOut new b
        from b out =
            let (t, has, used) = out_used units unit_count roots' bodies' blocks' supers' core_given b out in
            ⊎_elim
            (λ same. subst (IsOut new) (same_Some block b (sym (found_new blocks (Some block) t same) ∙ has)) adds.is_out)
            (λ differ.
            let was_out = used_out units unit_count roots bodies blocks supers core t b (sym (found_other blocks (Some block) t differ)
            ∙ has) (less t used differ) in
            (adds.others b (λ same. adds.was_in (subst (IsOut old) same was_out))).1 was_out)
            (cases_eq t (suc (length blocks)))

  -- what is kept once the block is back
  pub core_given_back : Core units roots bodies blocks (supers_with units supers block)
  core_given_back = core_placed units unit_count roots bodies blocks supers core class block fits is_new

  -- the pool with the block back is sound
  pub back_sound : IsSound (without_block new block)
  back_sound = subst IsSound (sym (taken_pool new block new_sound adds.is_out))
      (IsSound-taken_back new block adds.is_out.place adds.is_out.bit adds.is_out.superblock new_sound adds.is_out.at)

  -- where the block is taken back at once, its superblock alone remembers it
  pub given_back_pool : without_block new block ≡ pool_with units (supers_with units supers block) (used_from roots bodies 1 blocks)
  given_back_pool = taken_pool new block new_sound adds.is_out ∙ same
    where
      core' : Core units roots bodies blocks supers'
      core' = core_placed units unit_count roots bodies blocks supers core class block fits is_new

      sound' : IsSound (used_pool units unit_count roots bodies blocks supers')
      sound' = sound_of units supers' (used_from roots bodies 1 blocks) unit_count (core_fit units roots bodies blocks supers' core') (omega
          (arith, some, many')) (omega (arith, few, many'))

      removes : Removes new block (back_of new block adds.is_out)
      removes = Removes-taken_back new block adds.is_out.place adds.is_out.bit adds.is_out.superblock new_sound adds.is_out.at

      same_numbers : (at : ℕ) (was now : SuperblockState) → slice_get (back_of new block adds.is_out).superblocks at ≡ Some was
          → slice_get (used_pool units unit_count roots bodies blocks supers').superblocks at ≡ Some now
          → (was.class ≡ now.class) × (was.ever ≡ now.ever)
      same_numbers at was now e f =
          let (super, has, of_class, of_ever) = numbers_at units supers' (used_from roots bodies 1 blocks) at now f in
          ⊎_elim
          (λ same_at.
          let within = slice_get_within new.superblocks adds.is_out.place adds.is_out.superblock adds.is_out.at.there in
          let is_was : taken_back adds.is_out.superblock adds.is_out.bit ≡ was = same_Some (taken_back adds.is_out.superblock adds.is_out.bit) was
          (sym (slice_get-set_same new.superblocks adds.is_out.place (taken_back adds.is_out.superblock adds.is_out.bit) within)
          ∙ ap (slice_get (back_of new block adds.is_out).superblocks) (sym same_at) ∙ e) in
          let was_numbers = numbers adds.is_out.place adds.is_out.superblock super adds.is_out.at.there (ap (slice_get supers') (sym same_at)
          ∙ has) in (
            ap (λ (s : SuperblockState). s.class) (sym is_was) ∙ was_numbers.0 ∙ sym of_class,
            ap (λ (s : SuperblockState). s.ever) (sym is_was)
                ∙ was_numbers.1 ∙ sym of_ever,
          ))
          (λ differ.
          let before : slice_get new.superblocks at ≡ Some was = sym (slice_get-set_other new.superblocks adds.is_out.place at
          (taken_back adds.is_out.superblock adds.is_out.bit) differ) ∙ e in
          let was_numbers = numbers at was super before has in
          (was_numbers.0 ∙ sym of_class, was_numbers.1 ∙ sym of_ever))
          (cases_eq at adds.is_out.place)

      to : (b : BlockState) → IsOut (back_of new block adds.is_out) b → IsOut (used_pool units unit_count roots bodies blocks supers') b
      to b out =
          ⊎_elim (λ is_block. absurd (removes.is_in (subst (IsOut (back_of new block adds.is_out)) is_block out)))
          (λ differ.
          let (t, has, used) = out_used units unit_count roots bodies blocks supers core b ((adds.others b differ).0
          ((removes.others b differ).0 out)) in
          used_out units unit_count roots bodies blocks supers' core' t b has used)
          (block_cases b block)

      from : (b : BlockState) → IsOut (used_pool units unit_count roots bodies blocks supers') b → IsOut (back_of new block adds.is_out) b
      from b out =
          let (t, has, used) = out_used units unit_count roots bodies blocks supers' core' b out in
          let was_out = used_out units unit_count roots bodies blocks supers core t b has used in
          let differ : b ≢ block = λ is_block. adds.was_in (subst (IsOut old) is_block was_out) in
          (removes.others b differ).1 ((adds.others b differ).1 was_out)

      same : back_of new block adds.is_out ≡ used_pool units unit_count roots bodies blocks supers'
      same = pool_is_its_blocks (back_of new block adds.is_out) (used_pool units unit_count roots bodies blocks supers')
          (IsSound-taken_back new block adds.is_out.place adds.is_out.bit adds.is_out.superblock new_sound adds.is_out.at) sound' units_is
          (length_put new.superblocks (suc adds.is_out.place) (taken_back adds.is_out.superblock adds.is_out.bit) ∙ many ∙ sym many'
          ∙ sym (superblocks_length units (used_from roots bodies 1 blocks) 0 supers'))
          same_numbers (λ b. (to b, from b))
