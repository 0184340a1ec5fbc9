-- Two tasks in use whose blocks share a unit are one task, and all units of blocks in use are in the pool.
use Rattle.std.proofs.Common.{◌≡◌, ◌≢◌, ◌⊎◌, ℕ, ◌+◌, ◌<◌, ◌≤◌, Bool, true, false, nat_lt, Option, Some, None, List, length, refl, sym, ◌∙◌, ap, subst, inl, inr, ⊎_elim, arith}
use Rattle.std.specs.Option.{option_map}
use Rattle.std.proofs.lemmas.Option.{none-some, same_Some}
use Rattle.std.proofs.lemmas.Bool.{ltb-true, ltb-false}
use Rattle.std.proofs.lemmas.Nat.{pow_pos}
use Rattle.task_syntax.specs.declared.program.Program.{Program}
use Rattle.kt_words.specs.Capacity.{block_units}
use Rattle.pool_core.specs.Blocks.{BlockState, HasUnit}
use Rattle.pool_core.proofs.Apart.{blocks_apart, blocks_inside}
use Rattle.record_core.specs.Numbers.{found}
use Rattle.run_model.specs.State.{Run}
use Rattle.plain_state.specs.Engine.{EngineState}
use Rattle.plain_state.specs.Sees.{Sees, InUse, unit_of}

-- the block of a task whose first unit is known
pub unit_block : (blocks : List (Option BlockState)) (t unit : ℕ) → unit_of blocks t ≡ Some unit
    → (block : BlockState) × (found blocks t ≡ Some block) × (block.unit ≡ unit)
unit_block blocks t unit e = by (found blocks t) refl e
  where
    by : (o : Option BlockState) → found blocks t ≡ o → option_map (λ (b : BlockState). b.unit) o ≡ Some unit
        → (block : BlockState) × (found blocks t ≡ Some block) × (block.unit ≡ unit)
    by None has f = absurd (none-some unit f)
    by (Some block) has f = (block, has, same_Some block.unit unit f)

-- the first unit of a task whose block is known
pub unit_from : (blocks : List (Option BlockState)) (t : ℕ) (block : BlockState) → found blocks t ≡ Some block → unit_of blocks t ≡ Some block.unit
unit_from blocks t block has = ap (option_map (λ (b : BlockState). b.unit)) has

-- one number is at most the other, or above it
pub le_or_lt : (a b : ℕ) → (a ≤ b) ⊎ (b < a)
le_or_lt a b = by (nat_lt b a) refl
  where
    by : (x : Bool) → nat_lt b a ≡ x → (a ≤ b) ⊎ (b < a)
    by true e = inr (ltb-true b a e)
    by false e = inl (ltb-false b a e)

-- a block has its first unit
pub has_first : (block : BlockState) → HasUnit block block.unit
has_first block = record { from = omega arith; before = omega (arith, pow_pos block.class) }

module _ (p : Program) (units : ℕ) (hand : List ℕ) (own : Option (ℕ × List ℕ)) (e : EngineState) (r : Run) (sees : Sees p units hand own e r) where
  -- a task in use has a unit
  pub unit_in_use : (t : ℕ) → InUse hand r t → (unit : ℕ) × (unit_of r.blocks t ≡ Some unit)
  unit_in_use t used = let task = sees.tasks t used in (task.block.unit, unit_from r.blocks t task.block task.has_block)

  -- two tasks in use whose blocks share a unit are one
  pub one_block : (t u unit : ℕ) (one other : BlockState) → found r.blocks t ≡ Some one → found r.blocks u ≡ Some other → InUse hand r t
      → InUse hand r u
      → HasUnit one unit → HasUnit other unit → t ≡ u
  one_block t u unit one other has_t has_u used_t used_u in_one in_other =
      let same = blocks_apart e.store.pool sees.sound one other unit (sees.out t one has_t used_t) (sees.out u other has_u used_u) in_one in_other in
      sees.apart t u one has_t (has_u ∙ sym (ap Some same)) used_t used_u

  -- two tasks in use with the same first unit are one
  pub one_task : (t u unit : ℕ) → InUse hand r t → InUse hand r u → unit_of r.blocks t ≡ Some unit → unit_of r.blocks u ≡ Some unit → t ≡ u
  one_task t u unit used_t used_u at_t at_u =
      let (one, has_t, first_t) = unit_block r.blocks t unit at_t in
      let (other, has_u, first_u) = unit_block r.blocks u unit at_u in
      one_block t u one.unit one other has_t has_u used_t used_u (has_first one) (subst (HasUnit other) (first_u ∙ sym first_t) (has_first other))

  -- the blocks of two tasks in use lie one behind the other
  pub blocks_beside : (t u : ℕ) (one other : BlockState) → found r.blocks t ≡ Some one → found r.blocks u ≡ Some other → InUse hand r t
      → InUse hand r u → t ≢ u
      → (one.unit + block_units one.class ≤ other.unit) ⊎ (other.unit + block_units other.class ≤ one.unit)
  blocks_beside t u one other has_t has_u used_t used_u differ =
      ⊎_elim
      (λ low. ⊎_elim (λ ends. inl ends)
      (λ over. absurd (differ
      (one_block t u other.unit one other has_t has_u used_t used_u (record { from = low; before = omega (arith, over) }) (has_first other))))
      (le_or_lt (one.unit + block_units one.class) other.unit))
      (λ high. ⊎_elim (λ ends. inr ends)
      (λ over. absurd (differ
      (one_block t u one.unit one other has_t has_u used_t used_u (has_first one)
      (record { from = omega (arith, high); before = omega (arith, over) }))))
      (le_or_lt (other.unit + block_units other.class) one.unit))
      (le_or_lt one.unit other.unit)

  -- the units of a block in use are units of the store
  pub block_inside : (t : ℕ) (block : BlockState) → found r.blocks t ≡ Some block → InUse hand r t
      → block.unit + block_units block.class ≤ length e.store.records
  block_inside t block has used =
      let inside = blocks_inside e.store.pool sees.sound block (sees.out t block has used) in omega (arith, inside, sees.shaped.units)
