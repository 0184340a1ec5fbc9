-- A block is placed where a sound pool gives it.
use Rattle.std.proofs.Common.{◌≡◌, ℕ, zero, suc, ◌+◌, ◌<◌, ◌≤◌, Bool, true, false, nat_eq, nat_lt, Option, Some, None, List, [], ◌∷◌, length, refl, sym, ap, ◌∙◌, cond, inl, inr, ⊎_elim, arith}
use Rattle.std.specs.Prelude.{MatchOption, slice_get}
use Rattle.std.specs.Option.{option_map, option_or}
use Rattle.std.proofs.lemmas.Bool.{and_parts, and_cases, eqb-true, eqb-false, ltb-true, ltb-false}
use Rattle.std.proofs.lemmas.Option.{none-some, same_Some, get_or_from_slice_get}
use Rattle.claim_core.specs.Claims.{set_count, IsLowestClear}
use Rattle.claim_core.proofs.Counted.{set_count-cons}
use Rattle.kt_words.specs.Capacity.{capacity}
use Rattle.pool_core.specs.Blocks.{BlockState, block_at}
use Rattle.pool_core.specs.Choice.{Each, NoneBefore, IsFirst, IsChosen}
use Rattle.pool_core.specs.Pool.{PoolState, Gives, HasNoRoom, IsSound, with_superblock}
use Rattle.pool_core.specs.Superblocks.{SuperblockState, HasRoom, IsEmpty, given}
use Rattle.pool_core.proofs.Choosing.{IsWithoutRoom_from}
use Rattle.pool_core.proofs.Giving.{ready, there_of}
use Rattle.run_model.specs.Placing.{first_where, has_room, is_empty, lowest_clear, placed}

-- the test tells P
pub record Tells (test : SuperblockState → Bool) (P : SuperblockState → Type 0) : Type 0 where
  pub yes_ : (s : SuperblockState) → test s ≡ true → P s
  pub no_ : (s : SuperblockState) → test s ≡ false → ¬ P s

-- what is found is the first that has P, and where nothing is found, none has
module _ (test : SuperblockState → Bool) (P : SuperblockState → Type 0) (tells : Tells test P) where
  abbrev Finds : ℕ → List SuperblockState → Option (ℕ × SuperblockState) → Type 0
  Finds from xs found = MatchOption found (Each (λ s. ¬ P s) xs) (λ chosen. (at : ℕ) × (chosen.0 ≡ from + at) × IsFirst P xs at chosen.1)

  found_later : (from : ℕ) (x : SuperblockState) (xs : List SuperblockState) (found : Option (ℕ × SuperblockState)) → test x ≡ false → Finds (suc from) xs found → Finds from (x ∷ xs) found
  found_later from x xs None e none = every
    where
      every : Each (λ s. ¬ P s) (x ∷ xs)
      every zero s there = λ p. tells.no_ s (ap test (sym (same_Some x s there)) ∙ e) p
      every (suc at) s there = none at s there
  found_later from x xs (Some chosen) e (at, place, first) = (suc at, omega arith, (first.0, first.1, before))
    where
      before : NoneBefore P (x ∷ xs) (suc at)
      before zero s lt there = λ p. tells.no_ s (ap test (sym (same_Some x s there)) ∙ e) p
      before (suc k) s lt there = first.2 k s (omega arith) there

  -- the first superblock that passes is found, or none passes
  pub first_found : (from : ℕ) (xs : List SuperblockState) → Finds from xs (first_where test from xs)
  first_found from [] = λ at s there. absurd (none-some s there)
  first_found from (x ∷ xs) = by (test x) refl (first_found (suc from) xs)
    where
      by : (b : Bool) → test x ≡ b → Finds (suc from) xs (first_where test (suc from) xs) → Finds from (x ∷ xs) (cond b (Some (from, x)) (first_where test (suc from) xs))
      by true e rest = (0, omega arith, (refl, tells.yes_ x e, λ at s lt there. absurd (omega arith)))
      by false e rest = found_later from x xs (first_where test (suc from) xs) e rest

-- the two tests
tells_room : (class room : ℕ) → Tells (has_room class room) (HasRoom class room)
tells_room class room = record { yes_ = yes_; no_ = no_ }
  where
    yes_ : (s : SuperblockState) → has_room class room s ≡ true → HasRoom class room s
    yes_ s e = let (same, below) = and_parts (nat_eq s.class class) (nat_lt s.count room) e in record { of_class = eqb-true s.class class same; below = ltb-true s.count room below }

    no_ : (s : SuperblockState) → has_room class room s ≡ false → ¬ HasRoom class room s
    no_ s e has = ⊎_elim (λ differ. absurd (eqb-false s.class class differ has.of_class)) (λ full. absurd (omega (arith, ltb-false s.count room full, has.below))) (and_cases (nat_eq s.class class) (nat_lt s.count room) e)

tells_empty : Tells is_empty IsEmpty
tells_empty = record { yes_ = λ s e. eqb-true s.count 0 e; no_ = λ s e. eqb-false s.count 0 e }

-- where not all bits are set, the lowest clear one is found
lowest_is : (set : List Bool) → set_count set < length set → IsLowestClear set (lowest_clear set)
lowest_is [] few = absurd (omega arith)
lowest_is (true ∷ set) few = let rest = lowest_is set (omega (arith, set_count-cons true set)) in record { clear = rest.clear; below = below rest }
  where
    below : IsLowestClear set (lowest_clear set) → (k : ℕ) → k < suc (lowest_clear set) → slice_get (true ∷ set) k ≡ Some true
    below rest zero lt = refl
    below rest (suc k) lt = rest.below k (omega arith)
lowest_is (false ∷ set) few = record { clear = refl; below = λ k lt. absurd (omega arith) }

-- the chosen superblock gives the block at its lowest clear bit
module _ (pool : PoolState) (class : ℕ) (fits : class ≤ 3) (sound : IsSound pool) where
  abbrev IsGiven : BlockState → Type 0
  IsGiven block = (new : PoolState) × Gives pool class block new

  chosen_gives : (place : ℕ) (was : SuperblockState) → IsChosen class (capacity pool.units class) pool.superblocks place was → IsGiven (block_at pool.units place class (lowest_clear was.set))
  chosen_gives place was chosen =
      let seen = sym (get_or_from_slice_get pool.superblocks place was was (there_of class (capacity pool.units class) place pool.superblocks was chosen)) in
      let is_ready = ready pool class place was sound fits (was, chosen) seen in (
        with_superblock pool place (given was class (lowest_clear was.set)),
        record {
          place = place;
          bit = lowest_clear was.set;
          was = was;
          chosen = chosen;
          lowest = lowest_is was.set (omega (arith, is_ready.below, is_ready.size, is_ready.kept.counted));
          block_is = refl;
          after = refl;
        },
      )

  abbrev placed_of : Option (ℕ × SuperblockState) → Option BlockState
  placed_of chosen = option_map (λ found. block_at pool.units found.0 class (lowest_clear found.1.set)) chosen

  gives_found : (found : ℕ × SuperblockState) (at : ℕ) → found.0 ≡ 0 + at → IsChosen class (capacity pool.units class) pool.superblocks at found.1 → IsGiven (block_at pool.units found.0 class (lowest_clear found.1.set))
  gives_found found at place chosen = let same : found.0 ≡ at = omega arith in rw same (chosen_gives at found.1 chosen)

  both : (roomy empty : Option (ℕ × SuperblockState)) → Finds (has_room class (capacity pool.units class)) (HasRoom class (capacity pool.units class)) (tells_room class (capacity pool.units class)) 0 pool.superblocks roomy
      → Finds is_empty IsEmpty tells_empty 0 pool.superblocks empty → MatchOption (placed_of (option_or roomy empty)) (HasNoRoom pool class) IsGiven
  both None None none out = λ at s there. IsWithoutRoom_from class (capacity pool.units class) s (none at s there) (out at s there)
  both None (Some found) none (at, place, first) = gives_found found at place (inr (none, first))
  both (Some found) empty (at, place, first) rest = gives_found found at place (inl first)

  -- a block is placed where the pool gives it, and none where it has no room
  pub placed_gives : MatchOption (placed pool class) (HasNoRoom pool class) IsGiven
  placed_gives = both _ _ (first_found (has_room class (capacity pool.units class)) (HasRoom class (capacity pool.units class)) (tells_room class (capacity pool.units class)) 0 pool.superblocks) (first_found is_empty IsEmpty tells_empty 0 pool.superblocks)
