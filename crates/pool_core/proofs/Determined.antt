-- A superblock is said by its class, how many blocks it ever gave, and which are out.
use Rattle.std.proofs.Common.{◌≡◌, ℕ, suc, ◌%◌, ◌/◌, Bool, true, false, List, [], ◌∷◌, Some, length, slice_get, refl, sym, ◌∙◌, ap, subst, arith}
use Rattle.std.proofs.lemmas.Bool.{false≢true}
use Rattle.std.proofs.lemmas.Option.{same_Some}
use Rattle.claim_core.specs.Claims.{set_count, IsSet}
use Rattle.kt_words.specs.Capacity.{block_units}
use Rattle.pool_core.specs.Blocks.{BlockState, block_at}
use Rattle.pool_core.specs.Laws.{SuperblockIsItsBlocks, PoolIsItsBlocks}
use Rattle.pool_core.specs.Pool.{PoolState, IsOut, IsOutAt, IsOutIn, IsSound}
use Rattle.pool_core.specs.Superblocks.{SuperblockState}
use Rattle.pool_core.proofs.ClassCounts.{out_at}
use Rattle.pool_core.proofs.Taking.{place_of, bit_of}

-- of two lists of one length with the same bits set, bit by bit
same_bits : (xs ys : List Bool) → length xs ≡ length ys → ((bit : ℕ) → IsSet xs bit → IsSet ys bit) → ((bit : ℕ) → IsSet ys bit → IsSet xs bit) → xs ≡ ys
same_bits [] [] e to from = refl
same_bits [] (y ∷ ys) e to from = absurd (omega (arith, e))
same_bits (x ∷ xs) [] e to from = absurd (omega (arith, e))
same_bits (true ∷ xs) (true ∷ ys) e to from = ap (λ zs. true ∷ zs) (same_bits xs ys (omega (arith, e)) (λ bit. to (suc bit)) (λ bit. from (suc bit)))
same_bits (true ∷ xs) (false ∷ ys) e to from = absurd (false≢true (same_Some false true (to 0 refl)))
same_bits (false ∷ xs) (true ∷ ys) e to from = absurd (false≢true (same_Some false true (from 0 refl)))
same_bits (false ∷ xs) (false ∷ ys) e to from = ap (λ zs. false ∷ zs) (same_bits xs ys (omega (arith, e)) (λ bit. to (suc bit)) (λ bit. from (suc bit)))

-- a bit that is set in the one is set in the other
set_in : (one other : PoolState) (place : ℕ) (was now : SuperblockState) → IsSound one → IsSound other → one.units ≡ other.units
    → slice_get one.superblocks place ≡ Some was → slice_get other.superblocks place ≡ Some now
    → ((class : ℕ) (block : BlockState) → IsOutIn one place class block → IsOutIn other place class block)
    → (bit : ℕ) → IsSet was.set bit → IsSet now.set bit
set_in one other place was now sound other_sound units there other_there same bit is_set =
    let block : BlockState = block_at one.units place was.class bit in
    let at : IsOutAt one block place bit was = record { there = there; is_set = is_set; block_is = refl } in
    let out : IsOutIn one place was.class block = record { bit = bit; superblock = was; at = at; class_is = refl } in
    let found = same was.class block out in
    let found_at = out_at other place was.class now block other_there found in
    let same_bit : found.bit ≡ bit =
    sym (bit_of other block place found.bit now other_sound found_at)
    ∙ ap (λ n. block.unit % n / block_units block.class) (sym units)
    ∙ bit_of one block place bit was sound at in
    subst (IsSet now.set) same_bit found_at.is_set

pub superblock_is_its_blocks : SuperblockIsItsBlocks
superblock_is_its_blocks one other place was now sound other_sound units there other_there classes evers same =
    let kept = sound.kept place was there in
    let other_kept = other_sound.kept place now other_there in
    let sets : was.set ≡ now.set = same_bits was.set now.set (kept.size ∙ units ∙ sym other_kept.size)
    (set_in one other place was now sound other_sound units there other_there (λ class block. (same class block).0))
    (set_in other one place now was other_sound sound (sym units) other_there there (λ class block. (same class block).1)) in
    let counts : was.count ≡ now.count = kept.counted ∙ ap set_count sets ∙ sym other_kept.counted in
    λ i. record { class = classes i; count = counts i; ever = evers i; set = sets i }

-- what is out of a pool is out of the superblock where it stands
out_in : (one other : PoolState) (place class : ℕ) (block : BlockState) → IsSound one → IsSound other → one.units ≡ other.units
    → (IsOut one block → IsOut other block) → IsOutIn one place class block → IsOutIn other place class block
out_in one other place class block sound other_sound units to out =
    let found = to (record { place = place; bit = out.bit; superblock = out.superblock; at = out.at }) in
    let same_place : found.place ≡ place =
    sym (place_of other block found.place found.bit found.superblock other_sound found.at)
    ∙ ap (λ n. block.unit / n) (sym units) ∙ place_of one block place out.bit out.superblock sound out.at in
    record {
      bit = found.bit;
      superblock = found.superblock;
      at = subst (λ p. IsOutAt other block p found.bit found.superblock) same_place found.at;
      class_is = out.class_is;
    }

-- two lists of one length, with the same at each place, are one list
same_lists : (xs ys : List SuperblockState) → length xs ≡ length ys
    → ((at : ℕ) (x y : SuperblockState) → slice_get xs at ≡ Some x → slice_get ys at ≡ Some y → x ≡ y) → xs ≡ ys
same_lists [] [] e same = refl
same_lists [] (y ∷ ys) e same = absurd (omega (arith, e))
same_lists (x ∷ xs) [] e same = absurd (omega (arith, e))
same_lists (x ∷ xs) (y ∷ ys) e same =
    let first = same 0 x y refl refl in
    let rest = same_lists xs ys (omega (arith, e)) (λ at. same (suc at)) in
    λ i. first i ∷ rest i

pub pool_is_its_blocks : PoolIsItsBlocks
pool_is_its_blocks one other sound other_sound units lengths numbers same =
    let superblocks = same_lists one.superblocks other.superblocks lengths
    (λ place was now there other_there.
    superblock_is_its_blocks one other place was now sound other_sound units there other_there
    (numbers place was now there other_there).0 (numbers place was now there other_there).1
    (λ class block. (
      out_in one other place class block sound other_sound units (same block).0,
      out_in other one place class block other_sound sound (sym units) (same block).1,
    ))) in
    λ i. record { units = units i; superblocks = superblocks i }
