-- The blocks that are out of a superblock, and how many they are.
use Rattle.std.proofs.Common.{◌≡◌, ◌≢◌, ℕ, zero, suc, ◌+◌, ◌*◌, ◌≤◌, ◌==◌, true, false, List, [], ◌∷◌, Some, length, slice_get, refl, sym, ◌∙◌, ap, subst, ⊎_elim, eq-eqb, arith}
use Rattle.std.specs.Prelude.{Contains}
use Rattle.std.proofs.lemmas.Bool.{cases_eq, ne_eqb}
use Rattle.std.proofs.lemmas.Option.{same_Some, none-some, slice_get-get_or}
use Rattle.kt_words.specs.Capacity.{block_units}
use Rattle.pool_core.specs.Blocks.{BlockState, block_at}
use Rattle.pool_core.specs.Laws.{SuperblocksAreCounted}
use Rattle.pool_core.specs.Pool.{PoolState, AreAll, SoMany, IsOutAt, IsOutIn}
use Rattle.pool_core.specs.Superblocks.{SuperblockState}
use Rattle.pool_core.proofs.Counting.{Somewhere, blocks_of, length-blocks_of, bit_of_block, block_of_bit, Rising-blocks_of, Rising_once, Contains_somewhere}

-- the list without what stands at a place
abbrev without : {X : Type 0} → List X → ℕ → List X
without [] at = []
without (x ∷ xs) zero = xs
without (x ∷ xs) (suc at) = x ∷ without xs at

-- it is one shorter
length-without : {X : Type 0} (xs : List X) (at : ℕ) (x : X) → slice_get xs at ≡ Some x → length (without xs at) + 1 ≡ length xs
length-without [] at x there = absurd (none-some x there)
length-without (y ∷ xs) zero x there = omega arith
length-without (y ∷ xs) (suc at) x there = omega (arith, length-without xs at x there)

-- what stands elsewhere is still there
still_there : {X : Type 0} (xs : List X) (at k : ℕ) (x : X) → slice_get xs k ≡ Some x → k ≢ at → Somewhere (without xs at) x
still_there [] at k x there far = absurd (none-some x there)
still_there (y ∷ xs) zero zero x there far = absurd (far refl)
still_there (y ∷ xs) zero (suc k) x there far = (k, there)
still_there (y ∷ xs) (suc at) zero x there far = (0, there)
still_there (y ∷ xs) (suc at) (suc k) x there far =
    let rest = still_there xs at k x there (λ e. far (ap (λ n. suc n) e)) in (suc rest.0, rest.1)

-- what stands at two places stands at one
abbrev Once : {X : Type 0} → List X → Type 0
Once {X} xs = (i j : ℕ) (x : X) → slice_get xs i ≡ Some x → slice_get xs j ≡ Some x → i ≡ j

-- each of the one list is somewhere in the other
abbrev IsIn : {X : Type 0} → List X → List X → Type 0
IsIn {X} xs ys = (k : ℕ) (x : X) → slice_get xs k ≡ Some x → Somewhere ys x

-- what stands once each in one list, and somewhere in another, is at most as long
length-le : {X : Type 0} (xs ys : List X) → Once xs → IsIn xs ys → length xs ≤ length ys
length-le [] ys once within = omega arith
length-le {X} (x ∷ xs) ys once within =
    let here = within 0 x refl in
    omega (arith, length-le xs (without ys here.0) (λ i j y a b. omega (arith, once (suc i) (suc j) y a b)) (others here), length-without ys here.0 x here.1)
  where
    others : (here : Somewhere ys x) → IsIn xs (without ys here.0)
    others here k y there =
        let found = within (suc k) y there in
        still_there ys here.0 found.0 y found.1
        (λ e. let same : x ≡ y = same_Some x y (sym here.1 ∙ ap (slice_get ys) (sym e) ∙ found.1) in
        let clash : 0 ≡ suc k = once 0 (suc k) y (ap (λ z. Some z) same) there in absurd (omega (arith, clash)))

-- what a list contains stands somewhere in it
somewhere_of : {X : Type 0} (xs : List X) (x : X) → Contains xs x → Somewhere xs x
somewhere_of xs x (k, within, is) = (k, slice_get-get_or xs k x within ∙ ap (λ y. Some y) is)

-- of two lists of all blocks that have P, each is in the other
in_all : (P : BlockState → Type 0) (xs ys : List BlockState) → AreAll P xs → AreAll P ys → IsIn xs ys
in_all P xs ys all others k x there =
    somewhere_of ys x ((others.members x).1 ((all.members x).0 (Contains_somewhere xs x (k, there))))

-- and they are of one length
pub same_length : (P : BlockState → Type 0) (xs ys : List BlockState) → AreAll P xs → AreAll P ys → length xs ≡ length ys
same_length P xs ys all others =
    omega (arith, length-le xs ys all.once (in_all P xs ys all others), length-le ys xs others.once (in_all P ys xs others all))

-- one such list tells how many there are
so_many : (P : BlockState → Type 0) (blocks : List BlockState) (number : ℕ) → AreAll P blocks → length blocks ≡ number → SoMany P number
so_many P blocks number all e = record {
  blocks = blocks;
  all = all;
  length_is = λ listed others. same_length P listed blocks others all ∙ e;
}

-- what is out in a superblock that is there is out at one of its bits
pub out_at : (pool : PoolState) (place class : ℕ) (superblock : SuperblockState) (block : BlockState) → slice_get pool.superblocks place ≡ Some superblock
    → (out : IsOutIn pool place class block) → IsOutAt pool block place out.bit superblock
out_at pool place class superblock block there out =
    subst (IsOutAt pool block place out.bit) (same_Some out.superblock superblock (sym out.at.there ∙ there)) out.at

-- the blocks of a superblock, where it is of the class
all_of_class : (pool : PoolState) (place : ℕ) (superblock : SuperblockState) → slice_get pool.superblocks place ≡ Some superblock
    → AreAll (IsOutIn pool place superblock.class) (blocks_of pool.units place superblock.class 0 superblock.set)
all_of_class pool place superblock there = record {
  members = λ block. (to block, from block);
  once = λ i j block here other.
      Rising_once (place * pool.units + 0 * block_units superblock.class) (blocks_of pool.units place superblock.class 0 superblock.set) i j block
      (Rising-blocks_of pool.units place superblock.class 0 superblock.set) here other;
}
  where
    to : (block : BlockState) → Contains (blocks_of pool.units place superblock.class 0 superblock.set) block → IsOutIn pool place superblock.class block
    to block has =
        let found = somewhere_of (blocks_of pool.units place superblock.class 0 superblock.set) block has in
        let of_bit = bit_of_block pool.units place superblock.class 0 superblock.set found.0 block found.1 in
        let bit : 0 + of_bit.bit ≡ of_bit.bit = omega arith in
        let is_block : block ≡ block_at pool.units place superblock.class of_bit.bit = of_bit.block_is ∙ ap (block_at pool.units place superblock.class) bit in
        record {
          bit = of_bit.bit;
          superblock = superblock;
          at = record { there = there; is_set = of_bit.is_set; block_is = is_block };
          class_is = ap (λ (b : BlockState). b.class) is_block;
        }

    from : (block : BlockState) → IsOutIn pool place superblock.class block → Contains (blocks_of pool.units place superblock.class 0 superblock.set) block
    from block out =
        let at = out_at pool place superblock.class superblock block there out in
        let found = block_of_bit pool.units place superblock.class 0 superblock.set out.bit at.is_set in
        let bit : 0 + out.bit ≡ out.bit = omega arith in
        let is_block : block_at pool.units place superblock.class (0 + out.bit) ≡ block =
        ap (block_at pool.units place superblock.class) bit ∙ sym at.block_is in
        Contains_somewhere (blocks_of pool.units place superblock.class 0 superblock.set) block
        (subst (Somewhere (blocks_of pool.units place superblock.class 0 superblock.set)) is_block found)

-- none of another class is out
none_of_other : (pool : PoolState) (place class : ℕ) (superblock : SuperblockState) → slice_get pool.superblocks place ≡ Some superblock
    → superblock.class ≢ class → AreAll (IsOutIn pool place class) []
none_of_other pool place class superblock there other = record {
  members = λ block. (
    λ has. absurd (none-some block (somewhere_of [] block has).1),
    λ out.
        let at = out_at pool place class superblock block there out in
        absurd (other (sym (ap (λ (b : BlockState). b.class) at.block_is) ∙ out.class_is)),
  );
  once = λ i j block here there_too. absurd (none-some block here);
}

pub superblocks_are_counted : SuperblocksAreCounted
superblocks_are_counted pool place class superblock sound there =
    ⊎_elim
    (λ same. let test : (superblock.class == class) ≡ true = eq-eqb superblock.class class same in
    rw test (subst (λ c. SoMany (IsOutIn pool place c) superblock.count) same
    (so_many (IsOutIn pool place superblock.class) (blocks_of pool.units place superblock.class 0 superblock.set) superblock.count (all_of_class pool place superblock there)
    (length-blocks_of pool.units place superblock.class 0 superblock.set ∙ sym (sound.kept place superblock there).counted))))
    (λ other. let test : (superblock.class == class) ≡ false = ne_eqb superblock.class class other in
    rw test (so_many (IsOutIn pool place class) [] 0 (none_of_other pool place class superblock there other) refl))
    (cases_eq superblock.class class)
