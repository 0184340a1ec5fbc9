-- How many blocks of a class are out, superblock by superblock.
use Rattle.std.proofs.Common.{◌≡◌, ℕ, zero, suc, ◌+◌, ◌<◌, Some, List, [], ◌∷◌, length, take, slice_get, refl, sym, ap, subst, ◌∙◌, IfSome, ⊎_elim, true, cond, nat_eq, arith}
use Rattle.std.proofs.lemmas.Option.{none-some, same_Some}
use Rattle.std.proofs.lemmas.Bool.{ne_eqb}
use Rattle.std.proofs.lemmas.Bool.Decides.{eqb_tells}
use Rattle.record_core.specs.Sums.{total}
use Rattle.pool_core.specs.Superblocks.{SuperblockState}
use Rattle.pool_core.specs.Pool.{PoolState}
use Rattle.plain_records.specs.Allocated.{out_before}

-- equal numbers pass the test
same_eq : (a b : ℕ) → a ≡ b → nat_eq a b ≡ true
same_eq a b same = ⊎_elim (λ yes. yes.0) (λ no. absurd (no.1 same)) (eqb_tells a b)

-- one more member of a sum
pub total_next : (f : SuperblockState → ℕ) (xs : List SuperblockState) (at : ℕ) (x : SuperblockState) → slice_get xs at ≡ Some x → total f (take (at + 1) xs) ≡ total f (take at xs) + f x
total_next f [] at x there = absurd (none-some x there)
total_next f (y ∷ xs) zero x there = omega (arith, ap f (same_Some y x there))
total_next f (y ∷ xs) (suc at) x there = let e : suc at + 1 ≡ suc (at + 1) = omega arith in rw e (omega (arith, total_next f xs at x there))

-- all of them
pub take_all : {A : Type 0} (xs : List A) → take (length xs) xs ≡ xs
take_all [] = refl
take_all (x ∷ xs) = ap (λ ys. x ∷ ys) (take_all xs)

-- a member at each place within
there_at : {A : Type 0} (xs : List A) (at : ℕ) → at < length xs → (x : A) × (slice_get xs at ≡ Some x)
there_at [] at lt = absurd (omega (arith, lt))
there_at (x ∷ xs) zero lt = (x, refl)
there_at (x ∷ xs) (suc at) lt = there_at xs at (omega (arith, lt))

-- what holds of the member there
of_there : {A : Type 0} (P : A → Type 0) (xs : List A) (at : ℕ) (x : A) → slice_get xs at ≡ Some x → IfSome (slice_get xs at) P → P x
of_there P xs at x there holds = subst (λ o. IfSome o P) there holds

-- a superblock of the class adds its count, another one nothing
pub counted_here : (pool : PoolState) (class place of_place count : ℕ) → place < length pool.superblocks
    → IfSome (slice_get pool.superblocks place) (λ (s : SuperblockState). of_place ≡ s.class) → of_place ≡ class
    → IfSome (slice_get pool.superblocks place) (λ (s : SuperblockState). count ≡ s.count) → out_before pool class (place + 1) ≡ out_before pool class place + count
counted_here pool class place of_place count lt is_class same is_count =
    let (s, there) = there_at pool.superblocks place lt in
    let of_class : s.class ≡ class = sym (of_there (λ (s : SuperblockState). of_place ≡ s.class) pool.superblocks place s there is_class) ∙ same in
    let one : cond (nat_eq s.class class) s.count 0 ≡ s.count = rw (same_eq s.class class of_class) refl in
    omega (arith, total_next (λ (s : SuperblockState). cond (nat_eq s.class class) s.count 0) pool.superblocks place s there, one, of_there (λ (s : SuperblockState). count ≡ s.count) pool.superblocks place s there is_count)

pub not_counted_here : (pool : PoolState) (class place of_place : ℕ) → place < length pool.superblocks
    → IfSome (slice_get pool.superblocks place) (λ (s : SuperblockState). of_place ≡ s.class) → ¬ (of_place ≡ class) → out_before pool class (place + 1) ≡ out_before pool class place + 0
not_counted_here pool class place of_place lt is_class differ =
    let (s, there) = there_at pool.superblocks place lt in
    let other : ¬ (s.class ≡ class) = λ same. differ (of_there (λ (s : SuperblockState). of_place ≡ s.class) pool.superblocks place s there is_class ∙ same) in
    let none : cond (nat_eq s.class class) s.count 0 ≡ 0 = rw (ne_eqb s.class class other) refl in
    omega (arith, total_next (λ (s : SuperblockState). cond (nat_eq s.class class) s.count 0) pool.superblocks place s there, none)
