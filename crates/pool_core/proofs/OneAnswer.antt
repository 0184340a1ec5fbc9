-- Only one block can be given.
use Rattle.std.proofs.Common.{◌≡◌, ℕ, ◌<◌, List, true, false, slice_get, sym, ◌∙◌, ap, inl, inr, ⊎_elim, arith}
use Rattle.std.proofs.lemmas.Bool.{cases_lt, false≢true}
use Rattle.std.proofs.lemmas.Option.{same_Some}
use Rattle.claim_core.specs.Claims.{IsLowestClear}
use Rattle.kt_words.specs.Capacity.{capacity}
use Rattle.pool_core.specs.Blocks.{BlockState, block_at}
use Rattle.pool_core.specs.Choice.{IsFirst, IsChosen}
use Rattle.pool_core.specs.Pool.{PoolState, Gives, with_superblock}
use Rattle.pool_core.specs.Superblocks.{SuperblockState, given}
use Rattle.pool_core.proofs.Giving.{there_of}

-- neither of two is before the other
same_of : (i j : ℕ) → (i < j → ⊥) → (j < i → ⊥) → i ≡ j
same_of i j not_before not_after = ⊎_elim (λ lt. absurd (not_before lt)) (λ le. ⊎_elim (λ lt. absurd (not_after lt)) (λ ge. omega arith) (cases_lt j i)) (cases_lt i j)

one_first : (P : SuperblockState → Type 0) (superblocks : List SuperblockState) (i j : ℕ) (one other : SuperblockState)
    → IsFirst P superblocks i one → IsFirst P superblocks j other → i ≡ j
one_first P superblocks i j one other first second =
    same_of i j (λ lt. second.2 i one lt first.0 first.1) (λ lt. first.2 j other lt second.0 second.1)

one_chosen : (class room : ℕ) (superblocks : List SuperblockState) (i j : ℕ) (one other : SuperblockState)
    → IsChosen class room superblocks i one → IsChosen class room superblocks j other → i ≡ j
one_chosen class room superblocks i j one other (inl first) (inl second) = one_first _ superblocks i j one other first second
one_chosen class room superblocks i j one other (inl first) (inr second) = absurd (second.0 i one first.0 first.1)
one_chosen class room superblocks i j one other (inr first) (inl second) = absurd (first.0 j other second.0 second.1)
one_chosen class room superblocks i j one other (inr first) (inr second) = one_first _ superblocks i j one other first.1 second.1

one_lowest : (one other : SuperblockState) (i j : ℕ) → one ≡ other → IsLowestClear one.set i → IsLowestClear other.set j → i ≡ j
one_lowest one other i j same first second =
    same_of i j
    (λ lt. false≢true (same_Some false true (sym first.clear ∙ ap (λ (s : SuperblockState). slice_get s.set i) same ∙ second.below i lt)))
    (λ lt. false≢true (same_Some false true (sym second.clear ∙ ap (λ (s : SuperblockState). slice_get s.set j) (sym same) ∙ first.below j lt)))

pub one_given : (old : PoolState) (class : ℕ) (block other : BlockState) (new newer : PoolState)
    → Gives old class block new → Gives old class other newer → (block ≡ other) × (new ≡ newer)
one_given old class block other new newer first second =
    let place : first.place ≡ second.place = one_chosen class (capacity old.units class) old.superblocks first.place second.place first.was second.was first.chosen second.chosen in
    let was : first.was ≡ second.was =
    same_Some first.was second.was (sym (there_of class (capacity old.units class) first.place old.superblocks first.was first.chosen)
    ∙ ap (slice_get old.superblocks) place ∙ there_of class (capacity old.units class) second.place old.superblocks second.was second.chosen) in
    let bit : first.bit ≡ second.bit = one_lowest first.was second.was first.bit second.bit was first.lowest second.lowest in (
      first.block_is ∙ ap (λ p. block_at old.units p class first.bit) place ∙ ap (block_at old.units second.place class) bit ∙ sym second.block_is,
      first.after ∙ ap (λ p. with_superblock old p (given first.was class first.bit)) place
          ∙ ap (λ s. with_superblock old second.place (given s class first.bit)) was
          ∙ ap (λ b. with_superblock old second.place (given second.was class b)) bit ∙ sym second.after,
    )
