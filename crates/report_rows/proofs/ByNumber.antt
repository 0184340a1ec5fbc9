-- What a list has by number.
use Rattle.std.proofs.Common.{◌≡◌, ℕ, zero, suc, ◌-◌, ◌<◌, ◌≤◌, arith, List, [], ◌∷◌, length, Some, None, slice_get, ap}
use Rattle.std.proofs.lemmas.Option.{slice_get_within}
use Rattle.record_core.specs.Numbers.{by_number, HasTask}
use Rattle.record_core.specs.declared.rows.ActivationRow.{ActivationRow}

-- number n stands at place n - 1
pub by_place : {X : Type 0} (xs : List X) (n : ℕ) → 1 ≤ n → by_number xs n ≡ slice_get xs (n - 1)
by_place xs zero some = absurd (omega (arith, some))
by_place xs (suc n) some = let same : n ≡ suc n - 1 = omega arith in ap (slice_get xs) same

-- a number that has something is one of those of the list
pub number_within : {X : Type 0} (xs : List X) (n : ℕ) (x : X) → by_number xs n ≡ Some x → (1 ≤ n) × (n ≤ length xs)
number_within xs zero x is = cc
number_within xs (suc n) x is = let within = slice_get_within xs n x is in (omega arith, omega (arith, within))

place_filled : {X : Type 0} (xs : List X) (n : ℕ) → n < length xs → slice_get xs n ≡ None → ⊥
place_filled [] n within is = omega (arith, within)
place_filled (x ∷ xs) zero within is = cc
place_filled (x ∷ xs) (suc n) within is = place_filled xs n (omega (arith, within)) is

-- each number of the list has something
pub number_filled : {X : Type 0} (xs : List X) (n : ℕ) → 1 ≤ n → n ≤ length xs → by_number xs n ≡ None → ⊥
number_filled xs zero some within is = omega (arith, some)
number_filled xs (suc n) some within is = place_filled xs n (omega (arith, within)) is

-- each task has a row in a list that is as long
pub task_filled : {X : Type 0} (rows : List ActivationRow) (xs : List X) (t : ℕ) → length xs ≡ length rows → HasTask rows t → by_number xs t ≡ None → ⊥
task_filled rows xs t beside there is =
    let within = number_within rows t there.0 there.1 in
    number_filled xs t within.0 (omega (arith, beside, within)) is
