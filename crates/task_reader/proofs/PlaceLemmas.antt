-- The place of a name in a list.
use Rattle.task_reader.proofs.Vocabulary.{◌≡◌, ◌≤◌, ℕ, suc, ◌+◌, Bool, true, false, cond, not, List, [], ◌∷◌, length, unwrap_or, refl, arith, position, position_or_len, nat_tests, place_where}

le-step : (b : Bool) (m n : ℕ) → m ≤ n → cond b 0 (m + 1) ≤ suc n
le-step true m n h = omega arith
le-step false m n h = omega arith

pub place_where-le : {A : Type 0} (test : A → Bool) (xs : List A) → place_where test xs ≤ length xs
place_where-le test [] = omega arith
place_where-le test (x ∷ xs) = le-step (test x) (place_where test xs) (length xs) (place_where-le test xs)

same-step : (b : Bool) (m n : ℕ) → m ≡ n → cond (not b) (1 + m) 0 ≡ cond b 0 (n + 1)
same-step true m n h = refl
same-step false m n h = omega arith

place_where-is : {A : Type 0} (test : A → Bool) (xs : List A) → position_or_len test xs ≡ place_where test xs
place_where-is test [] = refl
place_where-is test (x ∷ xs) = same-step (test x) (position_or_len test xs) (place_where test xs) (place_where-is test xs)

pub unwrap_or-position : {A : Type 0} (test : A → Bool) (xs : List A) → unwrap_or (position test xs) (length xs) ≡ place_where test xs
unwrap_or-position test xs = let e = place_where-is test xs in let b = place_where-le test xs in grind (arith, nat_tests)

pub ruleset place_lemmas = (place_where-le, unwrap_or-position)
