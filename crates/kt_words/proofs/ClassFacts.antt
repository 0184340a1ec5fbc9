-- The class that holds so many words.
use Rattle.std.proofs.Common.{ℕ, zero, suc, ◌≤◌, ◌<◌, inl, inr, arith}
use Rattle.std.proofs.lemmas.Bool.{le-leb, lt-leb, cases_lt}
use Rattle.kt_words.specs.Capacity.{block_words, IsLeastClass}
use Rattle.kt_words.specs.ClassLaws.{ClassIsLeast}

-- more than 8 words need class 1 at least
at_least_one : (words other : ℕ) → 8 < words → words ≤ block_words other → 1 ≤ other
at_least_one words zero above fits = absurd (omega arith)
at_least_one words (suc k) above fits = omega arith

-- more than 16 words need class 2 at least
at_least_two : (words other : ℕ) → 16 < words → words ≤ block_words other → 2 ≤ other
at_least_two words zero above fits = absurd (omega arith)
at_least_two words (suc zero) above fits = absurd (omega arith)
at_least_two words (suc (suc k)) above fits = omega arith

-- more than 32 words need class 3 at least
at_least_three : (words other : ℕ) → 32 < words → words ≤ block_words other → 3 ≤ other
at_least_three words zero above fits = absurd (omega arith)
at_least_three words (suc zero) above fits = absurd (omega arith)
at_least_three words (suc (suc zero)) above fits = absurd (omega arith)
at_least_three words (suc (suc (suc k))) above fits = omega arith

pub least_is_zero : (words : ℕ) → words ≤ 8 → IsLeastClass words 0
least_is_zero words fits = (fits, λ other _. omega arith)

pub least_is_one : (words : ℕ) → 8 < words → words ≤ 16 → IsLeastClass words 1
least_is_one words above fits = (fits, λ other. at_least_one words other above)

pub least_is_two : (words : ℕ) → 16 < words → words ≤ 32 → IsLeastClass words 2
least_is_two words above fits = (fits, λ other. at_least_two words other above)

pub least_is_three : (words : ℕ) → 32 < words → words ≤ 64 → IsLeastClass words 3
least_is_three words above fits = (fits, λ other. at_least_three words other above)

pub class_is_least : ClassIsLeast
class_is_least words fits = elim (cases_lt 8 words) [
  | inr low ↦ rw (le-leb words 8 low) (least_is_zero words low)
  | inl above ↦ rw (lt-leb words 8 above) (
      elim (cases_lt 16 words) [
        | inr low ↦ rw (le-leb words 16 low) (least_is_one words above low)
        | inl above ↦ rw (lt-leb words 16 above) (
            elim (cases_lt 32 words) [
              | inr low ↦ rw (le-leb words 32 low) (least_is_two words above low)
              | inl above ↦ rw (lt-leb words 32 above) (least_is_three words above fits)
            ])
      ])
]
