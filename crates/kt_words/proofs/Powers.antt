-- The powers of two from 8 to 512.
use Rattle.std.proofs.Common.{◌≡◌, ◌↔◌, ◌∙◌, ℕ, zero, suc, Bool, true, ◌==◌, ◌||◌, ◌&&◌, nat_le, ◌^◌, ◌*◌, ◌≤◌, inl, inr, arith, refl, sym, lit<}
use Rattle.std.proofs.Math.Nat.{pow-le-pow_right}
use Rattle.std.proofs.lemmas.Bool.{or_cases, and_from, eqb-true, le-leb, agree_below_at}
use Rattle.std.proofs.Math.Logic.{∥∥₁_elim}
use Rattle.std.proofs.Props.{props}
use Rattle.std.specs.Int.Count.{ones}
use Rattle.std.specs.Int.{IsPowerOfTwo, is_power_of_two}
use Rattle.kt_words.specs.Ranges.{HasUnits, IsUnitCount}
use Rattle.kt_words.specs.Capacity.{capacity, block_units}

unit_count_of : (exponent units : ℕ) → units ≡ 2 ^ exponent → 8 ≤ units → units ≤ 512 → IsUnitCount units
unit_count_of zero units e low high = absurd (omega arith)
unit_count_of (suc zero) units e low high = absurd (omega arith)
unit_count_of (suc (suc zero)) units e low high = absurd (omega arith)
unit_count_of (suc (suc (suc zero))) units e low high = inl e
unit_count_of (suc (suc (suc (suc zero)))) units e low high = inr (inl e)
unit_count_of (suc (suc (suc (suc (suc zero))))) units e low high = inr (inr (inl e))
unit_count_of (suc (suc (suc (suc (suc (suc zero)))))) units e low high = inr (inr (inr (inl e)))
unit_count_of (suc (suc (suc (suc (suc (suc (suc zero))))))) units e low high = inr (inr (inr (inr (inl e))))
unit_count_of (suc (suc (suc (suc (suc (suc (suc (suc zero)))))))) units e low high = inr (inr (inr (inr (inr (inl e)))))
unit_count_of (suc (suc (suc (suc (suc (suc (suc (suc (suc zero))))))))) units e low high = inr (inr (inr (inr (inr (inr e)))))
unit_count_of (suc (suc (suc (suc (suc (suc (suc (suc (suc (suc k)))))))))) units e low high =
    let more : 10 ≤ suc (suc (suc (suc (suc (suc (suc (suc (suc (suc k))))))))) = omega arith in
    let big : 2 ^ 10 ≤ 2 ^ suc (suc (suc (suc (suc (suc (suc (suc (suc (suc k))))))))) = pow-le-pow_right (lit< tt) more in
    absurd (omega (arith, big, e, high))

-- a power of two from 8 to 512 is one of the seven
pub unit_count : (units : ℕ) → HasUnits units → IsUnitCount units
unit_count units (low, high, power) = unit_count_of power.0 units power.1 low high

-- and each of the seven is one
power_of_unit_count : (units : ℕ) → IsUnitCount units → IsPowerOfTwo units
power_of_unit_count units (inl e) = (3, e)
power_of_unit_count units (inr (inl e)) = (4, e)
power_of_unit_count units (inr (inr (inl e))) = (5, e)
power_of_unit_count units (inr (inr (inr (inl e)))) = (6, e)
power_of_unit_count units (inr (inr (inr (inr (inl e))))) = (7, e)
power_of_unit_count units (inr (inr (inr (inr (inr (inl e)))))) = (8, e)
power_of_unit_count units (inr (inr (inr (inr (inr (inr e)))))) = (9, e)

passes_of_unit_count : (units : ℕ) → IsUnitCount units → is_power_of_two units ≡ true
unfolding ones
passes_of_unit_count units (inl e) = rw e refl
passes_of_unit_count units (inr (inl e)) = rw e refl
passes_of_unit_count units (inr (inr (inl e))) = rw e refl
passes_of_unit_count units (inr (inr (inr (inl e)))) = rw e refl
passes_of_unit_count units (inr (inr (inr (inr (inl e))))) = rw e refl
passes_of_unit_count units (inr (inr (inr (inr (inr (inl e)))))) = rw e refl
passes_of_unit_count units (inr (inr (inr (inr (inr (inr e)))))) = rw e refl

pub passes_of_power : (units : ℕ) → HasUnits units → is_power_of_two units ≡ true
passes_of_power units h = passes_of_unit_count units (unit_count units h)

-- the seven by a test
abbrev is_unit_count : ℕ → Bool
is_unit_count n = n == 8 || (n == 16 || (n == 32 || (n == 64 || (n == 128 || (n == 256 || n == 512)))))

by_test : (n : ℕ) → is_unit_count n ≡ true → IsUnitCount n
by_test n e = elim (or_cases (n == 8) _ e) [
  | inl is ↦ inl (eqb-true n 8 is)
  | inr later ↦ inr (
      elim (or_cases (n == 16) _ later) [
        | inl is ↦ inl (eqb-true n 16 is)
        | inr later ↦ inr (
            elim (or_cases (n == 32) _ later) [
              | inl is ↦ inl (eqb-true n 32 is)
              | inr later ↦ inr (
                  elim (or_cases (n == 64) _ later) [
                    | inl is ↦ inl (eqb-true n 64 is)
                    | inr later ↦ inr (
                        elim (or_cases (n == 128) _ later) [
                          | inl is ↦ inl (eqb-true n 128 is)
                          | inr later ↦ inr (
                              elim (or_cases (n == 256) _ later) [ inl is ↦ inl (eqb-true n 256 is) | inr later ↦ inr (eqb-true n 512 later) ])
                        ])
                  ])
            ])
      ])
]

passes_as_unit_count : (units : ℕ) → IsUnitCount units → is_unit_count units ≡ true
passes_as_unit_count units (inl e) = rw e refl
passes_as_unit_count units (inr (inl e)) = rw e refl
passes_as_unit_count units (inr (inr (inl e))) = rw e refl
passes_as_unit_count units (inr (inr (inr (inl e)))) = rw e refl
passes_as_unit_count units (inr (inr (inr (inr (inl e))))) = rw e refl
passes_as_unit_count units (inr (inr (inr (inr (inr (inl e)))))) = rw e refl
passes_as_unit_count units (inr (inr (inr (inr (inr (inr e)))))) = rw e refl

-- below 513, the numbers from 8 on with one bit set are the seven
abbrev is_large_power : ℕ → Bool
is_large_power n = nat_le 8 n && is_power_of_two n

pub power_of_passes : (units : ℕ) → 8 ≤ units → units ≤ 512 → is_power_of_two units ≡ true → IsPowerOfTwo units
unfolding ones
power_of_passes units low high passes =
    let same : is_large_power units ≡ is_unit_count units = agree_below_at is_large_power is_unit_count 513 units refl (omega arith) in
    let large : is_large_power units ≡ true = and_from (nat_le 8 units) (is_power_of_two units) (le-leb 8 units low) passes in
    power_of_unit_count units (by_test units (sym same ∙ large))

-- blocks of a class up to 3 fill a superblock, with none left over
capacity_at : (units class : ℕ) → IsUnitCount units → class ≤ 3 → (capacity units class * block_units class ≡ units) × (1 ≤ capacity units class) × (capacity units class ≤ 512)
capacity_at units zero h e = omega (arith, h)
capacity_at units (suc zero) h e = omega (arith, h)
capacity_at units (suc (suc zero)) h e = omega (arith, h)
capacity_at units (suc (suc (suc zero))) h e = omega (arith, h)
capacity_at units (suc (suc (suc (suc k)))) h e = absurd (omega arith)

pub capacity_fills : (units class : ℕ) → (8 ≤ units) × (units ≤ 512) → ∥ IsPowerOfTwo units ∥₁ → class ≤ 3 → (capacity units class * block_units class ≡ units) × (1 ≤ capacity units class) × (capacity units class ≤ 512)
capacity_fills units class fits power e = ∥∥₁_elim power (hlevel props) (λ p. capacity_at units class (unit_count units (fits.0, fits.1, p)) e)

pub passes_at_units : (units : ℕ) (passes : Bool) → 8 ≤ units → units ≤ 512 → passes ≡ is_power_of_two units → (passes ≡ true) ↔ HasUnits units
passes_at_units units passes low high e = (
  λ yes. (low, high, power_of_passes units low high (sym e ∙ yes)),
  λ has. e ∙ passes_of_power units has,
)

-- also where only that there is an exponent is known, since the test tells which of the seven it is
pub unit_count_merely : (units : ℕ) → (8 ≤ units) × (units ≤ 512) → ∥ IsPowerOfTwo units ∥₁ → IsUnitCount units
unit_count_merely units fits power = by_test units (∥∥₁_elim power (hlevel props) (λ p. passes_as_unit_count units (unit_count units (fits.0, fits.1, p))))
