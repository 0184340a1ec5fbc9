-- References are given up by their units, one after the other.
use Rattle.std.proofs.Common.{◌≡◌, ◌∙◌, ℕ, zero, suc, ◌+◌, ◌<◌, List, [], ◌∷◌, length, drop, sym, ap, arith}
use Rattle.std.specs.Prelude.{slice_index}

-- the units of a list from a place on begin with the one there
pub unit-first : (units : List ℕ) (n u : ℕ) → n < length units → u ≡ slice_index units n → drop n units ≡ u ∷ drop (n + 1) units
unit-first [] n u low is = absurd (omega (arith, low))
unit-first (x ∷ units) zero u low is = ap (λ (w : ℕ). w ∷ units) (sym is)
unit-first (x ∷ units) (suc n) u low is =
    let on : suc (n + 1) ≡ suc n + 1 = omega arith in
    unit-first units n u (omega (arith, low)) is ∙ ap (λ (m : ℕ). u ∷ drop m (x ∷ units)) on
