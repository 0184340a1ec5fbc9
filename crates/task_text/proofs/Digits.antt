-- The value of digits that are read one by one.
use Rattle.std.proofs.Common.{◌≡◌, ℕ, ◌+◌, ◌-◌, ◌*◌, ◌^◌, ◌<◌, ◌≤◌, Bool, true, false, List, get_or, take, length, refl, sym, ◌∙◌, add-one, arith}
use Rattle.std.proofs.Math.Nat.{pow-suc, pow-le-pow_right}
use Rattle.std.proofs.lemmas.Bool.{leb-true}
use Rattle.std.proofs.lemmas.List.Folds.{list_all_at}
use Rattle.std.proofs.lemmas.Str.{digit_value_digit}
use Rattle.std.proofs.lemmas.Int.Digits.{digits_value_more}
use Rattle.std.specs.List.{list_all}
use Rattle.std.specs.Str.Parse.{digits_value}
use Rattle.task_syntax.specs.Names.{is_digit}
use Rattle.task_syntax.proofs.Bools.{both}

pub digit-at : (ds : List ℕ) (i : ℕ) → list_all is_digit ds ≡ true → i < length ds → (48 ≤ get_or ds i 0) × (get_or ds i 0 ≤ 57)
digit-at ds i h l = by (is_digit (get_or ds i 0)) refl where
  by : (t : Bool) → is_digit (get_or ds i 0) ≡ t → (48 ≤ get_or ds i 0) × (get_or ds i 0 ≤ 57)
  by true e = let b : (_ ≡ true) × (_ ≡ true) = both _ _ e in (leb-true _ _ b.0, leb-true _ _ b.1)
  by false e = let c : true ≡ false = sym h ∙ list_all_at is_digit ds i 0 l e in cc

-- one more digit
pub digits-more : (ds : List ℕ) (i v : ℕ) → list_all is_digit ds ≡ true → i < length ds → v ≡ digits_value 10 (take i ds) → 10 * v + (get_or ds i 0 - 48) ≡ digits_value 10 (take (i + 1) ds)
digits-more ds i v h l e = let b = digit-at ds i h l in let d = digit_value_digit (get_or ds i 0) b in let m = digits_value_more 10 ds i l in omega (arith, d, m, e)

-- i digits write less than 10 ^ i
pub pow-more : (i v d : ℕ) → v < 10 ^ i → d ≤ 9 → 10 * v + d < 10 ^ (i + 1)
pow-more i v d h k = let p = pow-suc 10 i in rw add-one (omega (arith, p, h, k))

pub pow-short : (i v : ℕ) → v < 10 ^ i → i < 20 → v < 10 ^ 20
pow-short i v h k = let p : 10 ^ i ≤ 10 ^ 20 = pow-le-pow_right {n = 10} (omega arith) {i = i} {j = 20} (omega (arith, k)) in omega (arith, h, p)

pub ruleset digits = (digit-at, digits-more, pow-more, pow-short)
