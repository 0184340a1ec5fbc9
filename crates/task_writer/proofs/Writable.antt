-- Lines whose names are names and whose numbers fit, which may be written.
use Rattle.task_writer.proofs.Vocabulary.{◌≡◌, ◌≢◌, ℕ, ◌<◌, ◌≤◌, ◌^◌, Bool, true, ◌&&◌, nat_le, nat_lt, List, [], ◌∷◌, length, refl, ◌∙◌, ap, arith, decimal, IfSome, list_all, digits_value, leb-true, le-leb, lt-ltb, digits_decimal, digits_value-decimal, length-decimal-le, decimal_nonempty, IsDigitsTest, IsNumeralModel, numerals_by_value, is_digit, IsName, Variable, both, Term, Passed, RootTerm, What, SpellsNumber, Part, AName, ANewName, ATarget, ATerm, AFuture, KindVariables, MoreVariables, Arguments, RootArguments, Members, HeldFutures, SettledFutures, Predecessor, Of, Values, entry}

-- ---- what may be written

-- P holds of each member
abbrev pub AllOf : {A : Type 0} → (A → Type 0) → List A → Type 0
AllOf P [] = Unit {0}
AllOf P (a ∷ more) = P a × AllOf P more

abbrev pub IsWritableTerm : Term → Type 0
IsWritableTerm (Term.Literal n) = n < 2 ^ 64
IsWritableTerm (Term.Variable name) = IsName name

abbrev pub IsWritablePassed : Passed → Type 0
IsWritablePassed (Passed.Number t) = IsWritableTerm t
IsWritablePassed (Passed.Future name) = IsName name

abbrev pub IsWritableRootTerm : RootTerm → Type 0
IsWritableRootTerm (RootTerm.Number n) = n < 2 ^ 64
IsWritableRootTerm (RootTerm.Root name) = IsName name

abbrev pub IsWritableVariable : Variable → Type 0
IsWritableVariable v = IsName v.name

abbrev pub IsWritablePart : (part : Part) → Of part → Type 0
IsWritablePart AName name = IsName name
IsWritablePart (ANewName named) name = IsName name
IsWritablePart ATarget name = IsName name
IsWritablePart ATerm t = IsWritableTerm t
IsWritablePart AFuture name = IsName name
IsWritablePart KindVariables variables = AllOf IsWritableVariable variables
IsWritablePart MoreVariables variables = (variables ≢ []) × AllOf IsWritableVariable variables
IsWritablePart Arguments arguments = AllOf IsWritablePassed arguments
IsWritablePart RootArguments arguments = AllOf IsWritableRootTerm arguments
IsWritablePart Members members = (members ≢ []) × AllOf IsName members
IsWritablePart HeldFutures names = AllOf IsName names
IsWritablePart SettledFutures names = AllOf IsName names
IsWritablePart Predecessor behind = IfSome behind IsName
IsWritablePart part v = Unit {0}

abbrev pub AreWritable : (ps : List Part) → Values ps → Type 0
AreWritable [] vs = Unit {0}
AreWritable (part ∷ ps) vs = IsWritablePart part vs.0 × AreWritable ps vs.1

abbrev pub IsWritable : What → Type 0
IsWritable w = AreWritable (entry w).parts (entry w).values

-- ---- numbers

abbrev pub AreDigits : List ℕ → Type 0
AreDigits ds = list_all is_digit ds ≡ true

tells_is_digit : IsDigitsTest AreDigits
tells_is_digit = record {
  empty = refl;
  parts = λ c cs e. let k : (is_digit c ≡ true) × (list_all is_digit cs ≡ true) = both _ _ e in let m : (nat_le 48 c ≡ true) × (nat_le c 57 ≡ true) = both _ _ k.0 in ((leb-true 48 c m.0, leb-true c 57 m.1), k.1);
  more = λ c cs k e. ap (λ b. (b && nat_le c 57) && list_all is_digit cs) (le-leb 48 c k.0) ∙ (ap (λ b. b && list_all is_digit cs) (le-leb c 57 k.1) ∙ e);
}

own : IsNumeralModel AreDigits (digits_value 10)
own = numerals_by_value AreDigits tells_is_digit

pub decimal-digits : (n : ℕ) → n < 2 ^ 64 → list_all is_digit (decimal n) ≡ true
decimal-digits n h = digits_decimal own n h

pub decimal-value : (n : ℕ) → n < 2 ^ 64 → digits_value 10 (decimal n) ≡ n
decimal-value n h = digits_value-decimal own n h

pub decimal-begun : (n : ℕ) → n < 2 ^ 64 → 0 < length (decimal n)
decimal-begun n h = decimal_nonempty n h

decimal-short : (n : ℕ) → n < 2 ^ 64 → length (decimal n) ≤ 20
decimal-short n h = let w : n < 10 ^ 20 = omega (arith, h) in length-decimal-le 20 n (omega arith) w h

all-three : (a b c : Bool) → a ≡ true → b ≡ true → c ≡ true → (a && b && c) ≡ true
all-three a b c p q r = ap (λ x. x && b && c) p ∙ (ap (λ x. x && c) q ∙ r)

pub number-spelled : (n : ℕ) → n < 2 ^ 64 → SpellsNumber (decimal n) n
number-spelled n h =
    let len = length (decimal n) in (
      all-three _ _ _
          (ap (λ b. b && nat_le len 20) (le-leb 1 len (omega (arith, decimal-begun n h))) ∙ le-leb len 20 (decimal-short n h))
          (decimal-digits n h)
          (ap (λ v. nat_lt v (2 ^ 64)) (decimal-value n h) ∙ lt-ltb n (2 ^ 64) h),
      decimal-value n h,
    )
