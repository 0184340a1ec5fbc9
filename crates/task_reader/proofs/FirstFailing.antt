-- What is answered where the members of a list are tested one after the other.
use Rattle.task_reader.proofs.Vocabulary.{◌≡◌, ◌<◌, ℕ, zero, suc, ◌+◌, Bool, true, false, cond, Some, List, [], ◌∷◌, slice_get, Result, Ok, Err, refl, sym, ◌∙◌, ap, subst, arith, some-same, NotText, UnknownName, Fault, fault_at, is_text, check_words, Known, is_given, known, uses_known, FailsFirst}
use Rattle.task_text.specs.Fault.{◌>>◌}

-- each member passes the test
abbrev pub AllPassAt : {A : Type 0} → (A → Bool) → List A → Type 0
AllPassAt {A} test xs = (place : ℕ) (x : A) → slice_get xs place ≡ Some x → test x ≡ true

-- the first that fails is told with its number
pub record Tests {A : Type 0} (test : A → Bool) (fault_of : ℕ → Fault) (answer : ℕ → List A → Result (Unit {0}) Fault) : Type 0 where
  pub none : (n : ℕ) → answer n [] ≡ Ok tt
  pub passed : (n : ℕ) (x : A) (xs : List A) → test x ≡ true → answer n (x ∷ xs) ≡ answer (n + 1) xs
  pub failed : (n : ℕ) (x : A) (xs : List A) → test x ≡ false → answer n (x ∷ xs) ≡ Err (fault_of n)

-- what an answer says of the list
abbrev pub Told : {A : Type 0} → (A → Bool) → (ℕ → Fault) → ℕ → List A → Result (Unit {0}) Fault → Type 0
Told test fault_of n xs (Ok u) = AllPassAt test xs
Told test fault_of n xs (Err fault) = (place : ℕ) × (fault ≡ fault_of (n + place)) × FailsFirst test xs place

told-later : {A : Type 0} (test : A → Bool) (fault_of : ℕ → Fault) (n : ℕ) (x : A) (xs : List A) → test x ≡ true → (o : Result (Unit {0}) Fault)
    → Told test fault_of (n + 1) xs o → Told test fault_of n (x ∷ xs) o
told-later test fault_of n x xs pass (Ok u) all = by where
  by : AllPassAt test (x ∷ xs)
  by zero y e = ap test (sym (some-same x y e)) ∙ pass
  by (suc place) y e = all place y e
told-later test fault_of n x xs pass (Err fault) t =
    let z : (n + 1) + t.0 ≡ n + suc t.0 = omega arith in
    (suc t.0, t.1 ∙ ap fault_of z, record { found = t.2.found; stands = t.2.stands; here = t.2.here; none_before = before }) where
      before : (earlier : ℕ) (y : _) → earlier < suc t.0 → slice_get (x ∷ xs) earlier ≡ Some y → test y ≡ true
      before zero y l e = ap test (sym (some-same x y e)) ∙ pass
      before (suc earlier) y l e = t.2.none_before earlier y (omega (arith, l)) e

-- the answer is so
pub answer-told : {A : Type 0} (test : A → Bool) (fault_of : ℕ → Fault) (answer : ℕ → List A → Result (Unit {0}) Fault) → Tests test fault_of answer
    → (n : ℕ) (xs : List A) → Told test fault_of n xs (answer n xs)
answer-told {A} test fault_of answer is n [] = subst (Told test fault_of n []) (sym (is.none n)) none where
  none : AllPassAt {A = A} test []
  none place x e = cc
answer-told test fault_of answer is n (x ∷ xs) = by (test x) refl (answer-told test fault_of answer is (n + 1) xs) where
  by : (b : Bool) → test x ≡ b → Told test fault_of (n + 1) xs (answer (n + 1) xs) → Told test fault_of n (x ∷ xs) (answer n (x ∷ xs))
  by true t later = subst (Told test fault_of n (x ∷ xs)) (sym (is.passed n x xs t)) (told-later test fault_of n x xs t (answer (n + 1) xs) later)
  by false t later =
      let z : n ≡ n + 0 = omega arith in
      subst (Told test fault_of n (x ∷ xs)) (sym (is.failed n x xs t))
      (0, ap fault_of z, record { found = x; stands = refl; here = t; none_before = λ earlier y l e. absurd (omega (arith, l)) })

-- the first that fails is told
pub first-answered : {A : Type 0} (test : A → Bool) (fault_of : ℕ → Fault) (answer : ℕ → List A → Result (Unit {0}) Fault) → Tests test fault_of answer
    → (n : ℕ) (xs : List A) (place : ℕ) → FailsFirst test xs place → answer n xs ≡ Err (fault_of (n + place))
first-answered test fault_of answer is n [] place f = let c = f.stands in cc
first-answered test fault_of answer is n (x ∷ xs) zero f =
    let z : n ≡ n + 0 = omega arith in is.failed n x xs (ap test (some-same x f.found f.stands) ∙ f.here) ∙ ap (λ m. Err (fault_of m)) z
first-answered test fault_of answer is n (x ∷ xs) (suc place) f =
    let z : (n + 1) + place ≡ n + suc place = omega arith in
    is.passed n x xs (f.none_before zero x (omega arith) refl)
    ∙ (first-answered test fault_of answer is (n + 1) xs place
    (record { found = f.found; stands = f.stands; here = f.here; none_before = λ earlier y l e. f.none_before (suc earlier) y (omega (arith, l)) e })
    ∙ ap (λ m. Err (fault_of m)) z)

-- and where each passes, none
pub all-answered : {A : Type 0} (test : A → Bool) (fault_of : ℕ → Fault) (answer : ℕ → List A → Result (Unit {0}) Fault) → Tests test fault_of answer
    → (n : ℕ) (xs : List A) → AllPassAt test xs → answer n xs ≡ Ok tt
all-answered test fault_of answer is n [] all = is.none n
all-answered test fault_of answer is n (x ∷ xs) all =
    is.passed n x xs (all zero x refl) ∙ all-answered test fault_of answer is (n + 1) xs (λ place y e. all (suc place) y e)

-- the bytes of the words of a row are tested so
abbrev pub no_text : ℕ → ℕ → Fault
no_text line n = fault_at NotText line n

pub text-tests : (line : ℕ) → Tests is_text (no_text line) (check_words line)
unfolding check_words
text-tests line = record {
  none = λ n. refl;
  passed = λ n word words t. ap (λ b. cond {A = Result (Unit {0}) Fault} b (check_words line (n + 1) words) (Err (no_text line n))) t;
  failed = λ n word words t. ap (λ b. cond {A = Result (Unit {0}) Fault} b (check_words line (n + 1) words) (Err (no_text line n))) t;
}

-- and so are the names that a line uses
abbrev pub unknown_word : ℕ → ℕ → Fault
unknown_word line n = fault_at UnknownName line n

pub uses-tests : (k : Known) (line : ℕ) → Tests (is_given k) (unknown_word line) (uses_known k line)
unfolding uses_known
uses-tests k line = record {
  none = λ n. refl;
  passed = λ n first uses t. ap (λ b. known line n b >> uses_known k line (n + 1) uses) t;
  failed = λ n first uses t. ap (λ b. known line n b >> uses_known k line (n + 1) uses) t;
}
