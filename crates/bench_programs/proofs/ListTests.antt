-- Tests on lists, which a proof runs.
use Rattle.std.proofs.Common.{◌≡◌, ℕ, zero, suc, ◌+◌, Bool, true, false, not, ◌&&◌, Some, List, [], ◌∷◌, slice_get, refl, sym, ◌∙◌, ap, arith, ◌||◌}
use Rattle.std.specs.List.{list_all, list_any}
use Rattle.task_syntax.specs.Names.{same_bytes}
use Rattle.task_syntax.specs.Places.{EachAt, Each, AllDiffer}
use Rattle.task_syntax.proofs.Bools.{both, or_right, list_all-at}
use Rattle.task_syntax.proofs.Differ.{differ-nil, differ-cons}
use Rattle.std.proofs.lemmas.Bool.{eq-eqb}

-- each member passes the test at its place, where the first has the place `at`
abbrev pub all_from : {X : Type 0} → (ℕ → X → Bool) → ℕ → List X → Bool
all_from test at [] = true
all_from test at (x ∷ xs) = test at x && all_from test (at + 1) xs

-- a member at a place passes the test there, counted from the first place
from-at : {X : Type 0} (test : ℕ → X → Bool) (first : ℕ) (xs : List X) (at : ℕ) (x : X)
    → all_from test first xs ≡ true → slice_get xs at ≡ Some x → test (first + at) x ≡ true
from-at test first [] at x h e = cc
from-at test first (y ∷ ys) zero x h e = let b : (test first y ≡ true) × (all_from test (first + 1) ys ≡ true) = both _ _ h in
    let same : x ≡ y = cc in
    let place : first + 0 ≡ first = omega arith in
    ap (λ z. test z x) place ∙ (ap (λ z. test first z) same ∙ b.0)
from-at test first (y ∷ ys) (suc at) x h e = let b : (test first y ≡ true) × (all_from test (first + 1) ys ≡ true) = both _ _ h in
    let place : first + suc at ≡ first + 1 + at = omega arith in
    ap (λ z. test z x) place ∙ from-at test (first + 1) ys at x b.1 e

-- what passes a test has P at each place
pub each-at-from : {X : Type 0} (test : ℕ → X → Bool) (P : ℕ → X → Type 0) (xs : List X) → ((at : ℕ) (x : X) → test at x ≡ true → P at x)
    → all_from test 0 xs ≡ true → EachAt xs P
each-at-from test P xs sound h at x e = let place : 0 + at ≡ at = omega arith in
    sound at x (ap (λ z. test z x) (sym place) ∙ from-at test 0 xs at x h e)

-- what passes a test is P, member by member
pub each-from : {X : Type 0} (test : X → Bool) (P : X → Type 0) (xs : List X) → ((x : X) → test x ≡ true → P x) → list_all test xs ≡ true → Each xs P
each-from test P xs sound h at x e = sound x (list_all-at test xs at x h e)

-- no member is the same as a later one
abbrev pub all_differ : {X : Type 0} → (X → X → Bool) → List X → Bool
all_differ same [] = true
all_differ same (x ∷ xs) = not (list_any (same x) xs) && all_differ same xs

-- where a member passes a test, some member does
passes-any : {X : Type 0} (test : X → Bool) (xs : List X) (at : ℕ) (x : X) → slice_get xs at ≡ Some x → test x ≡ true → list_any test xs ≡ true
passes-any test [] at x e h = cc
passes-any test (y ∷ ys) zero x e h = let same : y ≡ x = cc in
    ap (λ z. test z || list_any test ys) same ∙ ap (λ b. b || list_any test ys) h
passes-any test (y ∷ ys) (suc at) x e h = or_right (test y) (list_any test ys) (passes-any test ys at x e h)

-- where no member is the same as a later one, all differ
pub differ-from : {X : Type 0} (same : X → X → Bool) → ((x : X) → same x x ≡ true) → (xs : List X) → all_differ same xs ≡ true → AllDiffer xs
differ-from same whole [] h = differ-nil
differ-from same whole (x ∷ xs) h = let b : (not (list_any (same x) xs) ≡ true) × (all_differ same xs ≡ true) = both _ _ h in
    differ-cons x xs (λ at e. let any = passes-any (same x) xs at x e (whole x) in cc) (differ-from same whole xs b.1)

-- a name is the same as itself
pub same_bytes-whole : (bytes : List ℕ) → same_bytes bytes bytes ≡ true
same_bytes-whole [] = refl
same_bytes-whole (byte ∷ bytes) = ap (λ b. b && same_bytes bytes bytes) (eq-eqb byte byte refl) ∙ same_bytes-whole bytes

-- all of these tests are passed, and then the one at a place is
abbrev pub all_passed : List Bool → Bool
all_passed tests = list_all (λ passed. passed) tests

pub passed-at : (tests : List Bool) (at : ℕ) (passed : Bool) → all_passed tests ≡ true → slice_get tests at ≡ Some passed → passed ≡ true
passed-at tests at passed h e = list_all-at (λ passed. passed) tests at passed h e

-- where some member passes a test, there is a place of one that does
pub any-at : {X : Type 0} (test : X → Bool) (xs : List X) → list_any test xs ≡ true → (at : ℕ) × (x : X) × (slice_get xs at ≡ Some x) × (test x ≡ true)
any-at {X} test [] h = cc
any-at {X} test (x ∷ xs) h = by (test x) refl h (any-at test xs) where
  by : (b : Bool) → test x ≡ b → (b || list_any test xs) ≡ true
      → (list_any test xs ≡ true → (at : ℕ) × (y : X) × (slice_get xs at ≡ Some y) × (test y ≡ true))
      → (at : ℕ) × (y : X) × (slice_get (x ∷ xs) at ≡ Some y) × (test y ≡ true)
  by true e g more = (0, x, refl, e)
  by false e g more = let found = more g in (suc found.0, found.1, found.2, found.3)
