-- The turn that a pass keeps, with one root more, and of two passes.
use Rattle.std.proofs.Common.{◌≡◌, ◌∙◌, ℕ, zero, suc, ◌+◌, ◌<◌, ◌≤◌, List, [], ◌∷◌, ◌++◌, length, map, take, Option, Some, None, slice_get, refl, ap, arith}
use Rattle.std.specs.Prelude.{slice_set, slice_index_or}
use Rattle.table_core.specs.Holdings.{RootSays}
use Rattle.step_table.specs.declared.turn.NamedRoot.{NamedRoot}
use Rattle.step_table.specs.declared.turn.Turn.{Turn}
use Rattle.step_table.specs.Turns.{says_of, taken, turn_of}

-- one name more
taken-more : (l : List NamedRoot) (k : ℕ) (n : NamedRoot) → k < length l → map says_of (take (suc k) (slice_set l k n)) ≡ map says_of (take k l) ++ says_of n ∷ []
taken-more [] k n low = absurd (omega (arith, low))
taken-more (x ∷ l) zero n low = refl
taken-more (x ∷ l) (suc k) n low = ap (λ (r : List RootSays). says_of x ∷ r) (taken-more l k n (omega (arith, low)))

pub turn-with : (t : Turn) (n : NamedRoot) (names : List NamedRoot) (asked : ℕ) → length t.named ≡ 16 → t.asked < 16 → names ≡ slice_set t.named t.asked n → asked ≡ t.asked + 1
    → map says_of (take asked names) ≡ taken t ++ says_of n ∷ []
turn-with t n names asked long few is many =
    let one : asked ≡ suc t.asked = omega (arith, many) in
    (λ i. map says_of (take (one i) (is i))) ∙ taken-more t.named t.asked n (omega (arith, long, few))

-- fewer are said than there is room for only where fewer are asked for
pub taken-few : (l : List NamedRoot) (k : ℕ) → length (map says_of (take k l)) < length l → k < length l
taken-few l zero few = omega (arith, few)
taken-few [] (suc k) few = absurd (omega (arith, few))
taken-few (x ∷ l) (suc k) few = omega (arith, taken-few l k (omega (arith, few)))

-- what is said of a root that is asked for, and of one that is not
pub taken-at : (l : List NamedRoot) (k r : ℕ) (n : NamedRoot) → r < k → slice_get l r ≡ Some n → slice_get (map says_of (take k l)) r ≡ Some (says_of n)
taken-at l zero r n low at = absurd (omega (arith, low))
taken-at [] (suc k) r n low at = let no_one : None ≡ Some n → ⊥ = λ e. cc in absurd (no_one at)
taken-at (x ∷ l) (suc k) zero n low at = let same : x ≡ n = cc in ap (λ (y : NamedRoot). Some (says_of y)) same
taken-at (x ∷ l) (suc k) (suc r) n low at = taken-at l k r n (omega (arith, low)) at

-- the member at a position, by both ways to read it
pub index-get : (l : List NamedRoot) (k : ℕ) (d : NamedRoot) → k < length l → slice_get l k ≡ Some (slice_index_or l k d)
index-get [] k d low = absurd (omega (arith, low))
index-get (x ∷ l) zero d low = refl
index-get (x ∷ l) (suc k) d low = index-get l k d (omega (arith, low))

pub taken-behind : (l : List NamedRoot) (k r : ℕ) → k ≤ r → slice_get (map says_of (take k l)) r ≡ None
taken-behind l zero r far = refl
taken-behind [] (suc k) r far = refl
taken-behind (x ∷ l) (suc k) zero far = absurd (omega (arith, far))
taken-behind (x ∷ l) (suc k) (suc r) far = taken-behind l k r (omega (arith, far))

pub append-none : (l : List (List RootSays)) → l ++ [] ≡ l
append-none [] = refl
append-none (x ∷ l) = ap (λ (r : List (List RootSays)). x ∷ r) (append-none l)

-- a pass with the turn keeps it
pub turn-mine : (t : Turn) (other : Option Turn) → length (turn_of other) + 1 < 2 → taken t ∷ [] ≡ turn_of other ++ taken t ∷ []
turn-mine t None few = refl
turn-mine t (Some x) few = absurd (omega (arith, few))

-- a pass whose turn is this one keeps it
pub turn-head : (t : Turn) (turn : List (List RootSays)) (asked : List RootSays) → taken t ∷ [] ≡ turn → turn ≡ asked ∷ [] → taken t ≡ asked
turn-head t turn asked e e' = first (taken t) asked (e ∙ e')
  where
    first : (a b : List RootSays) → ◌≡◌ {A = List (List RootSays)} (a ∷ []) (b ∷ []) → a ≡ b
    first a b same = cc

pub turn-none : (turn : List (List RootSays)) (asked : List RootSays) → [] ≡ turn → turn ≡ asked ∷ [] → ⊥
turn-none turn asked e e' = omega (arith, ap length e, ap length e')
