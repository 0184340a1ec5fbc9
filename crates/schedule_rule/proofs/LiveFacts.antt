-- A list with one member changed: what does not read the change stays. And how many records may live at most.
use Rattle.std.proofs.Common.{◌≡◌, ◌∙◌, ◌⊎◌, inl, inr, ℕ, zero, suc, ◌+◌, ◌<◌, ◌≤◌, ◌==◌, ◌||◌, Bool, true, false, cond, List, [], ◌∷◌, map, length, refl, sym, ap, true≢false, arith}
use Rattle.std.specs.Prelude.{nat_lt}
use Rattle.std.proofs.lemmas.Bool.{cases_lt, eq-eqb}
use Rattle.record_core.specs.Sums.{total, below}
use Rattle.record_core.specs.Counting.{At, Has, one_if}
use Rattle.record_core.specs.CountLaws.{HasPassing}
use Rattle.record_core.proofs.BelowFacts.{below-member, below-plus, below-bounded}
use Rattle.record_core.proofs.TotalFacts.{none_there}
use Rattle.table_core.specs.Holdings.{RootSays}
use Rattle.table_core.specs.Lists.{Each}
use Rattle.table_core.specs.Own.{any}
use Rattle.table_core.specs.Roots.{word_at, asked_in}
use Rattle.table_core.proofs.ListFacts.{each-cons, each-tail, same_some}
use Rattle.table_core.proofs.RootKinds.{word-behind}
use Rattle.schedule_rule.specs.DrawViews.{changed}

module _ {A : Type 0} (p : A → Bool) (h : A → A) where
  -- a sum stays that does not read the change
  pub total-kept : (f : A → ℕ) → ((x : A) → f (h x) ≡ f x) → (l : List A) → total f (changed p h l) ≡ total f l
  total-kept f same [] = refl
  total-kept f same (x ∷ l) = by (p x) (total-kept f same l)
    where
      by : (b : Bool) → total f (changed p h l) ≡ total f l → total f (cond b (h x ∷ l) (x ∷ changed p h l)) ≡ f x + total f l
      by true rest = ap (λ (n : ℕ). n + total f l) (same x)
      by false rest = ap (λ (n : ℕ). f x + n) rest

  -- so does a test
  pub any-kept : (q : A → Bool) → ((x : A) → q (h x) ≡ q x) → (l : List A) → any q (changed p h l) ≡ any q l
  any-kept q same [] = refl
  any-kept q same (x ∷ l) = by (p x) (any-kept q same l)
    where
      by : (b : Bool) → any q (changed p h l) ≡ any q l → any q (cond b (h x ∷ l) (x ∷ changed p h l)) ≡ (q x || any q l)
      by true rest = ap (λ (c : Bool). c || any q l) (same x)
      by false rest = ap (λ (c : Bool). q x || c) rest

  pub map-kept : {B : Type 0} (f : A → B) → ((x : A) → f (h x) ≡ f x) → (l : List A) → map f (changed p h l) ≡ map f l
  map-kept f same [] = refl
  map-kept {B} f same (x ∷ l) = by (p x) (map-kept f same l)
    where
      by : (b : Bool) → map f (changed p h l) ≡ map f l → map f (cond b (h x ∷ l) (x ∷ changed p h l)) ≡ f x ∷ map f l
      by true rest = ap (λ (y : B). y ∷ map f l) (same x)
      by false rest = ap (λ (ys : List B). f x ∷ ys) rest

  -- what holds of each member, changed or not
  pub each-kept : (P : A → Type 0) → ((x : A) → P x → P (h x)) → (l : List A) → Each P l → Each P (changed p h l)
  each-kept P kept [] all = all
  each-kept P kept (x ∷ l) all = by (p x) (each-kept P kept l (each-tail P x l all))
    where
      by : (b : Bool) → Each P (changed p h l) → Each P (cond b (h x ∷ l) (x ∷ changed p h l))
      by true rest = each-cons P (h x) l (kept x (all 0 x refl)) (each-tail P x l all)
      by false rest = each-cons P x (changed p h l) (all 0 x refl) rest

  -- what holds of each member, and of those that pass once they are changed
  pub each-changed : (P : A → Type 0) (l : List A) → ((x : A) → Has x l → p x ≡ true → P x → P (h x)) → Each P l → Each P (changed p h l)
  each-changed P [] kept all = all
  each-changed P (x ∷ l) kept all = by (p x) refl (each-changed P l (λ y has. kept y (suc has.0, has.1)) (each-tail P x l all))
    where
      by : (b : Bool) → p x ≡ b → Each P (changed p h l) → Each P (cond b (h x ∷ l) (x ∷ changed p h l))
      by true e rest = each-cons P (h x) l (kept x (0, refl) e (all 0 x refl)) (each-tail P x l all)
      by false e rest = each-cons P x (changed p h l) (all 0 x refl) rest

  -- a member is there still, changed or not
  pub has-kept : (x : A) (l : List A) → Has x l → (y : A) × Has y (changed p h l) × ((y ≡ x) ⊎ (y ≡ h x))
  has-kept x [] has = absurd (none_there x has.1)
  has-kept x (z ∷ l) has = by (p z) (has-kept x l) has.0 has.1
    where
      by : (b : Bool) → (Has x l → (y : A) × Has y (changed p h l) × ((y ≡ x) ⊎ (y ≡ h x))) → (k : ℕ) → At (z ∷ l) k x
          → (y : A) × Has y (cond b (h z ∷ l) (z ∷ changed p h l)) × ((y ≡ x) ⊎ (y ≡ h x))
      by true rest zero here = (h z, (0, refl), inr (ap h (same_some z x here)))
      by true rest (suc k) there = (x, (suc k, there), inl refl)
      by false rest zero here = (z, (0, refl), inl (same_some z x here))
      by false rest (suc k) there = let t = rest (k, there) in (t.0, (suc t.1.0, t.1.1), t.2)

  -- a sum in which the members that pass count a, and afterwards b
  pub total-changed : (f : A → ℕ) (a b : ℕ) (l : List A) → ((x : A) → Has x l → p x ≡ true → (f x ≡ a) × (f (h x) ≡ b)) → HasPassing p l → total f (changed p h l) + a ≡ total f l + b
  total-changed f a b [] pass has = absurd (none_there has.member has.there.1)
  total-changed f a b (x ∷ l) pass has = by (p x) refl (total-changed f a b l (λ y there. pass y (suc there.0, there.1))) has.there.0 has.there.1
    where
      by : (c : Bool) → p x ≡ c → (HasPassing p l → total f (changed p h l) + a ≡ total f l + b) → (k : ℕ) → At (x ∷ l) k has.member
          → total f (cond c (h x ∷ l) (x ∷ changed p h l)) + a ≡ f x + total f l + b
      by true e rest k there = let t = pass x (0, refl) e in omega (arith, t.0, t.1)
      by false e rest zero here = absurd (true≢false (sym has.passes ∙ ap p (sym (same_some x has.member here)) ∙ e))
      by false e rest (suc k) there = omega (arith, rest (record { member = has.member; there = (k, there); passes = has.passes }))

-- members with numbers below n are counted by their numbers
pub counted-below : {A : Type 0} (f : A → ℕ) (unit : A → ℕ) (n : ℕ) (l : List A) → ((x : A) → f x ≤ 1) → Each (λ x. unit x < n) l
    → total f l ≤ below (λ u. total (λ x. one_if (unit x == u)) l) n
counted-below f unit n [] few near = omega arith
counted-below f unit n (x ∷ l) few near = omega (
  arith,
  few x,
  counted-below f unit n l few (each-tail _ x l near),
  below-plus (λ u. one_if (unit x == u)) (λ u. total (λ y. one_if (unit y == u)) l) n,
  below-member (λ u. one_if (unit x == u)) n (unit x) (near 0 x refl),
  ap one_if (eq-eqb (unit x) (unit x) refl),
)

-- values of at most 1 that are 0 from k on sum up to at most k
below-cut : (f : ℕ → ℕ) (k n : ℕ) → ((r : ℕ) → f r ≤ 1) → ((r : ℕ) → r < n → k ≤ r → f r ≡ 0) → below f n ≤ k
below-cut f k zero few none = omega arith
below-cut f k (suc n) few none = elim (cases_lt n k) [
  | inl low ↦ omega (arith, low, below-bounded f 1 (suc n) (λ r h. few r))
  | inr high ↦ omega (arith, below-cut f k n few (λ r h. none r (omega (arith, h))), none n (omega arith) high)
]

pub at-most-one : (b : Bool) → one_if b ≤ 1
at-most-one true = omega arith
at-most-one false = omega arith

-- no more roots are asked for than are told of
pub asked-few : (roots : ℕ → ℕ) (asked : List RootSays) → ((r : ℕ) → r < 16 → roots r ≡ word_at asked r) → asked_in roots ≤ length asked
asked-few roots asked says = below-cut (λ r. one_if (nat_lt 0 (roots r))) (length asked) 16 (λ r. at-most-one (nat_lt 0 (roots r)))
    (λ r low far. ap (λ (n : ℕ). one_if (nat_lt 0 n)) (says r low ∙ word-behind asked r far))
