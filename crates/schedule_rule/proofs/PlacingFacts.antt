-- Lists of which some members go, and one that is changed: what is left of references, sights, drawn numbers and runs.
use Rattle.std.proofs.Common.{◌≡◌, ◌≢◌, ◌∙◌, ◌⊎◌, inl, inr, ℕ, zero, suc, ◌+◌, ◌≤◌, ◌==◌, Bool, true, false, cond, List, [], ◌∷◌, length, refl, sym, ap, subst, arith}
use Rattle.std.specs.Prelude.{slice_get}
use Rattle.std.proofs.lemmas.Bool.{cases_eq, eqb-true, eq-eqb, ne_eqb}
use Rattle.record_core.specs.Sums.{total}
use Rattle.record_core.specs.Counting.{At, Has, one_if, passing, times, dropped}
use Rattle.record_core.proofs.CountFacts.{passing-one, total-dropped, passing-some}
use Rattle.record_core.proofs.TotalFacts.{none_there, total-member}
use Rattle.table_core.specs.Asking.{Drawn}
use Rattle.table_core.specs.Holdings.{Waiter, Sight, seen_at}
use Rattle.table_core.specs.Lists.{Each}
use Rattle.table_core.specs.RecordViews.{is_at}
use Rattle.table_core.specs.Sights.{StillSo, IsKnown}
use Rattle.table_core.specs.WaitLists.{waits_at}
use Rattle.table_core.proofs.BagFacts.{times-dropped}
use Rattle.table_core.proofs.ListFacts.{each-none, each-cons, each-tail, length-dropped_le, same_some}
use Rattle.schedule_rule.specs.DrawViews.{changed}
use Rattle.schedule_rule.specs.PlacingViews.{less, kept_sights, is_drawn, waiting_with}
use Rattle.schedule_rule.specs.Rows.{drawn_at}

-- what is left of a list is no longer
pub length-less : (l taken : List ℕ) → length (less l taken) ≤ length l
length-less l [] = omega arith
length-less l (x ∷ xs) = omega (arith, length-less (dropped (is_at x) l) xs, length-dropped_le (is_at x) l)

-- of each number that is taken, a list that has as many has so many less
pub times-less : (w : ℕ) (l taken : List ℕ) → ((x : ℕ) → times x taken ≤ times x l) → times w (less l taken) + times w taken ≡ times w l
times-less w l [] held = omega arith
times-less w l (x ∷ xs) held = omega (arith, times-less w (dropped (is_at x) l) xs rest, times-dropped x w l some)
  where
    here : one_if (x == x) ≡ 1
    here = ap one_if (eq-eqb x x refl)

    some : 1 ≤ times x l
    some = omega (arith, held x, here)

    rest : (y : ℕ) → times y xs ≤ times y (dropped (is_at x) l)
    rest y = omega (arith, held y, times-dropped x y l some)

-- the sights that are left are of records to which there is a reference
pub kept-known : (heads tasks states : ℕ → ℕ) (futures : List ℕ) (ss : List Sight) → Each (StillSo heads tasks states) ss
    → IsKnown heads tasks states (record { futures = futures; sights = kept_sights futures ss })
kept-known heads tasks states futures [] all = each-none _
kept-known heads tasks states futures (s ∷ ss) all = by (cases_eq (times (seen_at s) futures) 0) (kept-known heads tasks states futures ss (each-tail (StillSo heads tasks states) s ss all))
  where
    by : (times (seen_at s) futures ≡ 0) ⊎ (times (seen_at s) futures ≢ 0) → IsKnown heads tasks states (record { futures = futures; sights = kept_sights futures ss })
        → IsKnown heads tasks states (record { futures = futures; sights = cond (times (seen_at s) futures == 0) (kept_sights futures ss) (s ∷ kept_sights futures ss) })
    by (inl none) rest = subst (λ (b : Bool). IsKnown heads tasks states (record { futures = futures; sights = cond b (kept_sights futures ss) (s ∷ kept_sights futures ss) }))
        (sym (eq-eqb (times (seen_at s) futures) 0 none)) rest
    by (inr some) rest = subst (λ (b : Bool). IsKnown heads tasks states (record { futures = futures; sights = cond b (kept_sights futures ss) (s ∷ kept_sights futures ss) }))
        (sym (ne_eqb (times (seen_at s) futures) 0 some))
        (each-cons (λ (x : Sight). (1 ≤ times (seen_at x) futures) × StillSo heads tasks states x) s (kept_sights futures ss) (omega (arith, some), all 0 s refl) rest)

-- where one member at most passes, those that are left once it is dropped do not pass
pub dropped-other : {A : Type 0} (p : A → Bool) (l : List A) → passing p l ≤ 1 → (x : A) → Has x (dropped p l) → Has x l × (p x ≡ false)
dropped-other p [] few x has = absurd (none_there x has.1)
dropped-other {A} p (y ∷ l) few x has = by (p y) refl (λ left. dropped-other p l left x) has
  where
    by : (b : Bool) → p y ≡ b → (passing p l ≤ 1 → Has x (dropped p l) → Has x l × (p x ≡ false)) → Has x (cond b l (y ∷ dropped p l)) → Has x (y ∷ l) × (p x ≡ false)
    by true e rest there = ((suc there.0, there.1), none (p x) refl)
      where
        none : (c : Bool) → p x ≡ c → c ≡ false
        none true same = absurd (omega (arith, few, ap one_if e, ap one_if same, total-member (λ (z : A). one_if (p z)) l there.0 x there.1))
        none false same = refl
    by false e rest (zero, at) = ((0, at), ap p (sym (same_some y x at)) ∙ e)
    by false e rest (suc k, at) = let t = rest (omega (arith, few, ap one_if e)) (k, at) in ((suc t.0.0, t.0.1), t.1)

-- what holds of each member, and of the one that is changed afterwards
pub each-changed_to : {A : Type 0} (p : A → Bool) (h : A → A) (P Q : A → Type 0) (l : List A) → passing p l ≤ 1 → ((x : A) → Has x l → p x ≡ true → P x → Q (h x))
    → ((x : A) → Has x l → p x ≡ false → P x → Q x) → Each P l → Each Q (changed p h l)
each-changed_to p h P Q [] few here other all = each-none Q
each-changed_to {A} p h P Q (x ∷ l) few here other all =
    by (p x) refl (λ left. each-changed_to p h P Q l left (λ y has. here y (suc has.0, has.1)) (λ y has. other y (suc has.0, has.1)) (each-tail P x l all))
  where
    by : (b : Bool) → p x ≡ b → (passing p l ≤ 1 → Each Q (changed p h l)) → Each Q (cond b (h x ∷ l) (x ∷ changed p h l))
    by true e rest = each-cons Q (h x) l (here x (0, refl) e (all 0 x refl)) (λ k y at. other y (suc k, at) (none k y at (p y) refl) (all (suc k) y at))
      where
        none : (k : ℕ) (y : A) → At l k y → (c : Bool) → p y ≡ c → c ≡ false
        none k y at true same = absurd (omega (arith, few, ap one_if e, ap one_if same, total-member (λ (z : A). one_if (p z)) l k y at))
        none k y at false same = refl
    by false e rest = each-cons Q x (changed p h l) (other x (0, refl) e (all 0 x refl)) (rest (omega (arith, few, ap one_if e)))

-- one waiter more, where the record waits
pub waits-with : (waits : Bool) (u n w : ℕ) (l : List Waiter) → waits_at w (waiting_with waits u n l) ≡ waits_at w l + cond waits (one_if (u == w)) 0
waits-with true u n w l = omega arith
waits-with false u n w l = omega arith

-- one number less is drawn
pub drawn-less : (n w : ℕ) (l : List Drawn) → 1 ≤ drawn_at n l → drawn_at w (dropped (is_drawn n) l) + one_if (n == w) ≡ drawn_at w l
drawn-less n w l some = total-dropped (λ (x : Drawn). one_if (x.number == w)) (is_drawn n) (one_if (n == w)) l
    (λ k x at here. ap (λ (j : ℕ). one_if (j == w)) (eqb-true x.number n here)) ((passing-some (is_drawn n) l).0 some)

-- a sum without what its one drawn number counts
pub drawn-sum : (f : Drawn → ℕ) (d : Drawn) (l : List Drawn) → Has d l → drawn_at d.number l ≤ 1 → total f (dropped (is_drawn d.number) l) + f d ≡ total f l
drawn-sum f d l has few = total-dropped f (is_drawn d.number) (f d) l
    (λ k x at here. ap f (same_some x d (sym at ∙ ap (slice_get l) (passing-one (is_drawn d.number) l k has.0 x d few at here has.1 (eq-eqb d.number d.number refl)) ∙ has.1)))
    (record { member = d; there = has; passes = eq-eqb d.number d.number refl })
