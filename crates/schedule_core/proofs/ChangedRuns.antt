-- The record at a unit is changed, changed again, looked up and dropped.
use Rattle.std.proofs.Common.{◌≡◌, ◌∙◌, Bool, true, false, cond, Some, List, [], ◌∷◌, refl, ap}
use Rattle.std.proofs.lemmas.Option.{none-some, same_Some}
use Rattle.record_core.specs.Counting.{dropped}
use Rattle.step_table.specs.Lookups.{first_by}
use Rattle.schedule_rule.specs.DrawViews.{changed}

module _ {A : Type 0} (p : A → Bool) (f : A → A) (kept : (x : A) → p (f x) ≡ p x) where
  -- a changed member is dropped as it would have been before
  pub dropped-changed : (l : List A) → dropped p (changed p f l) ≡ dropped p l
  dropped-changed [] = refl
  dropped-changed (x ∷ l) = by (p x) refl (dropped-changed l)
    where
      by : (b : Bool) → p x ≡ b → dropped p (changed p f l) ≡ dropped p l → dropped p (cond b (f x ∷ l) (x ∷ changed p f l)) ≡ cond b l (x ∷ dropped p l)
      by true e rest = ap (λ (c : Bool). cond c l (f x ∷ dropped p l)) (kept x ∙ e)
      by false e rest = ap (λ (c : Bool). cond c (changed p f l) (x ∷ dropped p (changed p f l))) e ∙ ap (λ (k : List A). x ∷ k) rest

  -- the first that passes is the changed one
  pub first-changed : (l : List A) (x : A) → first_by p l ≡ Some x → first_by p (changed p f l) ≡ Some (f x)
  first-changed [] x found = absurd (none-some x found)
  first-changed (y ∷ l) x found = by (p y) refl (first-changed l x) found
    where
      by : (b : Bool) → p y ≡ b → (first_by p l ≡ Some x → first_by p (changed p f l) ≡ Some (f x)) → cond b (Some y) (first_by p l) ≡ Some x → first_by p (cond b (f y ∷ l) (y ∷ changed p f l)) ≡ Some (f x)
      by true e deeper here = ap (λ (c : Bool). cond c (Some (f y)) (first_by p l)) (kept y ∙ e) ∙ ap (λ (z : A). Some (f z)) (same_Some y x here)
      by false e deeper later = ap (λ (c : Bool). cond c (Some y) (first_by p (changed p f l))) e ∙ deeper later

  -- two changes are one
  pub changed-again : (h : A → A) (l : List A) → changed p h (changed p f l) ≡ changed p (λ x. h (f x)) l
  changed-again h [] = refl
  changed-again h (x ∷ l) = by (p x) refl (changed-again h l)
    where
      by : (b : Bool) → p x ≡ b → changed p h (changed p f l) ≡ changed p (λ y. h (f y)) l → changed p h (cond b (f x ∷ l) (x ∷ changed p f l)) ≡ cond b (h (f x) ∷ l) (x ∷ changed p (λ y. h (f y)) l)
      by true e rest = ap (λ (c : Bool). cond c (h (f x) ∷ l) (f x ∷ changed p h l)) (kept x ∙ e)
      by false e rest = ap (λ (c : Bool). cond c (h x ∷ changed p f l) (x ∷ changed p h (changed p f l))) e ∙ ap (λ (k : List A). x ∷ k) rest
