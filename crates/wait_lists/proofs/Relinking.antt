-- A waiter that is linked again stays in its place.
use Rattle.std.proofs.Common.{◌≡◌, ◌∙◌, inl, inr, ℕ, Bool, true, false, cond, Option, Some, None, List, [], ◌∷◌, refl, sym, ap}
use Rattle.record_core.specs.Counting.{dropped}
use Rattle.table_core.specs.Holdings.{Waiter}
use Rattle.table_core.specs.WaitViews.{is_waiter_at, link_in}
use Rattle.table_core.proofs.ListFacts.{same_some}
use Rattle.step_table.specs.Lookups.{waiter_in}
use Rattle.wait_lists.specs.Joining.{IsRelinked, StillWaits}

module _ (w word : ℕ) where
  -- the waiter that is looked up is linked to the head
  pub linked-there : (l : List Waiter) (x : Waiter) → waiter_in w l ≡ Some x → waiter_in w (link_in w word l) ≡ Some (record x { linked = Some word })
  linked-there [] x e = absurd (none e)
    where
      none : ◌≡◌ {A = Option Waiter} None (Some x) → ⊥
      none e = cc
  linked-there (y ∷ l) x e = by (is_waiter_at w y) refl (linked-there l x)
    where
      by : (b : Bool) → is_waiter_at w y ≡ b → (waiter_in w l ≡ Some x → waiter_in w (link_in w word l) ≡ Some (record x { linked = Some word }))
          → waiter_in w (cond b (record y { linked = Some word } ∷ l) (y ∷ link_in w word l)) ≡ Some (record x { linked = Some word })
      by true here rest =
          let same : y ≡ x = same_some y x (sym (ap (λ (b : Bool). cond b (Some y) (waiter_in w l)) here) ∙ e) in
          ap (λ (b : Bool). cond b (Some (record y { linked = Some word })) (waiter_in w l)) here ∙ ap (λ (z : Waiter). Some (record z { linked = Some word })) same
      by false apart rest = ap (λ (b : Bool). cond b (Some y) (waiter_in w (link_in w word l))) apart ∙ rest (sym (ap (λ (b : Bool). cond b (Some y) (waiter_in w l)) apart) ∙ e)

  -- and goes like one that is not
  pub dropped-link_in : (l : List Waiter) → dropped (is_waiter_at w) (link_in w word l) ≡ dropped (is_waiter_at w) l
  dropped-link_in [] = refl
  dropped-link_in (x ∷ l) = by (is_waiter_at w x) refl (dropped-link_in l)
    where
      by : (b : Bool) → is_waiter_at w x ≡ b → dropped (is_waiter_at w) (link_in w word l) ≡ dropped (is_waiter_at w) l
          → dropped (is_waiter_at w) (cond b (record x { linked = Some word } ∷ l) (x ∷ link_in w word l)) ≡ dropped (is_waiter_at w) (x ∷ l)
      by true here rest =
          ap (λ (b : Bool). cond b l (record x { linked = Some word } ∷ dropped (is_waiter_at w) l)) here ∙ sym (ap (λ (b : Bool). cond b l (x ∷ dropped (is_waiter_at w) l)) here)
      by false apart rest =
          ap (λ (b : Bool). cond b (link_in w word l) (x ∷ dropped (is_waiter_at w) (link_in w word l))) apart ∙ ap (λ (m : List Waiter). x ∷ m) rest
          ∙ sym (ap (λ (b : Bool). cond b l (x ∷ dropped (is_waiter_at w) l)) apart)

-- the last link counts
pub link_in-again : (w word word' : ℕ) (l : List Waiter) → link_in w word' (link_in w word l) ≡ link_in w word' l
link_in-again w word word' [] = refl
link_in-again w word word' (x ∷ l) = by (is_waiter_at w x) refl (link_in-again w word word' l)
  where
    by : (b : Bool) → is_waiter_at w x ≡ b → link_in w word' (link_in w word l) ≡ link_in w word' l
        → link_in w word' (cond b (record x { linked = Some word } ∷ l) (x ∷ link_in w word l)) ≡ link_in w word' (x ∷ l)
    by true here rest = ap (λ (b : Bool). cond b (record x { linked = Some word' } ∷ l) (record x { linked = Some word } ∷ link_in w word' l)) here
        ∙ sym (ap (λ (b : Bool). cond b (record x { linked = Some word' } ∷ l) (x ∷ link_in w word' l)) here)
    by false apart rest = ap (λ (b : Bool). cond b (record x { linked = Some word' } ∷ link_in w word l) (x ∷ link_in w word' (link_in w word l))) apart
        ∙ ap (λ (m : List Waiter). x ∷ m) rest
        ∙ sym (ap (λ (b : Bool). cond b (record x { linked = Some word' } ∷ l) (x ∷ link_in w word' l)) apart)

module _ (w : ℕ) (old new : List Waiter) where
  -- linked once more
  pub relinked-again : (word : ℕ) → IsRelinked w old new → link_in w word new ≡ link_in w word old
  relinked-again word (inl same) = ap (link_in w word) same
  relinked-again word (inr t) = ap (link_in w word) t.1 ∙ link_in-again w t.0 word old

  -- the waiter is still there, under its number
  pub relinked-waiter : (x : Waiter) → waiter_in w old ≡ Some x → IsRelinked w old new → StillWaits w x.number new
  relinked-waiter x e (inl same) = record { waiter = x; there = ap (waiter_in w) same ∙ e; number_is = refl }
  relinked-waiter x e (inr t) = record { waiter = record x { linked = Some t.0 }; there = ap (waiter_in w) t.1 ∙ linked-there w t.0 old x e; number_is = refl }
