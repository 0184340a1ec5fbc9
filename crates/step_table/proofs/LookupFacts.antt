-- A record that is looked up by its unit is one of the hand, and has that unit.
use Rattle.std.proofs.Common.{◌≡◌, ◌∙◌, ℕ, suc, Bool, true, false, cond, Option, Some, None, List, [], ◌∷◌, refl, sym, ap}
use Rattle.std.proofs.lemmas.Bool.{eqb-true}
use Rattle.record_core.specs.Counting.{Has}
use Rattle.table_core.specs.Holdings.{Made, Waiter, Run, Done}
use Rattle.table_core.specs.RecordViews.{is_made_at, is_done_at}
use Rattle.table_core.specs.WaitViews.{is_waiter_at, is_run_at}
use Rattle.step_table.specs.Lookups.{first_by, made_in, waiter_in, run_in, done_in}

-- x is a member, and passes
pub record IsFound {A : Type 0} (p : A → Bool) (l : List A) (x : A) : Type 0 where
  pub there : Has x l
  pub passes : p x ≡ true

-- the first member that passes is a member that passes
pub first-found : {A : Type 0} (p : A → Bool) (l : List A) (x : A) → first_by p l ≡ Some x → IsFound p l x
first-found {A} p [] x e = absurd (none e)
  where
    none : ◌≡◌ {A = Option A} None (Some x) → ⊥
    none e = cc
first-found {A} p (y ∷ l) x e = by (first-found p l x) (p y) refl
  where
    found : Some y ≡ Some x → y ≡ x
    found e = cc

    by : (first_by p l ≡ Some x → IsFound p l x) → (b : Bool) → p y ≡ b → IsFound p (y ∷ l) x
    by more true is =
        let same : y ≡ x = found (sym (ap (λ (c : Bool). cond c (Some y) (first_by p l)) is) ∙ e) in
        record { there = (0, ap Some same); passes = ap p (sym same) ∙ is }
    by more false is =
        let later = more (sym (ap (λ (c : Bool). cond c (Some y) (first_by p l)) is) ∙ e) in
        record { there = (suc later.there.0, later.there.1); passes = later.passes }

-- the record that is looked up is one of the hand, at this unit: a made one
pub made-there : (u : ℕ) (l : List Made) (r : Made) → made_in u l ≡ Some r → Has r l × (r.unit ≡ u)
made-there u l r e = let is = first-found (is_made_at u) l r e in (is.there, eqb-true r.unit u is.passes)

-- a waiting one
pub waiter-there : (u : ℕ) (l : List Waiter) (w : Waiter) → waiter_in u l ≡ Some w → Has w l × (w.unit ≡ u)
waiter-there u l w e = let is = first-found (is_waiter_at u) l w e in (is.there, eqb-true w.unit u is.passes)

-- a running one
pub run-there : (u : ℕ) (l : List Run) (r : Run) → run_in u l ≡ Some r → Has r l × (r.unit ≡ u)
run-there u l r e = let is = first-found (is_run_at u) l r e in (is.there, eqb-true r.unit u is.passes)

-- a done one
pub done-there : (u : ℕ) (l : List Done) (d : Done) → done_in u l ≡ Some d → Has d l × (d.unit ≡ u)
done-there u l d e = let is = first-found (is_done_at u) l d e in (is.there, eqb-true d.unit u is.passes)
