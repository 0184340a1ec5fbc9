-- A root may be named on the table, and what the pass keeps of it.
use Rattle.std.proofs.Common.{◌≡◌, ◌∙◌, ℕ, ◌+◌, ◌≤◌, length, Some, refl, sym, ap, subst, arith}
use Rattle.std.proofs.lemmas.Bool.{eq-eqb}
use Rattle.record_core.proofs.CountFacts.{times-some}
use Rattle.table_core.specs.Addresses.{root}
use Rattle.table_core.specs.Holdings.{RootSays}
use Rattle.table_core.specs.Holdings as says
use Rattle.table_core.specs.Roots.{root_word}
use Rattle.table_core.specs.Naming.{MayName}
use Rattle.table_core.specs.Views.{saw}
use Rattle.table_core.specs.RecordViews.{is_at, given_to_root, put_root}
use Rattle.table_core.specs.declared.setup.Setup.{Setup}
use Rattle.table_core.specs.declared.view.View.{View}
use Rattle.table_core.proofs.ListFacts.{length-dropped-has}
use Rattle.table_core.proofs.ReferenceBound.{units-few}
use Rattle.schedule_rule.specs.Parts.{Keeps}
use Rattle.schedule_rule.proofs.NamingKinds.{names-root-at}
use Rattle.step_table.specs.declared.roots.RootWord.{RootWord}
use Rattle.step_table.specs.declared.roots.RootWord.TheVariants as word
use Rattle.step_table.specs.declared.turn.NamedRoot.{NamedRoot}
use Rattle.step_table.specs.Turns.{says_of}
use Rattle.step_table.specs.RootSteps.{name_of, taken_of, FitsName, MayAsk}

-- the step may be made, by what the code stores
pub name-rule : (g : Setup) (id : ℕ) (v : View) (r : ℕ) (w : RootWord) (n : NamedRoot) (k : ℕ) → n ≡ name_of w → k ≡ root_word (says_of n) → MayAsk g r w v → 1 ≤ v.parts
    → Keeps g id v (root r) (λ x. k) (λ x u. (f : ℕ) × (u ≡ saw (root r) f (put_root (says_of n) v)))
name-rule g id v r w n k named packed may in_use =
    subst (λ (m : NamedRoot). Keeps g id v (root r) (λ x. k) (λ x u. (f : ℕ) × (u ≡ saw (root r) f (put_root (says_of m) v)))) (sym named)
    (subst (λ (j : ℕ). Keeps g id v (root r) (λ x. j) (λ x u. (f : ℕ) × (u ≡ saw (root r) f (put_root (says_of (name_of w)) v)))) (sym (packed ∙ ap (λ (m : NamedRoot). root_word (says_of m)) named))
    (subst (λ (j : ℕ). Keeps g id v (root j) (λ x. root_word (says_of (name_of w))) (λ x u. (f : ℕ) × (u ≡ saw (root j) f (put_root (says_of (name_of w)) v)))) (sym may.is_next)
    (names-root-at g id v may.asked may.has_turn (says_of (name_of w)) may.inside may.may may.says in_use)))

-- what is named has room in a word
pub name-fits : (g : Setup) (r : ℕ) (w : RootWord) (v : View) → MayAsk g r w v → FitsName (name_of w)
name-fits g r w v may = by w may.may
  where
    by : (w : RootWord) → MayName g may.asked v (says_of (name_of w)) → FitsName (name_of w)
    by (word.Record future) ok = omega (arith, ok.0, units-few g.plan)
    by word.Null ok = tt
    by word.Limit ok = tt
    by (word.Skipped j) ok = omega (arith, ok.earlier, may.inside, g.plan.roots_fit)

-- a reference that goes into a root word is one that the pass has
pub taken-few : (g : Setup) (r : ℕ) (w : RootWord) (v : View) → MayAsk g r w v → length (given_to_root (says_of (name_of w)) v.futures) + taken_of w ≡ length v.futures
taken-few g r w v may = by w may.may
  where
    by : (w : RootWord) → MayName g may.asked v (says_of (name_of w)) → length (given_to_root (says_of (name_of w)) v.futures) + taken_of w ≡ length v.futures
    by (word.Record future) ok = length-dropped-has (is_at future.unit) v.futures future.unit ((times-some future.unit v.futures).0 ok.1) (eq-eqb future.unit future.unit refl)
    by word.Null ok = omega arith
    by word.Limit ok = omega arith
    by (word.Skipped j) ok = omega arith

-- what is said of a root is one thing
pub one-record : (u w : ℕ) → Some (says.Record u) ≡ Some (says.Record w) → u ≡ w
one-record u w e = cc
