-- The numbers that are drawn in a hand, of which one is placed.
use Rattle.std.proofs.Common.{◌≡◌, ◌≢◌, ◌∙◌, ◌⊎◌, inl, inr, ℕ, ◌+◌, ◌<◌, ◌≤◌, ◌==◌, Bool, true, false, Option, Some, None, List, [], map, refl, sym, ap, subst, true≢false, arith}
use Rattle.std.specs.Prelude.{slice_get, IfSome}
use Rattle.std.proofs.lemmas.Bool.{cases_eq, eq-eqb, ne_eqb}
use Rattle.record_core.specs.Sums.{total}
use Rattle.record_core.specs.Counting.{At, Has, one_if, times, dropped}
use Rattle.record_core.proofs.BelowFacts.{below-bounded}
use Rattle.record_core.proofs.CountFacts.{passing-one}
use Rattle.record_core.proofs.TotalFacts.{total-member}
use Rattle.task_meaning.specs.Worths.{Accepted, OfAll}
use Rattle.table_core.specs.Addresses.{Mem}
use Rattle.table_core.specs.Asking.{Drawn}
use Rattle.table_core.specs.Lists.{Each}
use Rattle.table_core.specs.Story.{Story, IsAccepted, IsOver}
use Rattle.table_core.specs.declared.setup.Setup.{Setup}
use Rattle.table_core.specs.declared.view.View.{View}
use Rattle.table_core.proofs.ListFacts.{at_map, total-has, same_some}
use Rattle.schedule_rule.specs.Askers.{asks_for}
use Rattle.schedule_rule.specs.Calls.{task_of, after_of, begun as begun_before, is_number, after_in, IsTaskOf, IsComplete, IsSo}
use Rattle.schedule_rule.specs.LifeViews.{KnowsOver}
use Rattle.schedule_rule.specs.Numbers.{in_hand}
use Rattle.schedule_rule.specs.Parts.{names, facts, places, seen, AllSay}
use Rattle.schedule_rule.specs.PlacingViews.{is_drawn, MayStartUnless}
use Rattle.schedule_rule.specs.Rows.{drawn_at}
use Rattle.schedule_rule.proofs.LiveFacts.{at-most-one}
use Rattle.schedule_rule.proofs.PlacingFacts.{dropped-other, drawn-less, drawn-sum}
use Rattle.schedule_rule.proofs.StoryFacts.{task-of-number}

-- no activation of a task was accepted before the task
begun-none : (calls : List Accepted) (t : ℕ) → ((k : ℕ) → k < t → task_of calls k ≢ t) → begun_before calls t t ≡ 0
begun-none calls t none = omega (arith, below-bounded (λ k. one_if (task_of calls k == t)) 0 t (λ k low. omega (arith, ap one_if (ne_eqb (task_of calls k) t (none k low)))))

module _ (g : Setup) (id : ℕ) (v : View) (m : Mem) (vs : List View) (s : Story) (l : AllSay g s m vs) (at : At vs id v) where
  -- what is ready may start
  pub may-begin : (n : ℕ) (waits : Bool) → MayStartUnless waits v n → waits ≡ false → IfSome (after_of s.calls n) (IsComplete s.ends)
  may-begin n true may e = absurd (true≢false e)
  may-begin n false may e = subst (λ (o : Option Accepted). IfSome (after_in o) (IsComplete s.ends)) (sym (so may.1.0 (IsAccepted n may.0) may.1.1)) (over (after_in (Some may.0)) may.2)
    where
      so : Each (IsSo s.calls s.ends) v.facts
      so = l.schedule facts id v.facts (at_map (seen facts) vs id v at)

      over : (o : Option ℕ) → IfSome o (KnowsOver v) → IfSome o (IsComplete s.ends)
      over None knows = knows
      over (Some t) knows = (knows.0, so knows.1.0 (IsOver t knows.0) knows.1.1)

  -- a number is drawn once
  pub drawn-few : (n : ℕ) → drawn_at n v.drawn ≤ 1
  drawn-few n = omega (arith, l.schedule places n, total-member (in_hand n) (map (seen places) vs) id (seen places v) (at_map (seen places) vs id v at), at-most-one (is_number s.calls n))

  -- so a drawn number with this number is this one
  pub one-drawn : (d x : Drawn) → Has d v.drawn → Has x v.drawn → x.number ≡ d.number → x ≡ d
  one-drawn d x has has' e =
      let same = passing-one (is_drawn d.number) v.drawn has'.0 has.0 x d (drawn-few d.number) has'.1 (eq-eqb x.number d.number e) has.1 (eq-eqb d.number d.number refl) in
      same_some x d (sym has'.1 ∙ ap (slice_get v.drawn) same ∙ has.1)

  -- what is left is another number
  pub drawn-left : (d x : Drawn) → Has x (dropped (is_drawn d.number) v.drawn) → Has x v.drawn × (x.number ≢ d.number)
  drawn-left d x has =
      let t = dropped-other (is_drawn d.number) v.drawn (drawn-few d.number) x has in
      (t.0, λ e. true≢false (sym (eq-eqb x.number d.number e) ∙ t.1))

  -- one number less is drawn
  pub drawn-loses : (d : Drawn) → Has d v.drawn → (w : ℕ) → drawn_at w (dropped (is_drawn d.number) v.drawn) + one_if (d.number == w) ≡ drawn_at w v.drawn
  drawn-loses d has w = drawn-less d.number w v.drawn (omega (arith, total-has (λ (x : Drawn). one_if (x.number == d.number)) v.drawn d has, ap one_if (eq-eqb d.number d.number refl)))

  -- a number whose row is to be written is another one
  pub row-left : (d : Drawn) → Has d v.drawn → (w : ℕ) (lacking : List ℕ) → times d.number lacking ≡ 0 → times w lacking ≤ drawn_at w v.drawn → times w lacking ≤ drawn_at w (dropped (is_drawn d.number) v.drawn)
  row-left d has w lacking none few = elim (cases_eq d.number w) [
    | inl e ↦ omega (arith, subst (λ (k : ℕ). times k lacking ≡ 0) e none)
    | inr ne ↦ omega (arith, few, drawn-loses d has w, ap one_if (ne_eqb d.number w ne))
  ]

  -- a task is the first of its numbers
  pub first-none : (t : ℕ) → IsTaskOf s.calls t → begun_before s.calls t t ≡ 0
  first-none t is = begun-none s.calls t (λ k low same. not-before k low same (cases_eq k 0))
    where
      not-before : (k : ℕ) → k < t → task_of s.calls k ≡ t → (k ≡ 0) ⊎ (k ≢ 0) → ⊥
      not-before k low same (inl none) = omega (arith, low, sym (ap (task_of s.calls) none) ∙ same)
      not-before k low same (inr some) = omega (arith, low, same, (task-of-number s.calls (OfAll []) (l.schedule names) k (omega (arith, some), omega (arith, low, is.0.1))).1)

  -- of the numbers that a task asked for, this one is left out
  pub asks-less : (d : Drawn) → Has d v.drawn → (t : ℕ) → total (λ (y : Drawn). asks_for t y.asker) (dropped (is_drawn d.number) v.drawn) + asks_for t d.asker ≡ total (λ (y : Drawn). asks_for t y.asker) v.drawn
  asks-less d has t = drawn-sum (λ (y : Drawn). asks_for t y.asker) d v.drawn has (drawn-few d.number)
