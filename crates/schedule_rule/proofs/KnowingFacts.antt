-- A pass knows more of the story: the table's rule reads nothing of that. And who is done is over.
use Rattle.std.proofs.Common.{◌≡◌, ◌∙◌, ℕ, zero, suc, ◌<◌, ◌≤◌, ◌==◌, cond, List, [], ◌∷◌, ◌++◌, map, refl, sym, ap, subst, arith}
use Rattle.std.specs.Prelude.{slice_set}
use Rattle.std.proofs.lemmas.Bool.{eq-eqb, eqb-true}
use Rattle.std.proofs.lemmas.List.{map-set}
use Rattle.record_core.specs.Counting.{At, Has, one_if}
use Rattle.record_core.proofs.BelowFacts.{below-member}
use Rattle.record_core.proofs.CountFacts.{passing-some}
use Rattle.record_core.proofs.TotalFacts.{none_there}
use Rattle.kt_words.specs.StateWords.{phase_of}
use Rattle.table_core.specs.Addresses.{Mem, state, task, units_of}
use Rattle.table_core.specs.Lists.{Each}
use Rattle.table_core.specs.Story.{Story, End, Fact}
use Rattle.table_core.specs.Parts.{Part as TablePart, pool, seen as table_seen, Says as TableSays, AllSay as TableAllSay}
use Rattle.table_core.specs.declared.setup.Setup.{Setup}
use Rattle.table_core.specs.declared.view.View.{View}
use Rattle.table_core.proofs.ListFacts.{each-set, each-append, at_map}
use Rattle.schedule_rule.specs.Calls.{ends_of, IsComplete, IsSo}
use Rattle.schedule_rule.specs.LifeViews.{knowing}
use Rattle.schedule_rule.specs.Numbers.{done_with}
use Rattle.schedule_rule.specs.Parts.{owners, facts, seen, AllSay}

same-table : (more : List Fact) (w : View) (q : TablePart) → table_seen q w ≡ table_seen q (knowing more w)
same-table more w pool = refl
same-table more w q = refl

-- the table's rule holds of a pass that knows more
pub table-knowing : (g : Setup) (s : Story) (m : Mem) (vs : List View) (id : ℕ) (more : List Fact) (w : View) → TableAllSay g s m (slice_set vs id w) → TableAllSay g s m (slice_set vs id (knowing more w))
table-knowing g s m vs id more w all q =
    let same : map (table_seen q) (slice_set vs id w) ≡ map (table_seen q) (slice_set vs id (knowing more w)) =
    map-set (table_seen q) vs id w ∙ ap (slice_set (map (table_seen q) vs) id) (same-table more w q) ∙ sym (map-set (table_seen q) vs id (knowing more w)) in
    subst (TableSays g q s m) same (all q)

-- a member of a list is one of the longer list
pub has-append : {A : Type 0} (x : A) (l more : List A) → Has x l → Has x (l ++ more)
has-append x [] more has = absurd (none_there x has.1)
has-append {A} x (y ∷ l) more has = by (has-append x l more) has.0 has.1
  where
    by : (Has x l → Has x (l ++ more)) → (k : ℕ) → At (y ∷ l) k x → Has x (y ∷ (l ++ more))
    by rest zero here = (0, here)
    by rest (suc k) there = let t = rest (k, there) in (suc t.0, t.1)

-- a part of the table's rule that reads the same of two views of a pass holds with either
pub table-alike : (g : Setup) (s : Story) (m : Mem) (vs : List View) (id : ℕ) (w w' : View) (q : TablePart) → table_seen q w ≡ table_seen q w' → TableSays g q s m (map (table_seen q) (slice_set vs id w))
    → TableSays g q s m (map (table_seen q) (slice_set vs id w'))
table-alike g s m vs id w w' q same says =
    let e : map (table_seen q) (slice_set vs id w) ≡ map (table_seen q) (slice_set vs id w') =
    map-set (table_seen q) vs id w ∙ ap (slice_set (map (table_seen q) vs) id) same ∙ sym (map-set (table_seen q) vs id w') in
    subst (TableSays g q s m) e says

-- a task with an end is complete
pub ended-complete : (ends : List End) (t : ℕ) → 1 ≤ ends_of t ends → IsComplete ends t
ended-complete ends t some =
    let has = (passing-some (λ (e : End). e.task == t) ends).0 some in
    let same : has.member ≡ record { task = t; outcome = (has.member).outcome } = ap (λ (n : ℕ). record { task = n; outcome = (has.member).outcome }) (eqb-true (has.member).task t has.passes) in
    ((has.member).outcome, (has.there.0, subst (λ (e : End). At ends has.there.0 e) same has.there.1))

module _ (g : Setup) (m : Mem) (vs : List View) (s : Story) (l : AllSay g s m vs) where
  -- the task of a done record is complete
  pub done-complete : (u : ℕ) → u < units_of g.plan → phase_of (m (state u)) ≡ 5 → IsComplete s.ends (m (task u))
  done-complete u near done =
      let here : done_with (λ w. m (state w)) (λ w. m (task w)) (m (task u)) u ≡ 1 = ap (λ (p : ℕ). cond (p == 5) (one_if (m (task u) == m (task u))) 0) done ∙ ap one_if (eq-eqb (m (task u)) (m (task u)) refl) in
      ended-complete s.ends (m (task u)) (omega (arith, here, (l.schedule owners).done (m (task u)), below-member (done_with (λ w. m (state w)) (λ w. m (task w)) (m (task u))) (units_of g.plan) u near))

  -- what is known more is so
  pub facts-known : (id : ℕ) (v : View) → At vs id v → (more : List Fact) → Each (IsSo s.calls s.ends) more → Each (Each (IsSo s.calls s.ends)) (slice_set (map (seen facts) vs) id (more ++ v.facts))
  facts-known id v at more so = each-set (Each (IsSo s.calls s.ends)) (map (seen facts) vs) id (more ++ v.facts) (l.schedule facts)
      (each-append (IsSo s.calls s.ends) more v.facts so (l.schedule facts id v.facts (at_map (seen facts) vs id v at)))
