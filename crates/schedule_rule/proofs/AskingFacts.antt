-- A running record asks for one number more: nothing else is of its task.
use Rattle.std.proofs.Common.{◌≡◌, ◌≢◌, ◌∙◌, ◌⊎◌, inl, inr, ℕ, suc, ◌+◌, ◌<◌, ◌≤◌, ◌==◌, Bool, true, false, List, [], ◌∷◌, map, refl, sym, ap, subst, true≢false, arith}
use Rattle.std.specs.Prelude.{slice_set, slice_get, cond}
use Rattle.std.proofs.lemmas.Bool.{cases_eq, eq-eqb, ne_eqb}
use Rattle.record_core.specs.Sums.{total}
use Rattle.record_core.specs.Counting.{At, Has, one_if, passing}
use Rattle.record_core.proofs.BelowFacts.{below-member}
use Rattle.record_core.proofs.CountFacts.{passing-one}
use Rattle.record_core.proofs.TotalFacts.{total-member, total-two_members, slice_get-set_other}
use Rattle.kt_words.specs.StateWords.{number_of}
use Rattle.task_meaning.specs.Worths.{Accepted, OfAll}
use Rattle.table_core.specs.Addresses.{Mem, state, task, units_of}
use Rattle.table_core.specs.Asking.{Asker, OfRoot, OfTask, Drawn}
use Rattle.table_core.specs.Holdings.{Made, Run}
use Rattle.table_core.specs.Lists.{Each}
use Rattle.table_core.specs.Own.{Hands, runs_at}
use Rattle.table_core.specs.References.{is_saved}
use Rattle.table_core.specs.Story.{Story}
use Rattle.table_core.specs.WaitViews.{is_run_at}
use Rattle.table_core.specs.Parts.{own, seen as table_seen}
use Rattle.table_core.specs.declared.setup.Setup.{Setup}
use Rattle.table_core.specs.declared.view.View.{View}
use Rattle.table_core.proofs.ListFacts.{at_map, same_some, each-cons, set_cases, set_here, total-has}
use Rattle.table_core.proofs.ReferenceBound.{in-few}
use Rattle.schedule_rule.specs.Calls.{task_of, IsTaskOf, begun}
use Rattle.schedule_rule.specs.Rows.{drawn_at}
use Rattle.schedule_rule.specs.Numbers.{saved_at, in_hands, IsRun}
use Rattle.schedule_rule.specs.Askers.{Asks, asks_for, IsAsker, IsNextOf, HasNext, IsFirstOf, IsForRecord, AskedSound}
use Rattle.schedule_rule.specs.DrawViews.{changed}
use Rattle.schedule_rule.specs.Parts.{names, askers, owners, running, seen, AllSay}
use Rattle.schedule_rule.proofs.AskFacts.{asker-stays, record-stays, next-stays, unplaced-stays}
use Rattle.schedule_rule.proofs.ChangedFacts.{changed-one, IsRunAs}
use Rattle.schedule_rule.proofs.DrawKinds.{drawn-numbers, run-numbers}
use Rattle.schedule_rule.proofs.StateFacts.{saved-record}
use Rattle.schedule_rule.proofs.StoryFacts.{more, not-new, task-same, task-of-number}

module _ (g : Setup) (id : ℕ) (v : View) (m : Mem) (vs : List View) (s : Story) (l : AllSay g s m vs) (at : At vs id v) (r : Run) (has : Has r v.runs) where
  -- the task of the run
  abbrev pub its_task : ℕ
  its_task = task_of s.calls r.number

  -- what is said of the run
  pub is_run : IsRun g.plan s.calls r
  is_run = l.schedule running id v.runs (at_map (seen running) vs id v at) has.0 r has.1

  -- its task is an accepted one
  pub is_task : IsTaskOf s.calls its_task
  is_task = (task-of-number s.calls (OfAll []) (l.schedule names) r.number is_run.accepted).0

  hands_at : (j : ℕ) (x : View) → At vs j x → At (map (seen owners) vs) j (seen owners x)
  hands_at j x there = at_map (seen owners) vs j x there

  -- this hand has the task, and once alone
  mine-some : 1 ≤ passing (λ (y : Run). task_of s.calls y.number == its_task) v.runs
  mine-some = omega (arith, total-has (λ (y : Run). one_if (task_of s.calls y.number == its_task)) v.runs r has, ap one_if (eq-eqb its_task its_task refl))

  mine-few : in_hands s.calls its_task (seen owners v) ≤ 1
  mine-few = omega (arith, (l.schedule owners).once its_task is_task, total-member (in_hands s.calls its_task) (map (seen owners) vs) id (seen owners v) (hands_at id v at))

  -- only this hand has its task
  one-hand : (j : ℕ) (x : View) → At vs j x → 1 ≤ in_hands s.calls its_task (seen owners x) → j ≡ id
  one-hand j x there some = elim (cases_eq j id) [
    | inl e ↦ e
    | inr ne ↦ absurd (omega (
      arith,
      mine-some,
      some,
      (l.schedule owners).once its_task is_task,
      total-two_members (in_hands s.calls its_task) (map (seen owners) vs) j id (seen owners x) (seen owners v) ne (hands_at j x there) (hands_at id v at),
    ))
  ]

  -- and no other run is of it
  pub one-run : (j : ℕ) (x : View) → At vs j x → (i : ℕ) (y : Run) → At x.runs i y → task_of s.calls y.number ≡ its_task → (j ≡ id) × (i ≡ has.0)
  one-run j x there i y there' same =
      let some : 1 ≤ passing (λ (z : Run). task_of s.calls z.number == its_task) x.runs =
      omega (arith, total-member (λ (z : Run). one_if (task_of s.calls z.number == its_task)) x.runs i y there', ap one_if (eq-eqb (task_of s.calls y.number) its_task same)) in
      let here : j ≡ id = one-hand j x there (omega (arith, some)) in
      let is_v : x ≡ v = same_some x v (sym there ∙ ap (slice_get vs) here ∙ at) in (
        here,
        passing-one (λ (z : Run). task_of s.calls z.number == its_task) v.runs i has.0 y r (omega (arith, mine-few)) (subst (λ (z : View). At z.runs i y) is_v there') (eq-eqb (task_of s.calls y.number) its_task same) has.1 (eq-eqb its_task its_task refl),
      )

  -- no record that waits or is ready is of its task
  pub no-saved : (w : ℕ) → w < units_of g.plan → is_saved (m (state w)) ≡ true → task_of s.calls (number_of (m (state w))) ≢ its_task
  no-saved w near saved same =
      let of = (l.schedule owners).is_of w near (saved-record (m (state w)) saved) in
      let counts : saved_at (λ x. m (state x)) (λ x. m (task x)) its_task w ≡ 1 =
      ap (λ (b : Bool). cond b (one_if (m (task w) == its_task)) 0) saved ∙ ap one_if (eq-eqb (m (task w)) its_task (of.1 ∙ same)) in
      omega (
        arith,
        counts,
        mine-some,
        below-member (saved_at (λ x. m (state x)) (λ x. m (task x)) its_task) (units_of g.plan) w near,
        (l.schedule owners).once its_task is_task,
        total-member (in_hands s.calls its_task) (map (seen owners) vs) id (seen owners v) (hands_at id v at),
      )

  -- no number of its task is drawn, while it has not asked for its own next one
  pub no-drawn : r.asked ≡ false → (j : ℕ) (x : View) → At vs j x → Each (λ (d : Drawn). task_of s.calls d.number ≢ its_task) x.drawn
  no-drawn not_asked j x there i d there' same = by ((l.schedule askers j (seen askers x) (at_map (seen askers) vs j x there)).asker i d there').1
    where
      by : IsForRecord s.calls (seen askers x) d → ⊥
      by (inl t) =
          let first : d.number ≡ its_task = sym t.2.task ∙ same in
          let some : 1 ≤ drawn_at its_task x.drawn = omega (arith, total-has (λ (y : Drawn). one_if (y.number == its_task)) x.drawn d (i, there'), ap one_if (eq-eqb d.number its_task first)) in
          let here : j ≡ id = one-hand j x there (omega (arith, some)) in
          omega (arith, mine-few, mine-some, subst (λ (z : View). 1 ≤ drawn_at its_task z.drawn) (same_some x v (sym there ∙ ap (slice_get vs) here ∙ at)) some)
      by (inr t) =
          let one = one-run j x there t.1.0 t.0 t.1.1 (sym t.2.task ∙ same) in
          let is_v : x ≡ v = same_some x v (sym there ∙ ap (slice_get vs) one.0 ∙ at) in
          let is_r : t.0 ≡ r = same_some t.0 r (sym t.1.1 ∙ ap (λ (z : View). slice_get z.runs t.1.0) is_v ∙ ap (slice_get v.runs) one.1 ∙ has.1) in
          true≢false (sym t.2.asked ∙ ap (λ (y : Run). y.asked) is_r ∙ not_asked)

  -- the list in which the run at its unit is changed
  pub run-changed : (f : Run → Run) → changed (is_run_at r.unit) f v.runs ≡ slice_set v.runs has.0 (f r)
  run-changed f = changed-one (is_run_at r.unit) f v.runs has.0 r has.1 (eq-eqb r.unit r.unit refl) (omega (
    arith,
    (l.table own).running r.unit,
    in-few g m vs s l.table 4 r.unit,
    total-member (λ (h : Hands). runs_at r.unit h.runs) (map (table_seen own) vs) id (table_seen own v) (at_map (table_seen own) vs id v at),
  ))

  -- it asks
  module _ (a : Accepted) (r' : Run) (alike : IsRunAs r r') (asks : r'.unplaced ≡ r.unplaced + 1) (still : r.asked ≡ true → r'.asked ≡ true) where
    abbrev calls : List Accepted
    calls = more s.calls a

    abbrev runs : List Run
    runs = slice_set v.runs has.0 r'

    has_now : Has r' runs
    has_now = (has.0, set_here v.runs has.0 r r' has.1)

    -- what holds of a run holds of one in the new list, where it is not lost by the change
    run-now : (P : Run → Type 0) → (P r → P r') → (y : Run) → Has y v.runs → P y → (z : Run) × Has z runs × P z
    run-now P same y there p = elim (cases_eq there.0 has.0) [
      | inl e ↦ (r', has_now, same (subst P (same_some y r (sym there.1 ∙ ap (slice_get v.runs) e ∙ has.1)) p))
      | inr ne ↦ (y, (there.0, slice_get-set_other v.runs has.0 there.0 r' (λ e. ne (sym e)) ∙ there.1), p)
    ]

    -- a number that the run drew for itself is one still
    next-now : (d : Drawn) → IsNextOf calls d r → IsNextOf calls d r'
    next-now d is = record {
      unit = alike.unit ∙ is.unit;
      asked = still is.asked;
      asker = is.asker ∙ ap (λ (k : ℕ). OfTask (task_of calls k)) (sym alike.number);
      task = is.task ∙ ap (task_of calls) (sym alike.number);
      next = subst (λ (k : ℕ). begun calls (task_of calls k) d.number ≡ begun calls (task_of calls k) k + 1) (sym alike.number) is.next;
    }

    same_task : task_of calls r'.number ≡ its_task
    same_task = ap (task_of calls) alike.number ∙ task-same s.calls a r.number (not-new s.calls a r.number is_run.accepted)

    was : AskedSound s.calls g.plan (seen askers v)
    was = l.schedule askers id (seen askers v) (at_map (seen askers) vs id v at)

    -- for whom numbers are drawn, with the new one, that was drawn for this run's task
    module _ (made : List Made) (n u : ℕ) where
      abbrev pub new_drawn : Drawn
      new_drawn = record { number = n; unit = u; asker = OfTask its_task }

      abbrev pub asks_now : Asks
      asks_now = record { made = made; runs = runs; drawn = new_drawn ∷ v.drawn; turn = v.turn; root_task = v.root_task }

      asker-now : (k : ℕ) (asker : Asker) → IsAsker calls g.plan (seen askers v) k asker → IsAsker calls g.plan asks_now k asker
      asker-now k (OfTask t) is = run-now (λ (y : Run). task_of calls y.number ≡ t) (λ e. ap (task_of calls) alike.number ∙ e) is.0 is.1 is.2
      asker-now k (OfRoot root) is = is

      record-now : ((d : Drawn) → Has d v.drawn → (y : Made) → Has y v.made → IsFirstOf calls d y → Has y made) → (d : Drawn) → Has d v.drawn → IsForRecord calls (seen askers v) d → IsForRecord calls asks_now d
      record-now kept d there (inl t) = inl (t.0, kept d there t.0 t.1 t.2, t.2)
      record-now kept d there (inr t) = inr (run-now (IsNextOf calls d) (next-now d) t.0 t.1 t.2)

      unplaced-now : Each (λ (y : Run). y.unplaced ≡ total (λ (d : Drawn). asks_for (task_of calls y.number) d.asker) (new_drawn ∷ v.drawn)) runs
      unplaced-now k y there = elim (set_cases v.runs has.0 k r' y there) [
        | inl t ↦ subst (λ (z : Run). z.unplaced ≡ total (λ (d : Drawn). asks_for (task_of calls z.number) d.asker) (new_drawn ∷ v.drawn)) (sym t.1)
            (omega (
              arith,
              asks,
              unplaced-stays s.calls a v.drawn r is_run.accepted (was.unplaced has.0 r has.1),
              ap (λ (j : ℕ). total (λ (d : Drawn). asks_for (task_of calls j) d.asker) v.drawn) alike.number,
              ap one_if (eq-eqb its_task (task_of calls r'.number) (sym same_task)),
            ))
        | inr t ↦
            let number = run-numbers g id v m vs s l at id v at k y t.1 in
            omega (
              arith,
              unplaced-stays s.calls a v.drawn y number (was.unplaced k y t.1),
              ap one_if (ne_eqb its_task (task_of calls y.number) (λ e. t.0 (one-run id v at k y t.1 (sym (task-same s.calls a y.number (not-new s.calls a y.number number)) ∙ sym e)).1)),
            )
      ]

      -- no run has more than one
      one-now : r.unplaced ≡ 0 → Each (λ (y : Run). y.unplaced ≤ 1) runs
      one-now none k y there = elim (set_cases v.runs has.0 k r' y there) [
        | inl t ↦ subst (λ (z : Run). z.unplaced ≤ 1) (sym t.1) (omega (arith, asks, none))
        | inr t ↦ was.one k y t.1
      ]

      -- the next number that a run had drawn is drawn still
      next-drawn : (k : ℕ) (y : Run) → At v.runs k y → y.asked ≡ true → HasNext calls (new_drawn ∷ v.drawn) y
      next-drawn k y there e = let t = was.asked k y there e in (
        t.0,
        (suc t.1.0, t.1.1),
        next-stays s.calls a t.0 y (drawn-numbers g id v m vs s l at id v at t.1.0 t.0 t.1.1) (run-numbers g id v m vs s l at id v at k y there) t.2,
      )

      -- a run that asked for its next number has it drawn
      asked-now : (r'.asked ≡ true → (r.asked ≡ true) ⊎ IsNextOf calls new_drawn r') → Each (λ (y : Run). y.asked ≡ true → HasNext calls (new_drawn ∷ v.drawn) y) runs
      asked-now again k y there e = elim (set_cases v.runs has.0 k r' y there) [
        | inl t ↦ subst (HasNext calls (new_drawn ∷ v.drawn)) (sym t.1) (by (again (sym (ap (λ (z : Run). z.asked) t.1) ∙ e)))
        | inr t ↦ next-drawn k y t.1 e
      ]
        where
          by : (r.asked ≡ true) ⊎ IsNextOf calls new_drawn r' → HasNext calls (new_drawn ∷ v.drawn) r'
          by (inl before) = let t = next-drawn has.0 r has.1 before in (t.0, t.1, next-now t.0 t.2)
          by (inr is) = (new_drawn, (0, refl), is)

      pub asked-by_run : r.unplaced ≡ 0 → (r'.asked ≡ true → (r.asked ≡ true) ⊎ IsNextOf calls new_drawn r') → IsForRecord calls asks_now new_drawn → ((d : Drawn) → Has d v.drawn → (y : Made) → Has y v.made → IsFirstOf calls d y → Has y made)
          → Each (λ (y : Made). y.number ≢ 0 → (d : Drawn) × Has d (new_drawn ∷ v.drawn) × (d.unit ≡ y.unit) × (d.number ≡ y.number)) made → AskedSound calls g.plan asks_now
      asked-by_run none again for_new kept mades = record {
        asker = each-cons _ new_drawn v.drawn ((r', has_now, same_task), for_new) (λ k d there. let t = was.asker k d there in (
          asker-now d.number d.asker (asker-stays s.calls a g.plan (seen askers v) (drawn-numbers g id v m vs s l at id v at) (run-numbers g id v m vs s l at id v at) d.number d.asker t.0),
          record-now kept d (k, there) (record-stays s.calls a g.plan (seen askers v) (drawn-numbers g id v m vs s l at id v at) (run-numbers g id v m vs s l at id v at) d (drawn-numbers g id v m vs s l at id v at k d there) t.1),
        ));
        made = mades;
        unplaced = unplaced-now;
        one = one-now none;
        asked = asked-now again;
      }
