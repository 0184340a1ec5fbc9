-- A number is drawn for a new task by an act of a run: the scheduler's rule is kept.
use Rattle.std.proofs.Common.{◌≡◌, ◌∙◌, inl, inr, ℕ, ◌+◌, ◌%◌, ◌^◌, ◌<◌, ◌≤◌, false, Some, List, map, refl, sym, ap, subst, arith}
use Rattle.std.specs.Prelude.{slice_set}
use Rattle.std.proofs.lemmas.Bool.{cases_lt}
use Rattle.record_core.specs.Counting.{At, Has}
use Rattle.task_meaning.specs.Worths.{Accepted}
use Rattle.table_core.specs.Addresses.{Mem, task, root, sum, put}
use Rattle.table_core.specs.Asking.{OfTask}
use Rattle.table_core.specs.Holdings.{Made, Run}
use Rattle.table_core.specs.Lists.{Each}
use Rattle.table_core.specs.Story.{Story}
use Rattle.table_core.specs.Views.{saw}
use Rattle.table_core.specs.declared.setup.Setup.{Setup}
use Rattle.table_core.specs.declared.view.View.{View}
use Rattle.table_core.specs.Parts.{totals}
use Rattle.table_core.proofs.ListFacts.{at_map, set_again, set_cases}
use Rattle.schedule_rule.specs.Calls.{IsNumber, IsLast, Suits}
use Rattle.schedule_rule.specs.Askers.{AskedSound}
use Rattle.schedule_rule.specs.Counts.{class_in}
use Rattle.schedule_rule.specs.RootTasks.{RootTasksSound}
use Rattle.schedule_rule.specs.DrawViews.{drawn_for, with_number, ask, asking, drew, drew_for_run, drew_none, Drew, KnowsNamed, KnowsCall}
use Rattle.schedule_rule.specs.Parts.{root_tasks, running, seen, AllSay, LawfulAfter, Keeps}
use Rattle.schedule_rule.proofs.AskingFacts.{its_task, is_run, run-changed, asked-by_run, asks_now}
use Rattle.schedule_rule.proofs.ChangedFacts.{set-as, bag-as, IsRunAs}
use Rattle.schedule_rule.proofs.DrawKinds.{IsDraw, after_draw, story, drawn, none-of_new}
use Rattle.schedule_rule.proofs.DrawKindsAgain.{roots-stay}
use Rattle.schedule_rule.proofs.DrawKindsLimit.{none_drawn}
use Rattle.schedule_rule.proofs.DrawKindsNew.{begins-task, numbered, made-changed, new-draw, is-first, first-kept, all-drawn}
use Rattle.schedule_rule.proofs.StoryFacts.{more, new, not-new, last-stays}
use Rattle.schedule_rule.proofs.Rule.{same-story, one-call}

module _ (g : Setup) (id : ℕ) (v : View) where
  module _ (m : Mem) (vs : List View) (s : Story) (l : AllSay g s m vs) (at : At vs id v) (a : Accepted) (suits : Suits g.checked a) (knows : KnowsNamed v a) (y : Made) (has : Has y v.made) (no_number : y.number ≡ 0)
      (class_is : y.class ≡ class_in g.checked (Some a)) (r : Run) (runs_r : Has r v.runs) (none : r.unplaced ≡ 0) (may : v.may_draw ≡ 1) (in_use : 1 ≤ v.parts) where
    abbrev t : ℕ
    t = its_task g id v m vs s l at r runs_r

    abbrev made : List Made
    made = numbered g id v m vs s l at a suits knows y has no_number class_is

    abbrev runs : List Run
    runs = slice_set v.runs runs_r.0 (ask r)

    alike : IsRunAs r (ask r)
    alike = record { unit = refl; class = refl; number = refl; task = refl; words = refl }

    still-last : (z : Run) → IsNumber s.calls z.number → IsLast s.calls z.number → IsLast (more s.calls a) z.number
    still-last z number last = last-stays s.calls a z.number (not-new s.calls a z.number number) (none-of_new g id v m vs s l at a (begins-task v a (new s.calls a) knows).0 z.number number) last

    -- a run that has not asked has the last number of its task
    mine : Each (λ (z : Run). z.asked ≡ false → IsLast (more s.calls a) z.number) runs
    mine k z there still = elim (set_cases v.runs runs_r.0 k (ask r) z there) [
      | inl e ↦
          let is = is_run g id v m vs s l at r runs_r in
          subst (λ (x : Run). IsLast (more s.calls a) x.number) (sym e.1) (still-last r is.accepted (is.last (sym (ap (λ (x : Run). x.asked) e.1) ∙ still)))
      | inr old ↦ let is = l.schedule running id v.runs (at_map (seen running) vs id v at) k z old.1 in still-last z is.accepted (is.last still)
    ]

    -- the draw has what every draw needs
    is_draw : IsDraw g id v m vs s l at a made runs
    is_draw = new-draw g id v m vs s l at a suits knows y has no_number class_is runs may in_use (set-as IsRunAs v.runs runs_r.0 r (ask r) runs_r.1 alike)
        (bag-as g.checked v.futures v.runs runs_r.0 r (ask r) runs_r.1 refl) mine

    -- for whom numbers are drawn
    asks : AskedSound (more s.calls a) g.plan (asks_now g id v m vs s l at r runs_r a (ask r) alike refl (λ e. e) made (new s.calls a) y.unit)
    asks = asked-by_run g id v m vs s l at r runs_r a (ask r) alike refl (λ e. e) made (new s.calls a) y.unit none inl
        (inl (is-first g id v m vs s l at a suits knows y has no_number class_is (OfTask t)))
        (first-kept g id v m vs s l at a suits knows y has no_number class_is)
        (all-drawn g id v m vs s l at a suits knows y has no_number class_is (OfTask t))

    -- the roots have the tasks that they had
    roots-say : RootTasksSound g.checked g.plan (more s.calls a) (λ w. m (task w)) (λ x. m (root x)) (slice_set (map (seen root_tasks) vs) id (seen root_tasks v))
    roots-say = subst (RootTasksSound g.checked g.plan (more s.calls a) (λ w. m (task w)) (λ x. m (root x))) (sym (set_again (map (seen root_tasks) vs) id (seen root_tasks v) (at_map (seen root_tasks) vs id v at)))
        (roots-stay g m s.calls a (map (seen root_tasks) vs) (l.schedule root_tasks))

    -- all parts, after the draw
    now : (low : m (sum 0) < g.plan.limit) → AllSay g (story g id v m vs s l at a made runs is_draw y.unit v.root_task (OfTask t) low) (put m (sum 0) ((m (sum 0) + 1) % 2 ^ 64))
        (slice_set vs id (after_draw g id v m vs s l at a made runs is_draw y.unit v.root_task (OfTask t) low))
    now low = drawn g id v m vs s l at a made runs is_draw y.unit v.root_task (OfTask t) low asks roots-say

    -- the view is what the step tells
    view-is : (low : m (sum 0) < g.plan.limit) → after_draw g id v m vs s l at a made runs is_draw y.unit v.root_task (OfTask t) low ≡ saw (sum 0) (m (sum 0)) (drew_for_run y.unit r.unit r.task a (m (sum 0) + 1) v)
    view-is low =
        ap (λ (rs : List Run). saw (sum 0) (m (sum 0)) (drew (drawn_for (new s.calls a) y.unit (OfTask t)) a made rs v.root_task v)) (sym (run-changed g id v m vs s l at r runs_r ask))
        ∙ ap (λ (ms : List Made). saw (sum 0) (m (sum 0)) (drew (drawn_for (new s.calls a) y.unit (OfTask t)) a ms (asking r.unit v.runs) v.root_task v)) (sym (made-changed g id v m vs s l at a suits knows y has no_number class_is))
        ∙ ap (λ (k : ℕ). saw (sum 0) (m (sum 0)) (drew (drawn_for k y.unit (OfTask t)) a (with_number y.unit k v.made) (asking r.unit v.runs) v.root_task v)) (omega (arith, (l.table totals).drawn, low))
        ∙ ap (λ (k : ℕ). saw (sum 0) (m (sum 0)) (drew (drawn_for (m (sum 0) + 1) y.unit (OfTask k)) a (with_number y.unit (m (sum 0) + 1) v.made) (asking r.unit v.runs) v.root_task v))
        (sym (is_run g id v m vs s l at r runs_r).task)

  -- draw for a run: the call is of a new task, whose record is made in a block of its class
  pub draws-for_run-at : (a : Accepted) → KnowsCall g.checked v a → (y : Made) → Has y v.made → y.number ≡ 0 → y.class ≡ class_in g.checked (Some a) → (r : Run) → Has r v.runs → r.unplaced ≡ 0 → v.may_draw ≡ 1 → 1 ≤ v.parts
      → Keeps g id v (sum 0) (λ n. (n + 1) % 2 ^ 64) (Drew g.plan.limit (λ n. drew_for_run y.unit r.unit r.task a n v) (drew_none (OfTask r.task) v))
  draws-for_run-at a knows y has no_number class_is r runs_r none may in_use m vs s l at small = elim (cases_lt (m (sum 0)) g.plan.limit) [
    | inl low ↦
        let same = view-is m vs s l at a knows.0 knows.1 y has no_number class_is r runs_r none may in_use low in let new_view : View = saw (sum 0) (m (sum 0)) (drew_for_run y.unit r.unit r.task a (m (sum 0) + 1) v) in (
          new_view,
          subst (λ (w : View). LawfulAfter g s (put m (sum 0) ((m (sum 0) + 1) % 2 ^ 64)) (slice_set vs id w)) same (_, one-call s _, now m vs s l at a knows.0 knows.1 y has no_number class_is r runs_r none may in_use low),
          ((λ _. refl), (λ far. absurd (omega (arith, low, far)))),
          (refl, refl, inl refl),
        )
    | inr far ↦ (
      saw (sum 0) (m (sum 0)) (drew_none (OfTask r.task) v),
      (s, same-story s, none_drawn g id v m vs s l at (OfTask r.task) may in_use (omega (arith, far))),
      ((λ low. absurd (omega (arith, low, far))), (λ _. refl)),
      (refl, refl, inl refl),
    )
  ]
