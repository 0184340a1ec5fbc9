-- A number is drawn for the next activation of a run: the scheduler's rule is kept.
use Rattle.std.proofs.Common.{◌≡◌, ◌≢◌, ◌∙◌, inl, inr, ℕ, suc, ◌+◌, ◌%◌, ◌^◌, ◌<◌, ◌≤◌, false, Option, Some, List, map, length, refl, sym, ap, subst, true≢false, arith}
use Rattle.std.specs.Prelude.{slice_set, slice_get, slice_index, IfSome}
use Rattle.std.proofs.lemmas.Bool.{cases_lt}
use Rattle.record_core.specs.Counting.{At, Has}
use Rattle.record_core.specs.Numbers.{by_number}
use Rattle.record_core.proofs.NumberFacts.{at-in_range}
use Rattle.task_meaning.specs.Worths.{Accepted, OfCall, OfAll, Respawn}
use Rattle.frame_code.specs.Words.{BodyOf, OfKind, OfMembers, body_at}
use Rattle.table_core.specs.Addresses.{Mem, state, task, root, sum, put}
use Rattle.kt_words.specs.StateWords.{number_of}
use Rattle.table_core.specs.Asking.{OfTask}
use Rattle.table_core.specs.Holdings.{Run}
use Rattle.table_core.specs.Lists.{Each}
use Rattle.table_core.specs.Story.{Story}
use Rattle.table_core.specs.Views.{saw}
use Rattle.table_core.specs.declared.setup.Setup.{Setup}
use Rattle.table_core.specs.declared.view.View.{View}
use Rattle.table_core.specs.Parts.{totals}
use Rattle.table_core.proofs.ListFacts.{at_map, set_again, set_here, set_cases}
use Rattle.schedule_rule.specs.Calls.{task_of, IsNumber, IsBefore, NamesEarlier, begun, IsLast}
use Rattle.schedule_rule.specs.Askers.{IsNextOf, AskedSound}
use Rattle.schedule_rule.specs.Frames.{IsFrameOf}
use Rattle.schedule_rule.specs.RootTasks.{RootTask, RootTasksSound}
use Rattle.schedule_rule.specs.DrawViews.{drawn_for, ask_again, asking_again, drew, drew_again, drew_none, Drew, NextBehind}
use Rattle.schedule_rule.specs.Parts.{askers, framed, root_tasks, running, seen, AllSay, LawfulAfter, Keeps, counted_lives}
use Rattle.schedule_rule.proofs.AskingFacts.{its_task, is_run, is_task, one-run, no-saved, no-drawn, run-changed, asked-by_run, asks_now}
use Rattle.schedule_rule.proofs.ChangedFacts.{same-as, set-as, bag-as, IsMadeAs, IsRunAs}
use Rattle.schedule_rule.proofs.DrawKinds.{IsDraw, after_draw, story, drawn, class-stays}
use Rattle.schedule_rule.proofs.DrawKindsLimit.{none_drawn}
use Rattle.schedule_rule.proofs.KnownFacts.{seen-task, known-some, known-before}
use Rattle.schedule_rule.proofs.StoryFacts.{more, new, not-new, task-same, task-here, begun-same, begun-last, last-stays, root_tasks-stay, ComesNext}
use Rattle.schedule_rule.proofs.Rule.{same-story, one-call}

-- the roots' tasks are as before, once one more call is accepted
pub roots-stay : (g : Setup) (m : Mem) (calls : List Accepted) (a : Accepted) (vs : List RootTask) → RootTasksSound g.checked g.plan calls (λ w. m (task w)) (λ r. m (root r)) vs
    → RootTasksSound g.checked g.plan (more calls a) (λ w. m (task w)) (λ r. m (root r)) vs
roots-stay g m calls a vs was = record {
  own = was.own;
  are = root_tasks-stay calls a g.checked was.own was.are;
  rise = was.rise;
  few = was.few;
  named = was.named;
  drawn = was.drawn;
  of_turn = was.of_turn;
}

module _ (g : Setup) (id : ℕ) (v : View) where
  module _ (m : Mem) (vs : List View) (s : Story) (l : AllSay g s m vs) (at : At vs id v) (r : Run) (has : Has r v.runs) (not_asked : r.asked ≡ false) (none : r.unplaced ≡ 0) (waits : Option ℕ)
      (next : NextBehind v waits (body_at g.checked (slice_index r.words))) (may : v.may_draw ≡ 1) (in_use : 1 ≤ v.parts) where
    abbrev a : Accepted
    a = Respawn r.task waits

    abbrev t : ℕ
    t = its_task g id v m vs s l at r has

    task-is : r.task ≡ t
    task-is = (is_run g id v m vs s l at r has).task

    number : IsNumber s.calls r.number
    number = (is_run g id v m vs s l at r has).accepted

    last : IsLast s.calls r.number
    last = (is_run g id v m vs s l at r has).last not_asked

    frame-is : IsFrameOf g.checked s.calls (λ w. m (task w)) r.number (body_at g.checked (slice_index r.words))
    frame-is = (l.schedule framed).running id v.runs (at_map (seen framed) vs id v at) has.0 r has.1

    -- the call names earlier tasks
    names-earlier : NamesEarlier s.calls (new s.calls a) a
    names-earlier = (
      subst (IsBefore s.calls (new s.calls a)) (sym task-is) (omega (arith, (is_task g id v m vs s l at r has).0.1), is_task g id v m vs s l at r has),
      by (body_at g.checked (slice_index r.words)) next,
    )
      where
        by : (body : BodyOf ℕ) → NextBehind v waits body → IfSome waits (IsBefore s.calls (new s.calls a))
        by (OfKind q) knows = known-some g id v m vs s l at a waits knows
        by (OfMembers units next) knows = subst (λ (o : Option ℕ). IfSome o (IsBefore s.calls (new s.calls a))) (sym knows.4) (known-before g id v m vs s l at a knows.1 ((knows.0, knows.3)))

    -- an aggregate's run is behind its next member
    comes-next : ComesNext s.calls a
    comes-next t' members waits' same here = by (body_at g.checked (slice_index r.words)) next frame-is
      where
        same_t : t ≡ t'
        same_t = let e : r.task ≡ t' = cc in sym task-is ∙ e

        same_waits : waits ≡ waits'
        same_waits = cc

        begun-is : begun s.calls t' (new s.calls a) ≡ begun s.calls t r.number + 1
        begun-is = ap (λ (x : ℕ). begun s.calls x (new s.calls a)) (sym same_t) ∙ begun-last s.calls a r.number number last

        by : (body : BodyOf ℕ) → NextBehind v waits body → IsFrameOf g.checked s.calls (λ w. m (task w)) r.number body
            → (begun s.calls t' (new s.calls a) < length members) × (waits' ≡ slice_get members (begun s.calls t' (new s.calls a)))
        by (OfKind q) knows is = let one : Some (OfAll members) ≡ Some (OfCall is.0.0 is.0.1) = sym here ∙ ap (by_number s.calls) (sym same_t) ∙ is.0.2 in cc
        by (OfMembers units k) knows is =
            let one : Some (OfAll members) ≡ Some (OfAll (map (λ w. m (task w)) units)) = sym here ∙ ap (by_number s.calls) (sym same_t) ∙ is.0 in
            let members_are : members ≡ map (λ w. m (task w)) units = cc in
            let turn : begun s.calls t' (new s.calls a) ≡ k = begun-is ∙ sym is.1 in
            let member : At members k knows.1 = subst (λ (l : List ℕ). At l k knows.1) (sym members_are) (at_map (λ w. m (task w)) units k knows.0 knows.2 ∙ ap Some (seen-task g id v m vs s l at knows.0 knows.1 knows.3).1) in
            (subst (λ (x : ℕ). x < length members) (sym turn) (at-in_range members k knows.1 member), sym same_waits ∙ knows.4 ∙ sym member ∙ ap (slice_get members) (sym turn))

    abbrev runs : List Run
    runs = slice_set v.runs has.0 (ask_again r)

    alike : IsRunAs r (ask_again r)
    alike = record { unit = refl; class = refl; number = refl; task = refl; words = refl }

    not-of : (n : ℕ) → task_of s.calls n ≢ t → task_of s.calls n ≢ r.task
    not-of n ne e = ne (e ∙ task-is)

    -- the draw has what every draw needs
    is_draw : IsDraw g id v m vs s l at a v.made runs
    is_draw = record {
      names = names-earlier;
      suits = tt;
      next = comes-next;
      may = may;
      in_use = in_use;
      mades = same-as IsMadeAs v.made;
      run_as = set-as IsRunAs v.runs has.0 r (ask_again r) has.1 alike;
      bag = bag-as g.checked v.futures v.runs has.0 r (ask_again r) has.1 refl;
      numbered = omega arith;
      class = class-stays g id v m vs s l at a id v at;
      counted = (l.schedule counted_lives id (seen counted_lives v) (at_map (seen counted_lives) vs id v at)).made;
      saved_apart = λ w near saved. not-of (number_of (m (state w))) (no-saved g id v m vs s l at r has w near saved);
      drawn_apart = λ k x there j d there'. not-of d.number (no-drawn g id v m vs s l at r has not_asked k x there j d there');
      runs_apart = λ k x ne there j y there' _. not-of y.number (λ e. ne (one-run g id v m vs s l at r has k x there j y there' e).0);
      mine_last = mine;
    }
      where
        mine : Each (λ (y : Run). y.asked ≡ false → IsLast (more s.calls a) y.number) runs
        mine k y there still = elim (set_cases v.runs has.0 k (ask_again r) y there) [
          | inl e ↦ absurd (true≢false (sym (ap (λ (z : Run). z.asked) e.1) ∙ still))
          | inr old ↦
              let is = l.schedule running id v.runs (at_map (seen running) vs id v at) k y old.1 in
              last-stays s.calls a y.number (not-new s.calls a y.number is.accepted) (not-of y.number (λ e. old.0 (one-run g id v m vs s l at r has id v at k y old.1 e).1)) (is.last still)
        ]

    -- for whom numbers are drawn
    asks : AskedSound (more s.calls a) g.plan (asks_now g id v m vs s l at r has a (ask_again r) alike refl (λ _. refl) v.made (new s.calls a) r.unit)
    asks = asked-by_run g id v m vs s l at r has a (ask_again r) alike refl (λ _. refl) v.made (new s.calls a) r.unit none
        (λ _. inr its_next)
        (inr (ask_again r, (has.0, set_here v.runs has.0 r (ask_again r) has.1), its_next))
        (λ d there y there' _. there')
        (λ k y there some. let d = (l.schedule askers id (seen askers v) (at_map (seen askers) vs id v at)).made k y there some in (d.0, (suc d.1.0, d.1.1), d.2, d.3))
      where
        same_task : task_of (more s.calls a) r.number ≡ t
        same_task = task-same s.calls a r.number (not-new s.calls a r.number number)

        its_next : IsNextOf (more s.calls a) (drawn_for (new s.calls a) r.unit (OfTask t)) (ask_again r)
        its_next = record {
          unit = refl;
          asked = refl;
          asker = ap OfTask (sym same_task);
          task = task-here s.calls a ∙ task-is ∙ sym same_task;
          next = ap (λ (x : ℕ). begun (more s.calls a) x (new s.calls a)) same_task ∙ begun-same s.calls a t (new s.calls a) (omega arith) ∙ begun-last s.calls a r.number number last
              ∙ ap (λ (x : ℕ). x + 1) (sym (ap (λ (x : ℕ). begun (more s.calls a) x r.number) same_task ∙ begun-same s.calls a t r.number (omega (arith, number.1))));
        }

    -- the roots have the tasks that they had
    roots-say : RootTasksSound g.checked g.plan (more s.calls a) (λ w. m (task w)) (λ x. m (root x)) (slice_set (map (seen root_tasks) vs) id (seen root_tasks v))
    roots-say = subst (RootTasksSound g.checked g.plan (more s.calls a) (λ w. m (task w)) (λ x. m (root x))) (sym (set_again (map (seen root_tasks) vs) id (seen root_tasks v) (at_map (seen root_tasks) vs id v at)))
        (roots-stay g m s.calls a (map (seen root_tasks) vs) (l.schedule root_tasks))

    -- all parts, after the draw
    now : (low : m (sum 0) < g.plan.limit) → AllSay g (story g id v m vs s l at a v.made runs is_draw r.unit v.root_task (OfTask t) low) (put m (sum 0) ((m (sum 0) + 1) % 2 ^ 64))
        (slice_set vs id (after_draw g id v m vs s l at a v.made runs is_draw r.unit v.root_task (OfTask t) low))
    now low = drawn g id v m vs s l at a v.made runs is_draw r.unit v.root_task (OfTask t) low asks roots-say

    -- the view is what the step tells
    view-is : (low : m (sum 0) < g.plan.limit) → after_draw g id v m vs s l at a v.made runs is_draw r.unit v.root_task (OfTask t) low ≡ saw (sum 0) (m (sum 0)) (drew_again r.unit r.task a (m (sum 0) + 1) v)
    view-is low =
        ap (λ (rs : List Run). saw (sum 0) (m (sum 0)) (drew (drawn_for (new s.calls a) r.unit (OfTask t)) a v.made rs v.root_task v)) (sym (run-changed g id v m vs s l at r has ask_again))
        ∙ ap (λ (k : ℕ). saw (sum 0) (m (sum 0)) (drew (drawn_for k r.unit (OfTask t)) a v.made (asking_again r.unit v.runs) v.root_task v)) (omega (arith, (l.table totals).drawn, low))
        ∙ ap (λ (k : ℕ). saw (sum 0) (m (sum 0)) (drew (drawn_for (m (sum 0) + 1) r.unit (OfTask k)) a v.made (asking_again r.unit v.runs) v.root_task v)) (sym task-is)

  -- draw again: the run has not asked for its next activation
  pub draws-again-at : (r : Run) → Has r v.runs → r.asked ≡ false → r.unplaced ≡ 0 → (waits : Option ℕ) → NextBehind v waits (body_at g.checked (slice_index r.words)) → v.may_draw ≡ 1 → 1 ≤ v.parts
      → Keeps g id v (sum 0) (λ n. (n + 1) % 2 ^ 64) (Drew g.plan.limit (λ n. drew_again r.unit r.task (Respawn r.task waits) n v) (drew_none (OfTask r.task) v))
  draws-again-at r has not_asked none waits next may in_use m vs s l at small = elim (cases_lt (m (sum 0)) g.plan.limit) [
    | inl low ↦
        let same = view-is m vs s l at r has not_asked none waits next may in_use low in let new_view : View = saw (sum 0) (m (sum 0)) (drew_again r.unit r.task (Respawn r.task waits) (m (sum 0) + 1) v) in (
          new_view,
          subst (λ (w : View). LawfulAfter g s (put m (sum 0) ((m (sum 0) + 1) % 2 ^ 64)) (slice_set vs id w)) same (_, one-call s _, now m vs s l at r has not_asked none waits next may in_use low),
          ((λ _. refl), (λ far. absurd (omega (arith, low, far)))),
          (refl, refl, inl refl),
        )
    | inr far ↦ (
      saw (sum 0) (m (sum 0)) (drew_none (OfTask r.task) v),
      (s, same-story s, none_drawn g id v m vs s l at (OfTask r.task) may in_use (omega (arith, far))),
      ((λ low. absurd (omega (arith, low, far))), (λ _. refl)),
      (refl, refl, inl refl),
    )
  ]
