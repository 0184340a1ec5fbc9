-- The call of a new task, over the tasks that were seen at what is passed.
use Rattle.std.proofs.Common.{◌≡◌, ◌∙◌, ℕ, suc, ◌<◌, ◌==◌, Bool, true, false, cond, Option, Some, None, List, [], ◌∷◌, map, length, refl, sym, ap, subst}
use Rattle.std.specs.Prelude.{IfSome}
use Rattle.std.proofs.lemmas.Bool.{eqb-true}
use Rattle.std.proofs.lemmas.List.{length-map}
use Rattle.std.proofs.lemmas.Option.{none-some, same_Some}
use Rattle.record_core.specs.Counting.{At, Has}
use Rattle.task_syntax.specs.declared.program.Program.{Program}
use Rattle.frame_code.specs.Entries.{future_of, number_of, sort_of_passed, AgreesWith}
use Rattle.frame_code.specs.Names.{present}
use Rattle.frame_code.specs.declared.entries.Passed.{Passed}
use Rattle.frame_code.specs.declared.entries.Passed.TheVariants as passed
use Rattle.table_core.specs.Holdings.{Sight, SawHead, SawTask, SawDone}
use Rattle.table_core.specs.declared.view.View.{View}
use Rattle.table_core.proofs.ListFacts.{map_at, at_map, same_some}
use Rattle.schedule_rule.specs.Calls.{IsCallOf, sort_passed}
use Rattle.schedule_rule.specs.DrawViews.{KnowsTask}
use Rattle.schedule_rule.specs.PlacingViews.{WasSeenAs, WereSeenAs}
use Rattle.schedule_core.specs.SeenTasks.{task_seen}
use Rattle.schedule_core.specs.NewTasks.{task_passed}
use Rattle.schedule_core.proofs.SpawnFrames.{some-present}

-- the task that was seen last was seen
pub seen-has : (u t : ℕ) (l : List Sight) → task_seen u l ≡ Some t → Has (SawTask u t) l
seen-has u t [] e = absurd (none-some t e)
seen-has u t (SawTask w x ∷ more) e = by (w == u) refl (seen-has u t more) e
  where
    by : (b : Bool) → (w == u) ≡ b → (task_seen u more ≡ Some t → Has (SawTask u t) more) → cond b (Some x) (task_seen u more) ≡ Some t → Has (SawTask u t) (SawTask w x ∷ more)
    by true here deeper is = (0, λ k. Some (SawTask (eqb-true w u here k) (same_Some x t is k)))
    by false apart deeper is = let s = deeper is in (suc s.0, s.1)
seen-has u t (SawHead w x ∷ more) e = let s = seen-has u t more e in (suc s.0, s.1)
seen-has u t (SawDone w x ∷ more) e = let s = seen-has u t more e in (suc s.0, s.1)

-- the task of each future that is passed was seen
abbrev pub AreSeen : List Passed → List Sight → Type 0
AreSeen given sights = (k u : ℕ) → At (present (map future_of given)) k u → (t : ℕ) × (task_seen u sights ≡ Some t)

module _ (given : List Passed) (v : View) (seen : AreSeen given v.sights) where
  -- that of one of them
  one-seen : (k u : ℕ) → At given k (passed.Future u) → (t : ℕ) × (task_seen u v.sights ≡ Some t)
  one-seen k u at = let there = some-present (map future_of given) u (k, at_map future_of given k (passed.Future u) at) in seen there.0 u there.1

  -- the units were seen to be of the tasks
  pub were-seen : WereSeenAs v (map future_of given) (map (task_passed v.sights) given)
  were-seen = record {
    length_is = length-map given future_of ∙ sym (length-map given (task_passed v.sights));
    each = λ k unit task at_unit at_task.
        let x = map_at future_of given k unit at_unit in let y = map_at (task_passed v.sights) given k task at_task in
        by k unit task x.0 x.1 x.2 (ap (λ (z : Passed). task_passed v.sights z) (same_some x.0 y.0 (sym x.1 ∙ y.1)) ∙ y.2);
  }
    where
      by : (k : ℕ) (unit task : Option ℕ) (a : Passed) → At given k a → future_of a ≡ unit → task_passed v.sights a ≡ task → WasSeenAs v unit task
      by k unit task (passed.Number n) at is_unit is_task = subst (λ (o : Option ℕ). WasSeenAs v o task) is_unit (subst (λ (o : Option ℕ). WasSeenAs v None o) is_task tt)
      by k unit task (passed.Future u) at is_unit is_task = let t = one-seen k u at in
          subst (λ (o : Option ℕ). WasSeenAs v o task) is_unit (subst (λ (o : Option ℕ). WasSeenAs v (Some u) o) (sym t.1 ∙ is_task) (seen-has u t.0 v.sights t.1))

  -- all tasks of the call are known
  pub knows-passed : (k : ℕ) (o : Option ℕ) → At (map (task_passed v.sights) given) k o → IfSome o (KnowsTask v)
  knows-passed k o at = let x = map_at (task_passed v.sights) given k o at in by x.0 x.2
    where
      of_future : (u : ℕ) (z : Option ℕ) → task_seen u v.sights ≡ z → IfSome z (KnowsTask v)
      of_future u None is = tt
      of_future u (Some t) is = (u, seen-has u t v.sights is)

      by : (a : Passed) → task_passed v.sights a ≡ o → IfSome o (KnowsTask v)
      by (passed.Number n) is = subst (λ (z : Option ℕ). IfSome z (KnowsTask v)) is tt
      by (passed.Future u) is = of_future u o is

  -- and the program may make the call
  pub is-call : (p : Program) (kind : ℕ) → kind < length p.kinds → AgreesWith p kind given → IsCallOf p (record { kind = kind; numbers = map number_of given; futures = map (task_passed v.sights) given })
  is-call p kind fits agrees = record {
    kind = fits;
    numbers = λ k there. length-map given number_of ∙ (agrees k there).0;
    futures = λ k there. (
      length-map given (task_passed v.sights) ∙ (agrees k there).0,
      λ at o x at_o at_x. let a = map_at (task_passed v.sights) given at o at_o in (agrees k there).1 at a.0 x a.1 at_x ∙ same_sort at a.0 a.1 ∙ ap sort_passed a.2,
    );
  }
    where
      same_sort : (k : ℕ) (a : Passed) → At given k a → sort_of_passed a ≡ sort_passed (task_passed v.sights a)
      same_sort k (passed.Number n) at = refl
      same_sort k (passed.Future u) at = let t = one-seen k u at in sym (ap sort_passed t.1)
