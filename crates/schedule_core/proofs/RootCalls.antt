-- The call of a root's line, over the tasks that were seen at the records of the roots that it names.
use Rattle.std.proofs.Common.{◌≡◌, ◌∙◌, ℕ, zero, suc, Option, Some, None, List, [], ◌∷◌, map, length, refl, sym, ap, subst, arith}
use Rattle.std.specs.Prelude.{IfSome, slice_get}
use Rattle.std.specs.Option.{option_to_list}
use Rattle.std.proofs.lemmas.Option.{none-some}
use Rattle.record_core.specs.Counting.{At, Has}
use Rattle.record_core.proofs.TotalFacts.{none_there}
use Rattle.task_syntax.specs.Valid.{IsValid, sort_of_root}
use Rattle.task_syntax.specs.declared.program.RootArgument.{RootArgument}
use Rattle.task_syntax.specs.declared.program.RootArgument.TheVariants as root_argument
use Rattle.task_syntax.specs.declared.program.Root.{Root as RootLine}
use Rattle.task_syntax.specs.declared.program.Program.{Program}
use Rattle.task_meaning.specs.Meant.{future_at}
use Rattle.task_meaning.specs.Roots.{root_call, root_future, root_number}
use Rattle.task_meaning.specs.RootLaws.{HasTask, NamesTasks, root_waits}
use Rattle.task_meaning.specs.Worths.{OfCall}
use Rattle.frame_code.specs.Entries.{future_of, number_of, sort_of_passed, AgreesWith}
use Rattle.frame_code.specs.Names.{present}
use Rattle.frame_code.specs.declared.entries.Passed.{Passed}
use Rattle.frame_code.specs.declared.entries.Passed.TheVariants as passed
use Rattle.table_core.specs.Holdings.{RootSays, Record, Null, Limit, Skipped, Sight}
use Rattle.table_core.specs.Lists.{Each}
use Rattle.table_core.specs.declared.view.View.{View}
use Rattle.table_core.proofs.ListFacts.{at_map, same_some}
use Rattle.schedule_rule.specs.DrawViews.{IsRootCall, KnowsRoots}
use Rattle.schedule_core.specs.Hosting.{IsBehindRoot, ArePassedAs, IsPassedAs}
use Rattle.schedule_core.specs.Making.{task_behind}
use Rattle.schedule_core.specs.NamedRoots.{SawLast}
use Rattle.schedule_core.specs.RootStages.{IsRootTask, units_of_task}
use Rattle.schedule_core.specs.SeenTasks.{task_seen, unit_behind}
use Rattle.schedule_core.specs.NewTasks.{call_made, task_passed}
use Rattle.schedule_core.specs.declared.new_tasks.Given.TheVariants as wanted
use Rattle.schedule_core.specs.declared.hosting.RootTask.{RootTask}
use Rattle.schedule_core.specs.declared.making.Behind.{Behind}
use Rattle.schedule_core.proofs.Placing.{has-before}
use Rattle.schedule_core.proofs.SpawnCalls.{seen-has}
use Rattle.schedule_core.proofs.SpawnFrames.{some-present}

-- the task that was seen at the record of a root
abbrev pub record_task : List Sight → RootSays → Option ℕ
record_task sights (Record u) = task_seen u sights
record_task sights Null = None
record_task sights Limit = None
record_task sights (Skipped j) = None

-- the tasks of all roots, as far as they were seen
abbrev pub known_tasks : List RootSays → List Sight → List (Option ℕ)
known_tasks asked sights = map (record_task sights) asked

-- what is known of a root was seen at its record
known-seen : (sights : List Sight) (asked : List RootSays) (r t : ℕ) → future_at (known_tasks asked sights) r ≡ Some t → (u : ℕ) × At asked r (Record u) × (task_seen u sights ≡ Some t)
known-seen sights [] r t is = absurd (none-some t is)
known-seen sights (Record u ∷ asked) zero t is = (u, refl, is)
known-seen sights (Null ∷ asked) zero t is = absurd (none-some t is)
known-seen sights (Limit ∷ asked) zero t is = absurd (none-some t is)
known-seen sights (Skipped j ∷ asked) zero t is = absurd (none-some t is)
known-seen sights (said ∷ asked) (suc r) t is = known-seen sights asked r t is

-- and what was seen there is known of it
pub seen-known : (sights : List Sight) (asked : List RootSays) (r u : ℕ) → At asked r (Record u) → future_at (known_tasks asked sights) r ≡ task_seen u sights
seen-known sights [] r u at = absurd (none_there (Record u) at)
seen-known sights (said ∷ asked) zero u at = ap (record_task sights) (same_some said (Record u) at)
seen-known sights (said ∷ asked) (suc r) u at = seen-known sights asked r u at

-- two lists that agree member by member are mapped to the same
map-same : {A B C : Type 0} (f : A → C) (h : B → C) (l : List A) (m : List B) → length l ≡ length m → ((k : ℕ) (x : A) (y : B) → At l k x → At m k y → f x ≡ h y) → map f l ≡ map h m
map-same f h [] [] long same = refl
map-same f h [] (y ∷ m) long same = absurd (omega (arith, long))
map-same f h (x ∷ l) [] long same = absurd (omega (arith, long))
map-same {C} f h (x ∷ l) (y ∷ m) long same = λ k. same 0 x y refl refl k ∷ map-same f h l m (omega (arith, long)) (λ j a b at_a at_b. same (suc j) a b at_a at_b) k

-- a list as long as another has a member where that has one
pub there-too : {A B : Type 0} (l : List A) (m : List B) (k : ℕ) (x : A) → length m ≡ length l → At l k x → (y : B) × At m k y
there-too [] m k x long at = absurd (none_there x at)
there-too (z ∷ l) [] k x long at = absurd (omega (arith, long))
there-too (z ∷ l) (y ∷ m) zero x long at = (y, refl)
there-too (z ∷ l) (y ∷ m) (suc k) x long at = there-too l m k x (omega (arith, long)) at

-- what is passed agrees with the arguments of the kind
pub passed-agrees : (p : Program) (at : ℕ) (line : RootLine) (asked : List RootSays) (given : List Passed) → IsValid p → slice_get p.roots at ≡ Some line → ArePassedAs asked line.arguments given → AgreesWith p line.kind given
passed-agrees p at line asked given valid there are kind is_kind =
    let agrees = (valid.roots at line there).agrees kind is_kind in
    (are.length_is ∙ agrees.0, λ k y x at_y at_x. let a = there-too given line.arguments k y (sym are.length_is) at_y in agrees.1 k a.0 x a.1 at_x ∙ by a.0 y (are.each k a.0 y a.1 at_y))
  where
    by : (a : RootArgument) (y : Passed) → IsPassedAs asked a y → sort_of_root a ≡ sort_of_passed y
    by (root_argument.Number n) y is = sym (ap sort_of_passed is)
    by (root_argument.Root r) y is = sym (ap sort_of_passed is.1)

module _ (p : Program) (line : RootLine) (asked : List RootSays) (x : RootTask) (v : View) (is : IsRootTask p line asked x) (seen : Each (λ u. (t : ℕ) × (task_seen u v.sights ≡ Some t)) (units_of_task x)) (last : SawLast x.behind v) where
  abbrev given : List Passed
  given = x.passed.items

  abbrev known : List (Option ℕ)
  known = known_tasks asked v.sights

  -- the record that is passed is one of the task's
  pub passed-unit : (k u : ℕ) → At given k (passed.Future u) → Has u (units_of_task x)
  passed-unit k u at = has-before u (present (map future_of given)) (option_to_list (unit_behind x.behind)) (some-present (map future_of given) u (k, at_map future_of given k (passed.Future u) at))

  knows : KnowsRoots v asked known
  knows r t at = let s = known-seen v.sights asked r t at in (s.0, s.1, seen-has s.0 t v.sights s.2)

  arguments : (k : ℕ) (a : RootArgument) → At line.arguments k a → NamesTasks known a
  arguments k a at = let there = there-too line.arguments given k a is.passes.length_is at in by k a there.0 there.1 (is.passes.each k a there.0 at there.1)
    where
      by : (k : ℕ) (a : RootArgument) (y : Passed) → At given k y → IsPassedAs asked a y → NamesTasks known a
      by k (root_argument.Number n) y at_y so = tt
      by k (root_argument.Root r) y at_y so =
          let there = passed-unit k so.0 (subst (λ (z : Passed). At given k z) so.1 at_y) in let t = seen there.0 so.0 there.1 in
          (t.0, seen-known v.sights asked r so.0 so.2 ∙ t.1)

  waits : IfSome line.behind (HasTask known)
  waits = by line.behind x.behind is.behind last
    where
      by : (o : Option ℕ) (b : Option Behind) → IsBehindRoot asked o b → SawLast b v → IfSome o (HasTask known)
      by None b so saw = tt
      by (Some r) None so saw = absurd so
      by (Some r) (Some b) so saw = (b.task, seen-known v.sights asked r b.unit so ∙ saw)

  waits-is : task_behind x.behind ≡ root_waits known line.behind
  waits-is = by line.behind x.behind is.behind last
    where
      by : (o : Option ℕ) (b : Option Behind) → IsBehindRoot asked o b → SawLast b v → task_behind b ≡ root_waits known o
      by None None so saw = refl
      by None (Some b) so saw = absurd so
      by (Some r) None so saw = absurd so
      by (Some r) (Some b) so saw = sym (seen-known v.sights asked r b.unit so ∙ saw)

  numbers : map number_of given ≡ map root_number line.arguments
  numbers = map-same number_of root_number given line.arguments is.passes.length_is (λ k y a at_y at_a. by a y (is.passes.each k a y at_a at_y))
    where
      by : (a : RootArgument) (y : Passed) → IsPassedAs asked a y → number_of y ≡ root_number a
      by (root_argument.Number n) y so = ap number_of so
      by (root_argument.Root r) y so = ap number_of so.1

  futures : map (task_passed v.sights) given ≡ map (root_future known) line.arguments
  futures = map-same (task_passed v.sights) (root_future known) given line.arguments is.passes.length_is (λ k y a at_y at_a. by a y (is.passes.each k a y at_a at_y))
    where
      by : (a : RootArgument) (y : Passed) → IsPassedAs asked a y → task_passed v.sights y ≡ root_future known a
      by (root_argument.Number n) y so = ap (task_passed v.sights) so
      by (root_argument.Root r) y so = ap (task_passed v.sights) so.1 ∙ sym (seen-known v.sights asked r so.0 so.2)

  -- the call is that of the line
  pub call-is : call_made (wanted.Call line.kind given) x.behind v.sights ≡ OfCall (root_call known line) (root_waits known line.behind)
  call-is k = OfCall (record { kind = line.kind; numbers = numbers k; futures = futures k }) (waits-is k)

  pub is-root_call : IsRootCall v asked line (call_made (wanted.Call line.kind given) x.behind v.sights)
  is-root_call = record { known = known; knows = knows; arguments = arguments; waits = waits; is = call-is }
