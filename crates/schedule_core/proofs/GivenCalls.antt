-- The call of what a running task asks for, over the tasks that were seen at the records of what is given, and its first frame.
use Rattle.std.proofs.Common.{◌≡◌, ◌∙◌, ℕ, ◌+◌, Option, Some, None, List, [], ◌∷◌, map, refl, sym, ap, subst, arith}
use Rattle.std.specs.Prelude.{IfSome}
use Rattle.std.proofs.lemmas.List.{length-map}
use Rattle.std.proofs.lemmas.Option.{none-some, same_Some}
use Rattle.record_core.specs.Counting.{At, Has}
use Rattle.kt_words.specs.Capacity.{class_for}
use Rattle.task_syntax.specs.Form.{IsWellFormed}
use Rattle.task_syntax.specs.declared.program.Program.{Program}
use Rattle.task_meaning.specs.Worths.{OfAll}
use Rattle.frame_code.specs.Entries.{call_of, future_of}
use Rattle.frame_code.specs.Names.{names_of}
use Rattle.frame_code.specs.Units.{named_in}
use Rattle.frame_code.specs.Words.{BodyOf, body_of}
use Rattle.frame_code.proofs.WayLaws.{entries-way}
use Rattle.table_core.specs.Holdings.{Sight, SawTask}
use Rattle.table_core.specs.declared.view.View.{View}
use Rattle.table_core.proofs.ListFacts.{map_at, same_some}
use Rattle.schedule_rule.specs.Calls.{task_in, after_in}
use Rattle.schedule_rule.specs.Counts.{class_in}
use Rattle.schedule_rule.specs.DrawViews.{KnowsCall, KnowsTask}
use Rattle.schedule_rule.specs.PlacingViews.{IsFirstFrame, WasSeenAs, WereSeenAs}
use Rattle.schedule_core.specs.Making.{task_behind}
use Rattle.schedule_core.specs.NewTasks.{Begins, IsCallOver, call_made, class_given, number_seen, task_member, task_passed, units_given}
use Rattle.schedule_core.specs.SeenTasks.{task_seen, unit_behind}
use Rattle.schedule_core.specs.declared.making.Behind.{Behind}
use Rattle.schedule_core.specs.declared.new_tasks.Given.{Given}
use Rattle.schedule_core.specs.declared.new_tasks.Given.TheVariants as given
use Rattle.schedule_core.proofs.SpawnCalls.{seen-has, were-seen, knows-passed, is-call}
use Rattle.schedule_core.proofs.SpawnFrames.{entry-names, some-present}

-- the task of each record at these units was seen
abbrev pub AllSeen : List ℕ → List Sight → Type 0
AllSeen units sights = (k u : ℕ) → At units k u → (t : ℕ) × (task_seen u sights ≡ Some t)

-- and that of the predecessor
abbrev pub BehindSeen : Option Behind → List Sight → Type 0
BehindSeen behind sights = IfSome behind (λ b. task_seen b.unit sights ≡ Some b.task)

module _ (units : List ℕ) (v : View) (seen : AllSeen units v.sights) where
  -- the task of a member was seen at its record
  member-seen : (k u : ℕ) → At units k u → Has (SawTask u (task_member v.sights u)) v.sights
  member-seen k u at = let t = seen k u at in
      seen-has u (task_member v.sights u) v.sights (t.1 ∙ ap (λ (o : Option ℕ). Some (number_seen o)) (sym t.1))

  -- the units of the members were seen to be of their tasks
  pub members-were : WereSeenAs v (map Some units) (map Some (map (task_member v.sights) units))
  members-were = record {
    length_is = length-map units Some ∙ sym (length-map (map (task_member v.sights) units) Some ∙ length-map units (task_member v.sights));
    each = λ k unit task at_unit at_task.
        let x = map_at Some units k unit at_unit in let y = map_at Some (map (task_member v.sights) units) k task at_task in let z = map_at (task_member v.sights) units k y.0 y.1 in
        by k unit task x.0 x.1 x.2 (ap (λ (u : ℕ). Some (task_member v.sights u)) (same_some x.0 z.0 (sym x.1 ∙ z.1)) ∙ ap (λ (t : ℕ). Some t) z.2 ∙ y.2);
  }
    where
      by : (k : ℕ) (unit task : Option ℕ) (u : ℕ) → At units k u → Some u ≡ unit → Some (task_member v.sights u) ≡ task → WasSeenAs v unit task
      by k unit task u at is_unit is_task =
          subst (λ (o : Option ℕ). WasSeenAs v o task) is_unit (subst (λ (o : Option ℕ). WasSeenAs v (Some u) o) is_task (member-seen k u at))

  -- all of them are known
  pub members-known : (k t : ℕ) → At (map (task_member v.sights) units) k t → KnowsTask v t
  members-known k t at = let x = map_at (task_member v.sights) units k t at in (x.0, subst (λ (n : ℕ). Has (SawTask x.0 n) v.sights) x.2 (member-seen k x.0 x.1))

-- a predecessor whose task was seen is known
knows-behind : (behind : Option Behind) (v : View) → BehindSeen behind v.sights → IfSome (task_behind behind) (KnowsTask v)
knows-behind None v seen = tt
knows-behind (Some b) v seen = (b.unit, seen-has b.unit b.task v.sights seen)

-- the call may be made
pub knows-call : (p : Program) (new : Given) (wanted : Option ℕ) (words : List ℕ) (behind : Option Behind) (v : View) → Begins p new wanted words → AllSeen (units_given new) v.sights → BehindSeen behind v.sights
    → KnowsCall p v (call_made new behind v.sights)
knows-call p (given.Call kind passed) wanted words behind v begins seen behind_seen = (is-call passed v seen p kind begins.0 begins.1, (knows-passed passed v seen, knows-behind behind v behind_seen))
knows-call p (given.Members units) wanted words behind v begins seen behind_seen =
    let long = length-map units (task_member v.sights) in (tt, (omega (arith, begins.0, long), omega (arith, begins.1, long), members-known units v seen))

-- its block is of the class of what is given
pub class-is : (p : Program) (new : Given) (behind : Option Behind) (sights : List Sight) → class_given p new ≡ class_in p (Some (call_made new behind sights))
class-is p (given.Call kind passed) behind sights = refl
class-is p (given.Members units) behind sights = ap (λ (n : ℕ). class_for (1 + n)) (sym (length-map units (task_member sights)))

-- the words are its first frame
pub first-frame : (p : Program) (new : Given) (wanted : Option ℕ) (words : List ℕ) (behind : Option Behind) (v : View) → IsWellFormed p → Begins p new wanted words → AllSeen (units_given new) v.sights
    → IsFirstFrame p v (call_made new behind v.sights) (body_of p words)
first-frame p (given.Call kind passed) wanted words behind v formed begins seen = subst (IsFirstFrame p v (call_made (given.Call kind passed) behind v.sights)) (sym begins.2) (record {
  passed = call_of kind passed;
  kind = refl;
  numbers = refl;
  futures = were-seen passed v seen;
  is = refl;
  way = entries-way p (call_of kind passed) formed begins.0;
})
first-frame p (given.Members units) wanted words behind v formed begins seen =
    subst (IsFirstFrame p v (OfAll (map (task_member v.sights) units))) (sym begins.2) (members-were units v seen, refl)

-- what the first frame names is given
pub names-given : (p : Program) (new : Given) (wanted : Option ℕ) (words : List ℕ) → Begins p new wanted words → (w : ℕ) → Has w (named_in p words) → Has w (units_given new)
names-given p (given.Call kind passed) wanted words begins w has =
    some-present (map future_of passed) w (entry-names p (call_of kind passed) w (subst (λ (b : BodyOf ℕ). Has w (names_of b)) begins.2 has))
names-given p (given.Members units) wanted words begins w has = subst (λ (b : BodyOf ℕ). Has w (names_of b)) begins.2 has

-- the call is of a new task
pub call-new : (new : Given) (behind : Option Behind) (sights : List Sight) (n : ℕ) → task_in (Some (call_made new behind sights)) n ≡ n
call-new (given.Call kind passed) behind sights n = refl
call-new (given.Members units) behind sights n = refl

-- which is behind the predecessor
pub call-behind : (p : Program) (new : Given) (wanted : Option ℕ) (words : List ℕ) (behind : Option Behind) (sights : List Sight) → Begins p new wanted words → unit_behind behind ≡ wanted → BehindSeen behind sights
    → task_behind behind ≡ after_in (Some (call_made new behind sights))
call-behind p (given.Call kind passed) wanted words behind sights begins is seen = refl
call-behind p (given.Members []) wanted words behind sights begins is seen = absurd (omega (arith, begins.0))
call-behind p (given.Members (u ∷ units)) wanted words behind sights begins is seen = by behind (is ∙ begins.3) seen
  where
    by : (o : Option Behind) → unit_behind o ≡ Some u → BehindSeen o sights → task_behind o ≡ Some (task_member sights u)
    by None none seen' = absurd (none-some u none)
    by (Some b) some seen' = ap (λ (s : Option ℕ). Some (number_seen s)) (sym seen') ∙ ap (λ (w : ℕ). Some (task_member sights w)) (same_Some b.unit u some)

-- what was seen is seen later
module _ (v after : View) where
  later-seen : (unit task : Option ℕ) → ((u : ℕ) → unit ≡ Some u → (t : ℕ) → Has (SawTask u t) v.sights → Has (SawTask u t) after.sights) → WasSeenAs v unit task → WasSeenAs after unit task
  later-seen (Some u) (Some t) still seen = still u refl t seen
  later-seen (Some u) None still seen = absurd seen
  later-seen None (Some t) still seen = absurd seen
  later-seen None None still seen = tt

  -- so is the call over the tasks of what is given
  pub call-over : (new : Given) (behind : Option Behind) → AllSeen (units_given new) v.sights → ((u : ℕ) → Has u (units_given new) → (t : ℕ) → Has (SawTask u t) v.sights → Has (SawTask u t) after.sights)
      → IsCallOver after new (task_behind behind) (call_made new behind v.sights)
  call-over (given.Call kind passed) behind seen still = let were = were-seen passed v seen in (
    map (task_passed v.sights) passed,
    record {
      length_is = were.length_is;
      each = λ k unit task at_unit at_task.
          later-seen unit task (λ u is. still u (some-present (map future_of passed) u (k, at_unit ∙ ap (λ (o : Option ℕ). Some o) is))) (were.each k unit task at_unit at_task);
    },
    refl,
  )
  call-over (given.Members units) behind seen still = let were = members-were units v seen in (
    map (task_member v.sights) units,
    record {
      length_is = were.length_is;
      each = λ k unit task at_unit at_task.
          let x = map_at Some units k unit at_unit in
          later-seen unit task (λ u is. still u (k, x.1 ∙ ap (λ (w : ℕ). Some w) (same_Some x.0 u (x.2 ∙ is)))) (were.each k unit task at_unit at_task);
    },
    refl,
  )
