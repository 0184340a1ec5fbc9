-- An aggregate from its request on: the first frame is made once the block is there.
use Rattle.std.proofs.Common.{◌≡◌, ◌∙◌, ℕ, ◌<◌, ◌≤◌, Option, Some, None, List, [], ◌∷◌, map, length, refl, sym, ap, subst, arith}
use Rattle.std.specs.Prelude.{slice_get, slice_index}
use Rattle.std.proofs.lemmas.List.{length-map}
use Rattle.std.proofs.lemmas.Option.{none-some, same_Some}
use Rattle.record_core.specs.Counting.{At, Has}
use Rattle.task_syntax.specs.Form.{IsWellFormed}
use Rattle.task_syntax.specs.Valid.{IsValid}
use Rattle.task_syntax.specs.declared.program.Program.{Program}
use Rattle.task_meaning.specs.Worths.{Accepted, OfAll}
use Rattle.ready_queues.specs.declared.entry.Entry.{Entry}
use Rattle.frame_code.specs.Entries.{IsFrameOfMembers}
use Rattle.frame_code.specs.Setting.{unit_of}
use Rattle.frame_code.specs.Units.{named_in, units_of as units_in}
use Rattle.frame_code.specs.Words.{BodyOf, body_of}
use Rattle.frame_code.specs.declared.act.AllRequest.{AllRequest}
use Rattle.table_core.specs.Addresses.{units_of}
use Rattle.table_core.specs.Lists.{Each}
use Rattle.table_core.specs.declared.setup.Setup.{Setup}
use Rattle.table_core.specs.declared.view.View.{View}
use Rattle.table_core.proofs.ListFacts.{map_at, at_map}
use Rattle.schedule_rule.specs.Calls.{after_in, first_in}
use Rattle.schedule_rule.specs.Frames.{HoldsNames}
use Rattle.schedule_rule.specs.PlacingViews.{WereSeenAs}
use Rattle.memory_pool.specs.Answers.{Refuses}
use Rattle.step_table.specs.declared.record_tokens.Future.{Future}
use Rattle.schedule_core.specs.Begins.{MetLimit}
use Rattle.schedule_core.specs.Making.{task_behind}
use Rattle.schedule_core.specs.NewTasks.{GetsTask, Makes, Wants, HasMade, asking_of, group_class}
use Rattle.schedule_core.specs.SeenTasks.{unit_behind}
use Rattle.schedule_core.specs.SpawningAll.{MaySpawnAll, SpawnsAll, HasSpawnedAll, units_all}
use Rattle.schedule_core.specs.declared.answers.Spawned.{Spawned}
use Rattle.schedule_core.specs.declared.answers.Spawned.TheVariants as spawned
use Rattle.schedule_core.specs.declared.making.Behind.{Behind}
use Rattle.schedule_core.specs.declared.new_tasks.Given.TheVariants as given
use Rattle.schedule_core.specs.declared.new_tasks.NewTask.{NewTask}
use Rattle.schedule_core.specs.declared.running.Running.{Running}
use Rattle.schedule_core.proofs.AllActs.{AsksFormed, asks-formed, members-named, all-present}
use Rattle.schedule_core.proofs.AskingActs.{stands-asking_all}
use Rattle.schedule_core.proofs.SpawnFrames.{present-some}
use Rattle.schedule_core.proofs.SpawnSights.{variable-named, named-near}

-- what is made for the request, by the units of its members and the first of them
abbrev pub group_for : AllRequest → List ℕ → ℕ → NewTask → NewTask
group_for request units first new = record new { given = given.Members units; behind = Some first; to = request.to; priority = request.priority }

module _ (g : Setup) (x : Running) (request : AllRequest) (v : View) (q : Program) (units : List ℕ) (may : MaySpawnAll g x request v) (same : q ≡ g.checked) (formed : IsWellFormed q) (valid : IsValid q)
    (are : units ≡ units_in (body_of q x.frame.items) request.members) where
  pub its-formed : AsksFormed g.checked request (body_of g.checked x.frame.items)
  its-formed = asks-formed g.checked g.columns request (body_of g.checked x.frame.items) (subst IsWellFormed same formed) may.asks

  units-are : units ≡ units_in (body_of g.checked x.frame.items) request.members
  units-are = are ∙ ap (λ (p : Program). units_in (body_of p x.frame.items) request.members) same

  -- each member names one
  member-named : (k y : ℕ) → At request.members k y → (u : ℕ) × (unit_of (body_of g.checked x.frame.items) y ≡ Some u)
  member-named = members-named g.checked g.columns request (body_of g.checked x.frame.items) (subst IsWellFormed same formed) (subst IsValid same valid) may.asks (may.in_step).names

  -- they are all that the members name
  units-all : map Some units ≡ units_all g x request
  units-all = ap (λ (l : List ℕ). map Some l) units-are ∙ all-present (units_all g x request) (λ k o at. by k o at)
    where
      by : (k : ℕ) (o : Option ℕ) → At (units_all g x request) k o → (u : ℕ) × (o ≡ Some u)
      by k o at = let y = map_at (unit_of (body_of g.checked x.frame.items)) request.members k o at in let u = member-named k y.0 y.1 in (u.0, sym y.2 ∙ u.1)

  pub units-long : length units ≡ length request.members
  units-long = sym (length-map units Some) ∙ ap length units-all ∙ length-map request.members (unit_of (body_of g.checked x.frame.items))

  -- each is named by the frame
  unit-named : (k u : ℕ) → At units k u → Has u (named_in g.checked x.frame.items)
  unit-named k u at =
      let there = present-some (units_all g x request) u (k, subst (λ (l : List ℕ). At l k u) units-are at) in
      let y = map_at (unit_of (body_of g.checked x.frame.items)) request.members there.0 (Some u) there.1 in
      variable-named (body_of g.checked x.frame.items) y.0 u y.2

  -- and is a unit of the table
  pub unit-near : Each (λ u. u < units_of g.plan) v.futures → (k u : ℕ) → At units k u → u < units_of g.plan
  unit-near near k u at = named-near g x v may.in_step near u (unit-named k u at)

  module _ (first : ℕ) (new : NewTask) (there : At units 0 first) (frame : IsFrameOfMembers units new.first.items) where
    -- the aggregate is what the task asks for
    pub wants-all : Wants g x (group_for request units first new) v
    wants-all = record {
      in_step = may.in_step;
      formed = subst IsWellFormed same formed;
      stands = stands-asking_all g.checked g.columns request (body_of g.checked x.frame.items) may.asks;
      variable = its-formed.variable;
      named = unit-named;
      behind = unit-named 0 first there;
      frame = (frame g.checked).0;
      begins = (
        omega (arith, its-formed.some, units-long),
        omega (arith, its-formed.few, units-long),
        (frame g.checked).1,
        sym there,
      );
      names = subst (λ (b : BodyOf ℕ). HoldsNames g.checked b) (sym (frame g.checked).1) tt;
    }

    first-there : (members : List ℕ) (t : ℕ) → first_in members ≡ Some t → slice_get members 0 ≡ Some t
    first-there [] t is = absurd (none-some t is)
    first-there (m ∷ members) t is = is

    -- and once it is made, the request is met
    spawned-all : (future : Future) (entry : Option Entry) (after : View) → HasMade g x (group_for request units first new) v future entry after → HasSpawnedAll g x request v future entry after
    spawned-all future entry after m = by m.behind m.behind_is m.after_is m.gets
      where
        by : (o : Option Behind) → unit_behind o ≡ Some first → task_behind o ≡ after_in (Some m.call)
            → GetsTask g x request.to (group_class (length units)) request.priority m.number new.first.items m.call o v future entry after → HasSpawnedAll g x request v future entry after
        by None none after_is gets = absurd (none-some first none)
        by (Some b) some after_is gets = record {
          number = m.number;
          members = m.call_is.0;
          were_seen = subst (λ (l : List (Option ℕ)). WereSeenAs after l (map Some m.call_is.0)) units-all m.call_is.1;
          behind = b;
          first_is = ap (λ (l : List (Option ℕ)). slice_get l 0) (sym units-all) ∙ at_map Some units 0 first there ∙ ap (λ (u : ℕ). Some (Some u)) (sym (same_Some b.unit first some));
          waits_for = first-there m.call_is.0 b.task (sym (after_is ∙ ap (λ (a : Accepted). after_in (Some a)) m.call_is.2));
          units = units;
          units_are = sym units-all;
          words = new.first.items;
          is_frame = (frame g.checked).0;
          frame = (frame g.checked).1;
          gets = subst (λ (n : ℕ). GetsTask g x request.to (group_class n) request.priority m.number new.first.items (OfAll m.call_is.0) (Some b) v future entry after) units-long
              (subst (λ (a : Accepted). GetsTask g x request.to (group_class (length units)) request.priority m.number new.first.items a (Some b) v future entry after) m.call_is.2 gets);
        }

    pub made-all : (told : Spawned) (after : View) → Makes g x (group_for request units first new) v told after → SpawnsAll g x request v told after
    made-all (spawned.Future future entry) after m = spawned-all future entry after m
    made-all spawned.Null after m = subst (λ (n : ℕ). Refuses g.plan (group_class n) v after) units-long m
    made-all spawned.Over after m = subst (λ (n : ℕ). MetLimit g (group_class n) (asking_of x) v after) units-long m

-- what stands first in a list is its member at 0
pub first-at : (l : List ℕ) → 1 ≤ length l → At l 0 (slice_index l 0)
first-at [] some = absurd (omega (arith, some))
first-at (u ∷ l) some = refl
