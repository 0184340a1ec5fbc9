-- A spawn from its request on: the first frame is made once the block is there.
use Rattle.std.proofs.Common.{◌≡◌, ◌∙◌, ℕ, ◌+◌, ◌^◌, ◌<◌, Option, Some, None, List, map, refl, sym, ap, subst, arith}
use Rattle.std.specs.Prelude.{IfSome}
use Rattle.record_core.specs.Counting.{At, Has}
use Rattle.task_syntax.specs.Form.{IsWellFormed}
use Rattle.task_syntax.specs.Valid.{IsValid}
use Rattle.task_syntax.specs.declared.program.Program.{Program}
use Rattle.task_meaning.specs.Worths.{Accepted}
use Rattle.frame_code.specs.Entries.{future_of, number_of, AgreesWith, IsEntryOf, MayEnterWith, Passes}
use Rattle.frame_code.specs.Frames.{IsFrame}
use Rattle.frame_code.specs.Units.{named_in}
use Rattle.frame_code.specs.Words.{body_of}
use Rattle.frame_code.specs.declared.act.SpawnRequest.{SpawnRequest}
use Rattle.frame_code.specs.declared.entries.Passed.{Passed}
use Rattle.table_core.specs.declared.setup.Setup.{Setup}
use Rattle.table_core.specs.declared.view.View.{View}
use Rattle.table_core.proofs.ReferenceBound.{units-few}
use Rattle.schedule_rule.specs.PlacingViews.{WasSeenAs}
use Rattle.memory_pool.specs.Answers.{Refuses}
use Rattle.step_table.specs.declared.tokens.Block.{Block}
use Rattle.schedule_core.specs.Making.{task_behind}
use Rattle.schedule_core.specs.NewTasks.{GetsTask, Makes, Wants, kind_class}
use Rattle.schedule_core.specs.Runs.{IsInStep}
use Rattle.schedule_core.specs.Spawning.{MaySpawn, MaySpawnBlock, Spawns, named_if}
use Rattle.schedule_core.specs.declared.answers.Spawned.{Spawned}
use Rattle.schedule_core.specs.declared.answers.Spawned.TheVariants as spawned
use Rattle.schedule_core.specs.declared.new_tasks.Given.TheVariants as given
use Rattle.schedule_core.specs.declared.new_tasks.NewTask.{NewTask}
use Rattle.schedule_core.specs.declared.running.Running.{Running}
use Rattle.schedule_core.proofs.AskingActs.{stands-asking}
use Rattle.schedule_core.proofs.SpawnFrames.{may-enter, passed-named, present-some}
use Rattle.schedule_core.proofs.SpawnRequests.{IsSpawnable, spawnable, first-names}
use Rattle.schedule_core.proofs.SpawnSights.{named-near, named-there}

-- what is passed may enter the kind
pub may-enter_block : (g : Setup) (x : Running) (request : SpawnRequest) (b : Block) (v : View) (q : Program) (passed shown : List Passed) → MaySpawnBlock g x request b v → q ≡ g.checked → IsWellFormed q
    → IsValid q → Passes q request x.frame.items passed → AgreesWith q request.kind passed → shown ≡ passed → MayEnterWith q request.kind shown
may-enter_block g x request b v q passed shown may same formed valid passes agrees is = subst (MayEnterWith q request.kind) (sym is)
    (subst (λ (p : Program). MayEnterWith p request.kind passed) (sym same)
    (may-enter g.checked request.kind passed (subst IsWellFormed same formed) facts.kind_fits (subst (λ (p : Program). AgreesWith p request.kind passed) same agrees) small))
  where
    facts : IsSpawnable g.checked request (body_of g.checked x.frame.items)
    facts = spawnable g x request may.base (subst IsWellFormed same formed) (subst IsValid same valid) may.may

    small : (k u : ℕ) → At (map future_of passed) k (Some u) → u + 1 < 2 ^ 64
    small k u at = omega (
      arith,
      units-few g.plan,
      named-near g x may.base may.may.in_step may.near u
          (passed-named g.checked request (body_of g.checked x.frame.items) passed facts.passes (subst (λ (p : Program). Passes p request x.frame.items passed) same passes) k u at),
    )

-- the unit of the predecessor is small
pub behind-small : (g : Setup) (x : Running) (request : SpawnRequest) (b : Block) (v : View) → MaySpawnBlock g x request b v → IfSome (named_if g.checked x.frame.items request.behind) (λ u. u < 2 ^ 32)
behind-small g x request b v may = by (named_if g.checked x.frame.items request.behind) refl
  where
    by : (o : Option ℕ) → named_if g.checked x.frame.items request.behind ≡ o → IfSome o (λ u. u < 2 ^ 32)
    by None e = tt
    by (Some u) e = omega (arith, units-few g.plan, named-near g x may.base may.may.in_step may.near u (named-there g.checked x.frame.items request.behind u e))

-- what is made for the request
abbrev pub new_for : SpawnRequest → List Passed → Option ℕ → NewTask → NewTask
new_for request passed wanted new = record new { given = given.Call request.kind passed; behind = wanted; to = request.to; priority = request.priority }

module _ (g : Setup) (x : Running) (request : SpawnRequest) (v : View) (q : Program) (passed : List Passed) (wanted : Option ℕ) (new : NewTask) (may : MaySpawn g x request v) (same : q ≡ g.checked)
    (passes : Passes q request x.frame.items passed) (is_wanted : wanted ≡ named_if q x.frame.items request.behind) where
  its_passes : Passes g.checked request x.frame.items passed
  its_passes = subst (λ (p : Program). Passes p request x.frame.items passed) same passes

  its_wanted : wanted ≡ named_if g.checked x.frame.items request.behind
  its_wanted = is_wanted ∙ ap (λ (p : Program). named_if p x.frame.items request.behind) same

  behind-named : (o : Option ℕ) → named_if g.checked x.frame.items request.behind ≡ o → IfSome o (λ u. Has u (named_in g.checked x.frame.items))
  behind-named None e = tt
  behind-named (Some u) e = named-there g.checked x.frame.items request.behind u e

  -- it is what the task asks for
  pub wants-spawn : (shown : List Passed) → IsWellFormed q → IsValid q → AgreesWith q request.kind passed → shown ≡ passed → IsFrame q new.first.items → IsEntryOf q request.kind shown new.first.items
      → Wants g x (new_for request passed wanted new) v
  wants-spawn shown formed valid agrees is frame entry = record {
    in_step = may.in_step;
    formed = subst IsWellFormed same formed;
    stands = stands-asking g.checked g.columns request (body_of g.checked x.frame.items) may.asks;
    variable = facts.variable;
    named = λ k u at. let t = present-some (map future_of passed) u (k, at) in passed-named g.checked request (body_of g.checked x.frame.items) passed facts.passes its_passes t.0 u t.1;
    behind = behind-named wanted (sym its_wanted);
    frame = subst (λ (p : Program). IsFrame p new.first.items) same frame;
    begins = (facts.kind_fits, its_agrees, its_entry);
    names = first-names g.checked request.kind passed new.first.items (subst IsWellFormed same formed) (subst IsValid same valid) facts.kind_fits its_agrees its_entry;
  }
    where
      facts : IsSpawnable g.checked request (body_of g.checked x.frame.items)
      facts = spawnable g x request v (subst IsWellFormed same formed) (subst IsValid same valid) may

      its_agrees : AgreesWith g.checked request.kind passed
      its_agrees = subst (λ (p : Program). AgreesWith p request.kind passed) same agrees

      its_entry : IsEntryOf g.checked request.kind passed new.first.items
      its_entry = subst (λ (p : Program). IsEntryOf p request.kind passed new.first.items) same (subst (λ (l : List Passed). IsEntryOf q request.kind l new.first.items) is entry)

  -- and once it is made, the request is met
  pub made-spawned : Wants g x (new_for request passed wanted new) v → (told : Spawned) (after : View) → Makes g x (new_for request passed wanted new) v told after → Spawns g x request v told after
  made-spawned wants (spawned.Future future entry) after m = record {
    number = m.number;
    given = passed;
    passes = its_passes;
    call = record { kind = request.kind; numbers = map number_of passed; futures = m.call_is.0 };
    kind_is = refl;
    numbers_are = refl;
    futures_are = m.call_is.1;
    waits = task_behind m.behind;
    waits_for = subst (λ (o : Option ℕ). WasSeenAs after o (task_behind m.behind)) its_wanted m.behind_seen;
    behind = m.behind;
    behind_is = m.behind_is ∙ its_wanted;
    words = new.first.items;
    is_frame = wants.frame;
    first = wants.begins.2;
    gets = subst (λ (a : Accepted). GetsTask g x request.to (kind_class g.checked request.kind) request.priority m.number new.first.items a m.behind v future entry after) m.call_is.2 m.gets;
  }
  made-spawned wants spawned.Null after m = m
  made-spawned wants spawned.Over after m = m

-- a refused one goes on as it was
pub refused-in-step : (g : Setup) (class : ℕ) (x : Running) (old new : View) → IsInStep g x old → Refuses g.plan class old new → IsInStep g x new
refused-in-step g class x old new s refuses = subst (IsInStep g x) (sym refuses.stays) (record {
  run = s.run;
  at = record { is_block = s.at.is_block; there = s.at.there };
  number_is = s.number_is;
  task_is = s.task_is;
  placed = s.placed;
  unasked = s.unasked;
  frame = s.frame;
  way = s.way;
  names = s.names;
  same = s.same;
  spare = record { there = s.spare.there; bag = s.spare.bag };
})

-- what was answered to it says nothing of its frame
pub answered-in-step : (g : Setup) (x y : Running) (v : View) → y ≡ record x { refused = y.refused; made = y.made } → IsInStep g x v → IsInStep g y v
answered-in-step g x y v is s = subst (λ (z : Running). IsInStep g z v) (sym is) (record {
  run = s.run;
  at = s.at;
  number_is = s.number_is;
  task_is = s.task_is;
  placed = s.placed;
  unasked = s.unasked;
  frame = s.frame;
  way = s.way;
  names = s.names;
  same = s.same;
  spare = s.spare;
})
