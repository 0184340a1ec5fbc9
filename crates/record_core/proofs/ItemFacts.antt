-- A sound end is all of its items.
use Rattle.std.proofs.Common.{◌≡◌, ◌↔◌, ℕ, Some}
use Rattle.std.specs.Prelude.{slice_get}
use Rattle.task_syntax.specs.declared.program.Program.{Program}
use Rattle.task_syntax.specs.declared.columns.Columns.{Columns}
use Rattle.record_core.specs.EndSeen.{EndSeen, RunPlan}
use Rattle.record_core.specs.EndSound.{EndSound, IsRootSound}
use Rattle.record_core.specs.EndItems.{EndItems}
use Rattle.record_core.specs.declared.rows.RootEnd.{RootEnd}
use Rattle.record_core.specs.declared.rows.RootEnd.TheVariants.{Value, Cut}
use Rattle.record_core.specs.declared.rows.CutFrom.TheVariants.{Host, Root, Task}

module _ (p : Program) (c : Columns) (plan : RunPlan) (e : EndSeen) where
  -- a sound end has each item
  items_of : EndSound p c plan e → EndItems p c plan e
  items_of sound = record {
    own = sound.own;
    stamped = record { beside = sound.beside; of_tasks = sound.of_tasks; started = sound.started; finished = sound.finished; stamped = sound.stamped };
    ordered = sound.ordered;
    values = λ at v there. sound.roots at (Value v) there;
    cuts = record { of_tasks = λ at t tag there. sound.roots at (Cut tag (Task t)) there; named = sound.named; causes = sound.causes; caused = sound.caused };
    held = record { classes = sound.held_classes; held = sound.held };
    nulls = record { nulls = sound.nulls; once = sound.nulls_once; evidence = sound.evidence };
    kept = record {
      superblocks = sound.superblocks;
      units = sound.units;
      as_many = sound.as_many;
      within = sound.within;
      limited = sound.limited;
      limited_root = sound.limited_root;
    };
  }

  -- each root is sound by the items of values and of cuts
  root_of : EndItems p c plan e → (at : ℕ) (end : RootEnd) → slice_get e.roots at ≡ Some end → IsRootSound p c e at end
  root_of items at (Value v) there = items.values at v there
  root_of items at (Cut tag Host) there = tt
  root_of items at (Cut tag (Root r)) there = tt
  root_of items at (Cut tag (Task t)) there = items.cuts.of_tasks at t tag there

  -- an end with each item is sound
  of_items : EndItems p c plan e → EndSound p c plan e
  of_items items = record {
    beside = items.stamped.beside;
    of_tasks = items.stamped.of_tasks;
    started = items.stamped.started;
    finished = items.stamped.finished;
    stamped = items.stamped.stamped;
    ordered = items.ordered;
    own = items.own;
    roots = root_of items;
    named = items.cuts.named;
    causes = items.cuts.causes;
    caused = items.cuts.caused;
    held_classes = items.held.classes;
    held = items.held.held;
    nulls = items.nulls.nulls;
    nulls_once = items.nulls.once;
    evidence = items.nulls.evidence;
    superblocks = items.kept.superblocks;
    units = items.kept.units;
    as_many = items.kept.as_many;
    within = items.kept.within;
    limited = items.kept.limited;
    limited_root = items.kept.limited_root;
  }

-- an end is sound exactly where it has each item
pub sound_by_items : (p : Program) (c : Columns) (plan : RunPlan) (e : EndSeen) → EndSound p c plan e ↔ EndItems p c plan e
sound_by_items p c plan e = (items_of p c plan e, of_items p c plan e)
