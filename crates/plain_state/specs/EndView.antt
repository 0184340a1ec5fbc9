-- What an ended engine answers.
use Rattle.std.specs.Prelude.{ℕ, Option, Some, None, [], ◌∷◌, map, slice_get}
use Rattle.record_core.specs.EndSeen.{EndSeen, RunPlan}
use Rattle.record_core.specs.declared.rows.RootEnd.{RootEnd}
use Rattle.record_core.specs.declared.rows.RootEnd.TheVariants.{Value, Cut}
use Rattle.record_core.specs.declared.rows.CutTag.TheVariants.{Null}
use Rattle.record_core.specs.declared.rows.CutFrom.TheVariants as from
use Rattle.plain_state.specs.declared.record.Outcome.{Outcome}
use Rattle.plain_state.specs.declared.record.Outcome.TheVariants.{Gave, WasCut}
use Rattle.plain_state.specs.declared.record.Record.{Record}
use Rattle.plain_state.specs.Store.{StoreState, out_of_class}
use Rattle.plain_state.specs.Engine.{EngineState}
use Rattle.plain_state.specs.declared.record.RootState.{RootState}
use Rattle.plain_state.specs.declared.record.RootState.TheVariants.{Named, Refused, Skipped}

abbrev pub end_of : ℕ → Option Outcome → RootEnd
end_of t None = Cut Null (from.Task t)
end_of t (Some (Gave v)) = Value v
end_of t (Some (WasCut tag)) = Cut tag (from.Task t)

abbrev pub end_in : Option Record → RootEnd
end_in None = Cut Null from.Host
end_in (Some k) = end_of k.task k.outcome

-- how a root ended
abbrev pub root_end : StoreState → RootState → RootEnd
root_end s (Named unit) = end_in (slice_get s.records unit)
root_end s (Refused tag) = Cut tag from.Host
root_end s (Skipped at tag) = Cut tag (from.Root at)

abbrev pub task_in : Option Record → Option ℕ
task_in None = None
task_in (Some k) = Some k.task

-- the task of a root, where it has one
abbrev pub own_task : StoreState → RootState → Option ℕ
own_task s (Named unit) = task_in (slice_get s.records unit)
own_task s (Refused tag) = None
own_task s (Skipped at tag) = None

abbrev pub end_of_run : RunPlan → EngineState → EndSeen
end_of_run plan e = record {
  superblocks = plan.superblocks;
  units = plan.units;
  roots = map (root_end e.store) e.roots;
  own = map (own_task e.store) e.roots;
  rows = e.journal.rows;
  tasks = e.journal.tasks;
  nulls = e.nulls;
  held = map (out_of_class e.store.pool) (0 ∷ 1 ∷ 2 ∷ 3 ∷ []);
  evidence_class = e.evidence_class;
  evidence = e.evidence;
}
