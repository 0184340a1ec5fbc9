use Rattle.step_table.specs.Passes.{view, IsSame}
use Rattle.schedule_core.specs.FrameWords.{OnlySees}
use Rattle.schedule_core.proofs.publishing.tell_full.Given as goal

abbrev pub invariant-loop : goal.invariant-loop
invariant-loop g l = (goal.iterator-loop g).can_next l.iterator' × (goal.iterator-loop g).is_finite l.iterator' × IsSame l.fn.pass l.pass × OnlySees (view l.fn.pass) (view l.pass)
