use Rattle.std.proofs.Common.{ap}
use Rattle.table_core.specs.declared.view.View.{View}
use Rattle.step_table.specs.Passes.{view, plan}
use Rattle.reference_rows.proofs.RecordFacts.{reads-run}
use Rattle.reference_rows.proofs.records.write_running.Goals as goal

pub read_own-requires-clause-may : goal.read_own-requires-clause-may
read_own-requires-clause-may g c =
    reads-run (plan c.args.shared.now) c.args.started.now (view c.args.pass.now) (view c.fill.new.pass) c.requires.running (ap (λ (v : View). v.runs) c.fill.ensures.view.view_is)
    c.unit-2.result c.args.to.0 c.unit-2.ensures c.requires.word
