use Rattle.std.proofs.Common.{ap}
use Rattle.table_core.specs.declared.view.View.{View}
use Rattle.step_table.specs.Passes.{view, plan}
use Rattle.reference_rows.proofs.RecordFacts.{reads-made}
use Rattle.reference_rows.proofs.records.write_made.Goals as goal

pub read_own-requires-clause-may : goal.read_own-requires-clause-may
read_own-requires-clause-may g c =
    reads-made (plan c.args.shared.now) c.args.made.now (view c.args.pass.now) (view c.fill.new.pass) c.requires.made c.unit-2.result c.args.to.0 c.unit-2.ensures
    (ap (λ (v : View). v.made) c.fill.ensures.view.view_is) c.requires.word
