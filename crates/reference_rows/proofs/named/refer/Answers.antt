use Rattle.std.proofs.Common.{◌∙◌, ap}
use Rattle.table_core.specs.declared.view.View.{View}
use Rattle.step_table.specs.Lookups.{done_in}
use Rattle.step_table.specs.Passes.{view, plan}
use Rattle.reference_rows.proofs.RootFacts.{reads-done}
use Rattle.reference_rows.proofs.named.refer.Goals as goal

pub read_own-references-requires-clause-may : goal.read_own-references-requires-clause-may
read_own-references-requires-clause-may g c =
    reads-done (plan c.args.shared.now) c.args.unit (view c.more_root-future.new.pass) c.requires.roots.near
    (ap (λ (v : View). done_in c.args.unit v.done) c.more_root-future.ensures.future.refers.view_is ∙ c.requires.roots.over)
