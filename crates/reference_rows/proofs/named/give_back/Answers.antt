use Rattle.std.proofs.Common.{◌∙◌, ap}
use Rattle.table_core.specs.declared.view.View.{View}
use Rattle.step_table.specs.Lookups.{done_in}
use Rattle.step_table.specs.Passes.{view, plan}
use Rattle.reference_rows.proofs.RootFacts.{reads-done}
use Rattle.reference_rows.proofs.named.give_back.Goals as goal

pub read_own-references-requires-clause-may : goal.read_own-references-requires-clause-may
read_own-references-requires-clause-may g c =
    reads-done (plan c.args.shared.now) c.args.unit (view c.less-last.new.pass) c.requires.roots.near
    (ap (λ (v : View). done_in c.args.unit v.done) c.less-last.ensures.view.view_is ∙ c.requires.roots.over)
