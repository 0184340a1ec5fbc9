use Rattle.std.proofs.Common.{◌∙◌, ap, rules}
use Rattle.table_core.specs.declared.view.View.{View}
use Rattle.step_table.specs.Lookups.{done_in}
use Rattle.step_table.specs.Passes.{view, plan}
use Rattle.reference_rows.proofs.HandFacts.{own-at, unit-near}
use Rattle.reference_rows.proofs.RootFacts.{reads-own}
use Rattle.reference_rows.proofs.hand.check_one.Goals as goal

pub read_own-references-requires-clause-may : goal.read_own-references-requires-clause-may
read_own-references-requires-clause-may g c =
    let there = own-at c.args.hand.now.own c.args.unit _ c.in-Some.finishing (search rules) c.in-Some.is in
    let has = c.requires.hand.records.owns c.args.unit c.in-Some.finishing there in
    reads-own (plan c.args.shared.now) c.args.unit c.unit.result (view c.see_state-state.new.pass) (c.unit.ensures ∙ has.0) (unit-near (plan c.args.shared.now) c.args.unit c.requires.unit)
    (ap (λ (v : View). done_in c.args.unit v.done) c.see_state-state.ensures.view ∙ has.1)
