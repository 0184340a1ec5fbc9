use Rattle.std.proofs.Common.{◌∙◌, refl, ap}
use Rattle.table_core.specs.declared.view.View.{View}
use Rattle.step_table.specs.Passes.{view, plan}
use Rattle.step_table.specs.declared.record_tokens.OwnWord.TheVariants as own_word
use Rattle.schedule_core.proofs.Filling.{fills-there, words-from}
use Rattle.schedule_core.proofs.making.write_words.Goals as goal

pub fill-requires-clause-may : goal.fill-requires-clause-may
fill-requires-clause-may c = fills-there (plan c.args.shared.now) c.args.made.now.unit c.unit-unit.result own_word.References (view c.args.pass.now) (view c.args.pass.now) c.unit-unit.ensures refl c.requires.may tt

pub fill-requires-2-clause-may : goal.fill-requires-2-clause-may
fill-requires-2-clause-may c =
    fills-there (plan c.args.shared.now) c.args.made.now.unit c.unit-unit.result own_word.Head (view c.args.pass.now) (view c.fill.new.pass) c.unit-unit.ensures (ap (λ (v : View). v.made) c.fill.ensures.view.view_is) c.requires.may tt

pub fill-requires-3-clause-may : goal.fill-requires-3-clause-may
fill-requires-3-clause-may c =
    fills-there (plan c.args.shared.now) c.args.made.now.unit c.unit-unit.result own_word.Task (view c.args.pass.now) (view c.fill-2.new.pass) c.unit-unit.ensures
    (ap (λ (v : View). v.made) c.fill-2.ensures.view.view_is ∙ ap (λ (v : View). v.made) c.fill.ensures.view.view_is) c.requires.may tt

pub returns-clause-written : goal.returns-clause-written
returns-clause-written c =
    words-from c.args.made.now.unit c.unit-unit.result c.args.number c.from.result c.args.pass.now c.fill.new.pass c.fill-2.new.pass c.fill-3.new.pass c.unit-unit.ensures c.from.ensures
    c.fill.ensures.view c.fill-2.ensures.view c.fill-3.ensures.view
