use Rattle.std.proofs.Common.{length, refl, ap, arith}
use Rattle.step_table.specs.Passes.{view}
use Rattle.step_table.specs.declared.record_tokens.OwnWord.TheVariants as own_word
use Rattle.table_core.specs.declared.view.View.{View}
use Rattle.schedule_core.proofs.WrittenFrames.{fill-same, writing-starts, writing-on}
use Rattle.schedule_core.proofs.frames.write_frame.Goals as goal

pub words-init : goal.words-init
words-init c = writing-starts c.args.unit c.as_slice-words.result.now c.args.pass.now

pub fill-requires-clause-may : goal.fill-requires-clause-may
fill-requires-clause-may c =
    let so = c.words.invariant in
    fill-same c.args.shared.now.setup.plan c.args.unit (own_word.Frame c.words.at) (view c.args.pass.now) (view c.words.pass) (ap (λ (v : View). v.made) so.view_is) (ap (λ (v : View). v.runs) so.view_is)
    (c.requires.may c.words.at (omega (arith, c.words-test.true, ap length c.as_slice-words.ensures.value)))

pub words-preserved : goal.words-preserved
words-preserved c = writing-on c.args.unit c.words.at _ c.as_slice-words.result.now c.args.pass.now c.words.pass c.fill.new.pass c.words.invariant refl c.fill.ensures.pass c.fill.ensures.view
