use Rattle.step_table.proofs.shared.Shared.draw_for_run.Goals as goal
use Rattle.std.proofs.Common.{refl, arith}
use Rattle.step_table.specs.Passes.{view}
use Rattle.step_table.proofs.DrawStepping.{draws-for-run-value, draws-for-run-says, draws-for-run-keeps, hand-stays}
use Rattle.step_table.proofs.RecordStepping.{sum-there}

pub fetch_add_as-found-requires-clause-word : goal.fetch_add_as-found-requires-clause-word
fetch_add_as-found-requires-clause-word g c = record { place = c.sum_word-word.ensures; there = sum-there c.args.self.now.setup.plan 0 (omega arith); written = refl }

pub fetch_add_as-found-requires-clause-rule : goal.fetch_add_as-found-requires-clause-rule
fetch_add_as-found-requires-clause-rule g c =
    let pass = c.args.pass.now in
    draws-for-run-value c.args.self.now.setup pass.seat.id pass.seat.me.0 c.args.made.now.unit c.args.by.now.unit c.args.task g.call c.requires.1 (omega (arith, pass.shares))

pub returns-clause-drawn : goal.returns-clause-drawn
returns-clause-drawn g c =
    let sound = c.fetch_add_as-found.ensures.sound in
    draws-for-run-says c.args.self.now.setup c.fetch_add_as-found.result c.args.made.now.unit c.args.by.now.unit c.args.task g.call _ _ _ c.number_after.ensures c.fetch_add_as-found.ensures.told sound.before sound.after

pub invariant_of-pass-clause-counts : goal.invariant_of-pass-clause-counts
invariant_of-pass-clause-counts g c = let pass = c.args.pass.now in (hand-stays pass _ (draws-for-run-keeps c.args.self.now.setup.plan.limit c.fetch_add_as-found.result c.args.made.now.unit c.args.by.now.unit c.args.task g.call (view pass) _ c.fetch_add_as-found.ensures.told)).counts

pub invariant_of-pass-clause-turns : goal.invariant_of-pass-clause-turns
invariant_of-pass-clause-turns g c = let pass = c.args.pass.now in (hand-stays pass _ (draws-for-run-keeps c.args.self.now.setup.plan.limit c.fetch_add_as-found.result c.args.made.now.unit c.args.by.now.unit c.args.task g.call (view pass) _ c.fetch_add_as-found.ensures.told)).turns

pub invariant_of-pass-clause-ages : goal.invariant_of-pass-clause-ages
invariant_of-pass-clause-ages g c = let pass = c.args.pass.now in (hand-stays pass _ (draws-for-run-keeps c.args.self.now.setup.plan.limit c.fetch_add_as-found.result c.args.made.now.unit c.args.by.now.unit c.args.task g.call (view pass) _ c.fetch_add_as-found.ensures.told)).ages

pub invariant_of-pass-clause-looks : goal.invariant_of-pass-clause-looks
invariant_of-pass-clause-looks g c = let pass = c.args.pass.now in (hand-stays pass _ (draws-for-run-keeps c.args.self.now.setup.plan.limit c.fetch_add_as-found.result c.args.made.now.unit c.args.by.now.unit c.args.task g.call (view pass) _ c.fetch_add_as-found.ensures.told)).looks
