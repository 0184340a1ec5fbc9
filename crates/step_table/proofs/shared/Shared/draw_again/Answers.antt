use Rattle.step_table.proofs.shared.Shared.draw_again.Goals as goal
use Rattle.std.proofs.Common.{refl, arith}
use Rattle.step_table.specs.Passes.{view}
use Rattle.step_table.proofs.DrawStepping.{draws-again-value, draws-again-says, draws-again-keeps, hand-stays}
use Rattle.step_table.proofs.RecordStepping.{sum-there}

pub fetch_add_as-found-requires-clause-word : goal.fetch_add_as-found-requires-clause-word
fetch_add_as-found-requires-clause-word c = record { place = c.sum_word-word.ensures; there = sum-there c.args.self.now.setup.plan 0 (omega arith); written = refl }

pub fetch_add_as-found-requires-clause-rule : goal.fetch_add_as-found-requires-clause-rule
fetch_add_as-found-requires-clause-rule c =
    let pass = c.args.pass.now in
    draws-again-value c.args.self.now.setup pass.seat.id pass.seat.me.0 c.args.started.now.unit c.args.task c.args.behind c.requires.may (omega (arith, pass.shares))

pub returns-clause-drawn : goal.returns-clause-drawn
returns-clause-drawn c =
    let sound = c.fetch_add_as-found.ensures.sound in
    draws-again-says c.args.self.now.setup c.fetch_add_as-found.result c.args.started.now.unit c.args.task c.args.behind _ _ _ c.number_after.ensures c.fetch_add_as-found.ensures.told sound.before sound.after

pub invariant_of-pass-clause-counts : goal.invariant_of-pass-clause-counts
invariant_of-pass-clause-counts c = let pass = c.args.pass.now in (hand-stays pass _ (draws-again-keeps c.args.self.now.setup.plan.limit c.fetch_add_as-found.result c.args.started.now.unit c.args.task c.args.behind (view pass) _ c.fetch_add_as-found.ensures.told)).counts

pub invariant_of-pass-clause-turns : goal.invariant_of-pass-clause-turns
invariant_of-pass-clause-turns c = let pass = c.args.pass.now in (hand-stays pass _ (draws-again-keeps c.args.self.now.setup.plan.limit c.fetch_add_as-found.result c.args.started.now.unit c.args.task c.args.behind (view pass) _ c.fetch_add_as-found.ensures.told)).turns

pub invariant_of-pass-clause-ages : goal.invariant_of-pass-clause-ages
invariant_of-pass-clause-ages c = let pass = c.args.pass.now in (hand-stays pass _ (draws-again-keeps c.args.self.now.setup.plan.limit c.fetch_add_as-found.result c.args.started.now.unit c.args.task c.args.behind (view pass) _ c.fetch_add_as-found.ensures.told)).ages

pub invariant_of-pass-clause-looks : goal.invariant_of-pass-clause-looks
invariant_of-pass-clause-looks c = let pass = c.args.pass.now in (hand-stays pass _ (draws-again-keeps c.args.self.now.setup.plan.limit c.fetch_add_as-found.result c.args.started.now.unit c.args.task c.args.behind (view pass) _ c.fetch_add_as-found.ensures.told)).looks
