use Rattle.step_table.proofs.shared.Shared.see_drawn.Goals as goal
use Rattle.std.proofs.Common.{refl, arith}
use Rattle.step_table.specs.Passes.{view}
use Rattle.step_table.proofs.DrawStepping.{sees-drawn-value, sees-drawn-says, sees-drawn-keeps, hand-stays}
use Rattle.step_table.proofs.RecordStepping.{sum-there}

pub load_as-found-requires-clause-word : goal.load_as-found-requires-clause-word
load_as-found-requires-clause-word g c = record { place = c.sum_word-word.ensures; there = sum-there c.args.self.now.setup.plan 0 (omega arith); written = refl }

pub load_as-found-requires-clause-rule : goal.load_as-found-requires-clause-rule
load_as-found-requires-clause-rule g c =
    let pass = c.args.pass.now in sees-drawn-value c.args.self.now.setup pass.seat.id pass.seat.me.0 g.asking c.requires.1 (omega (arith, pass.shares))

pub returns-clause-drawn : goal.returns-clause-drawn
returns-clause-drawn g c = sees-drawn-says c.args.self.now.setup.plan.limit c.load_as-found.result g.asking c.args.pass.now _ c.load_as-found.ensures.told

pub invariant_of-pass-clause-counts : goal.invariant_of-pass-clause-counts
invariant_of-pass-clause-counts g c = let pass = c.args.pass.now in (hand-stays pass _ (sees-drawn-keeps c.args.self.now.setup.plan.limit c.load_as-found.result g.asking (view pass) _ c.load_as-found.ensures.told)).counts

pub invariant_of-pass-clause-turns : goal.invariant_of-pass-clause-turns
invariant_of-pass-clause-turns g c = let pass = c.args.pass.now in (hand-stays pass _ (sees-drawn-keeps c.args.self.now.setup.plan.limit c.load_as-found.result g.asking (view pass) _ c.load_as-found.ensures.told)).turns

pub invariant_of-pass-clause-ages : goal.invariant_of-pass-clause-ages
invariant_of-pass-clause-ages g c = let pass = c.args.pass.now in (hand-stays pass _ (sees-drawn-keeps c.args.self.now.setup.plan.limit c.load_as-found.result g.asking (view pass) _ c.load_as-found.ensures.told)).ages

pub invariant_of-pass-clause-looks : goal.invariant_of-pass-clause-looks
invariant_of-pass-clause-looks g c = let pass = c.args.pass.now in (hand-stays pass _ (sees-drawn-keeps c.args.self.now.setup.plan.limit c.load_as-found.result g.asking (view pass) _ c.load_as-found.ensures.told)).looks
