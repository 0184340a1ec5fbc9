use Rattle.std.proofs.Common.{◌∙◌, ◌≤◌, ℕ, ap, arith, rules}
use Rattle.std.specs.Prelude.{slice_index}
use Rattle.record_core.specs.Counting.{dropped}
use Rattle.table_core.specs.RecordViews.{is_at}
use Rattle.table_core.specs.declared.view.View.{View}
use Rattle.step_table.specs.Passes.{view, plan}
use Rattle.reference_rows.proofs.HandFacts.{hand-less, unit-near}
use Rattle.reference_rows.proofs.Covering.{may-lessen}
use Rattle.reference_rows.proofs.hand.drop_one.Goals as goal

pub drop_future-requires-clause-may : goal.drop_future-requires-clause-may
drop_future-requires-clause-may g c =
    let some : 1 ≤ slice_index c.args.hand.now.futures c.args.unit = search rules in
    let old = view c.args.pass.now in
    may-lessen c.args.shared.now.setup c.args.unit c.of-future.result.unit old c.of-future.ensures c.requires.hand.idle (unit-near (plan c.args.shared.now) c.args.unit c.requires.unit)
    (omega (arith, some, c.requires.hand.records.counts.counts c.args.unit c.requires.unit))

pub returns-clause-hand : goal.returns-clause-hand
returns-clause-hand g c =
    let old = view c.args.pass.now in let moved = c.drop_future.ensures.hand.view_is in
    let some : 1 ≤ slice_index c.args.hand.now.futures c.args.unit = search rules in
    hand-less c.args.hand.now.futures c.args.hand.now.own old (view c.drop_future.new.pass) c.requires.hand (ap (λ (v : View). v.runs) moved) c.args.unit c.requires.unit some
    (ap (λ (v : View). v.futures) moved ∙ ap (λ (u : ℕ). dropped (is_at u) old.futures) c.of-future.ensures) (ap (λ (v : View). v.done) moved)
