use Rattle.std.proofs.Common.{ap}
use Rattle.table_core.specs.declared.view.View.{View}
use Rattle.step_table.specs.Passes.{view}
use Rattle.reference_rows.proofs.HandFacts.{hand-same}
use Rattle.reference_rows.proofs.hand.check.Goals as goal

pub returns-clause-hand : goal.returns-clause-hand
returns-clause-hand g c =
    let looked = c.look-count.ensures.view in
    hand-same c.args.hand.now.futures c.args.hand.now.own (view c.loop-unit.pass) (view c.look-count.new.pass) c.loop-unit.invariant.1 (ap (λ (v : View). v.runs) looked) (ap (λ (v : View). v.futures) looked) (ap (λ (v : View). v.done) looked)
