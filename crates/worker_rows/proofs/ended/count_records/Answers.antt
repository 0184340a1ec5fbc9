use Rattle.std.proofs.Common.{ap, arith}
use Rattle.table_core.specs.declared.view.View.{View}
use Rattle.step_table.specs.Passes.{view}
use Rattle.worker_rows.specs.Left.{is_complete, is_busy}
use Rattle.worker_rows.proofs.LeadFacts.{same-then}
use Rattle.worker_rows.proofs.LeftFacts.{more-records, at-most-one}
use Rattle.worker_rows.proofs.ended.count_records.Goals as goal

pub units-preserved : goal.units-preserved
units-preserved c =
    let now = c.see_state-phase.new.pass in
    let word = c.see_state-phase.result in (
      same-then c.args.pass.now c.units.pass now c.units.invariant.0 c.see_state-phase.ensures.pass,
      more-records c.units.unit c.units.done c.units.going c.one_done-done.result c.one_going-going.result word (view c.args.pass.now) (view c.units.pass) (view now) c.units.invariant.1
          (ap (λ (v : View). v.seen) c.see_state-phase.ensures.view) c.one_done-done.ensures c.one_going-going.ensures,
      omega (arith, c.units.invariant.2, c.one_done-done.ensures, at-most-one (is_complete word.phase)),
      omega (arith, c.units.invariant.3, c.one_going-going.ensures, at-most-one (is_busy word.phase)),
    )
