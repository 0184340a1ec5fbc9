use Rattle.std.proofs.Common.{◌+◌, arith, refl}
use Rattle.run_report.proofs.WrittenInParts.{place_of}
use Rattle.run_report.proofs.TasksCounted.{counted_step, one_at_most}
use Rattle.run_report.proofs.counts.count_tasks.Goals as goal

pub rows-preserved : goal.rows-preserved
rows-preserved g c =
    let rows = (g.E.Ended.seen c.args.end.now).rows in
    let step = counted_step rows c.rows.at c.activation.result (place_of rows c.rows.at (c.rows.at + 1) c.activation.result refl c.activation.ensures) in
    let most = one_at_most c.activation.result.task (c.rows.at + 1) in
    record {
      counted = omega (arith, step, c.rows.invariant.counted, c.first_of_task-count.ensures);
      within = omega (arith, most, c.rows.invariant.within, c.first_of_task-count.ensures);
    }
