use Rattle.std.proofs.Common.{◌∙◌}
use Rattle.ktask_cli.specs.Order.{bench_order}
use Rattle.ktask_cli.proofs.RunEnded.{run_ended}
use Rattle.ktask_cli.proofs.bench.make_and_run.Goals as goal

pub returns-clause-run : goal.returns-clause-run
returns-clause-run c =
    run_ended (bench_order c.args.bench.now) c.in_ok-checked.checked c.none-columns.result _ c.in_ok-end.end
    c.in_ok-checked.ensures c.none-columns.ensures (c.run_plan-plan.ensures.plan ∙ c.bench_plan.ensures)
    (record {
      formed = c.run_plan-plan.ensures.formed;
      sound = c.in_ok-end.ensures.sound;
      faithful = c.in_ok-end.ensures.faithful;
      answers = c.in_ok-end.ensures.answers;
      complete = c.in_ok-end.ensures.complete;
      counts = c.in_ok-end.ensures.counts;
    })
