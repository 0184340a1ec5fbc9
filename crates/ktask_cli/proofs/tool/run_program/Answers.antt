use Rattle.std.proofs.Common.{Ok, Some, refl}
use Rattle.tool_words.specs.Choice.{run_seen}
use Rattle.ktask_cli.specs.Order.{order_of, order_text}
use Rattle.ktask_cli.specs.RunStatus.{status_of_ends}
use Rattle.ktask_cli.proofs.Offered.{writes_as}
use Rattle.ktask_cli.proofs.RunEnded.{can_be_reported}
use Rattle.ktask_cli.proofs.tool.run_program.Goals as goal

pub report-requires : goal.report-requires
report-requires g c = can_be_reported (order_of (run_seen c.args.run.now) (c.in-Ok.ran.checked, c.in-Ok.ran.columns)) c.in-Ok.ran.end c.in-Ok.ensures.run

pub returns-in-Ok : goal.returns-in-Ok
returns-in-Ok g c =
    let ran = c.in-Ok.ran in
    record {
      reached = Ok (ran.checked, ran.columns);
      follows = c.in-Ok.ensures.follows;
      ended = record {
        end = ran.end;
        finished = refl;
        ran = record {
          run = c.in-Ok.ensures.run;
          offered = writes_as (order_text (order_of (run_seen c.args.run.now) (ran.checked, ran.columns)) ran.end) (status_of_ends ran.end.roots) _ (Some ran.end) c.report.ensures;
        };
      };
    }
