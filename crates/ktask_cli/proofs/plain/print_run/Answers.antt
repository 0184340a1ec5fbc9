use Rattle.tool_words.specs.Choice.{run_seen}
use Rattle.ktask_cli.specs.Order.{order_of}
use Rattle.ktask_cli.proofs.RunEnded.{can_be_reported}
use Rattle.ktask_cli.proofs.plain.print_run.Goals as goal

pub report-requires : goal.report-requires
report-requires g c = can_be_reported (order_of (run_seen c.args.run.now) (c.in-Ok.ran.checked, c.in-Ok.ran.columns)) c.in-Ok.ran.end c.in-Ok.ensures.run
