use Rattle.ktask_cli.specs.Ready.{Checks, program_under}
use Rattle.ktask_cli.proofs.Plans.{judges, stops}
use Rattle.ktask_cli.proofs.program.fetch_valid.Goals as goal

pub returns-in-Ok : goal.returns-in-Ok
returns-in-Ok g c = judges (program_under c.args.name.now) Checks _ _ _ _ c.in-Ok.ensures.follows c.check_read.ensures

pub returns-in-Err : goal.returns-in-Err
returns-in-Err g c = stops (program_under c.args.name.now) Checks _ _ _ c.in-Err.ensures.follows
