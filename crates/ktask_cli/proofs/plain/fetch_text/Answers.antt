use Rattle.std.proofs.Common.{◌≡◌, Ok}
use Rattle.task_writer.specs.Text.{text_of}
use Rattle.ktask_cli.specs.Ready.{program_under}
use Rattle.ktask_cli.proofs.Plans.{judges, stops}
use Rattle.ktask_cli.proofs.plain.fetch_text.Goals as goal

pub returns-in-Ok : goal.returns-in-Ok
returns-in-Ok g c = judges (program_under c.args.name.now) (λ q result. result ≡ Ok (text_of q)) _ _ c.in-Ok.program _ c.in-Ok.ensures.follows c.write.ensures

pub returns-in-Err : goal.returns-in-Err
returns-in-Err g c = stops (program_under c.args.name.now) (λ q result. result ≡ Ok (text_of q)) _ _ c.in-Err.stop c.in-Err.ensures.follows
