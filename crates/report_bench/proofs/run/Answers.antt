use Rattle.record_core.specs.EndSeen.{plan_of}
use Rattle.run_report.proofs.SoundEnds.{sound_ends_can_be_reported}
use Rattle.report_bench.proofs.run.Goals as goal

pub returns-in-Ok : goal.returns-in-Ok
returns-in-Ok c = sound_ends_can_be_reported c.args.checked.now _ (plan_of c.args.plan) c.in-Ok.end c.in-Ok.ensures.sound
