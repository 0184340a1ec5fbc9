use Rattle.schedule_core.proofs.WrittenFrames.{IsReading}
use Rattle.schedule_core.proofs.frames.read_frame.Given as goal

abbrev pub invariant-words : goal.invariant-words
invariant-words l = IsReading l.shared.setup.plan l.code l.unit l.fn.pass l.length l.at l.frame.items l.pass
