use Rattle.schedule_core.proofs.WrittenFrames.{IsWriting}
use Rattle.schedule_core.proofs.frames.write_frame.Given as goal

abbrev pub invariant-words : goal.invariant-words
invariant-words l = IsWriting l.unit l.words l.at l.fn.pass l.pass
