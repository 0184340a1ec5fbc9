use Rattle.std.proofs.Common.{◌≡◌, ◌-◌, ◌<◌, length, slice_index}
use Rattle.frame_code.specs.Words.{frame_at}
use Rattle.frame_code.specs.Stops.{GoesTo}
use Rattle.frame_code.specs.Line.{standing}
use Rattle.frame_code.proofs.RunLines.{StandsIn}
use Rattle.frame_code.proofs.run.run.Given as goal

abbrev pub invariant-lines : goal.invariant-lines
invariant-lines l = record {
  of : StandsIn l.checked (slice_index l.initial.words 0) l.kind l.state;
  goes : GoesTo l.checked l.columns (frame_at l.checked (slice_index l.initial.words)) (standing l.kind l.words l.at);
  head : slice_index l.words 0 ≡ slice_index l.initial.words 0;
  stands : l.at < length l.state.code;
}

abbrev pub decreases-lines : goal.decreases-lines
decreases-lines l = length l.state.code - l.at
