use Rattle.frame_code.proofs.HeldFrames.{IsKeptUpTo}
use Rattle.frame_code.proofs.held.keep_held.Given as goal

abbrev pub invariant-variables : goal.invariant-variables
invariant-variables l = IsKeptUpTo l.checked l.holds l.initial.words l.x l.words l.place l.given_up
