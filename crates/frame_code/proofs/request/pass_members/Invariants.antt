use Rattle.std.proofs.Common.{◌≡◌, take}
use Rattle.frame_code.proofs.request.pass_members.Given as goal

abbrev pub invariant-variables : goal.invariant-variables
invariant-variables l = l.members ≡ take l.variable-index l.variables
