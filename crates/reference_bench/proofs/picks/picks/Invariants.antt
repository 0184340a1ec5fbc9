use Rattle.std.proofs.Common.{◌<◌, All}
use Rattle.reference_bench.proofs.picks.picks.Given as goal

abbrev pub invariant-loop-pick : goal.invariant-loop-pick
invariant-loop-pick l = All (λ unit. unit < l.records) l.picks.items
