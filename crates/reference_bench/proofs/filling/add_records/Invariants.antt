use Rattle.reference_bench.specs.Hands.{IsMaking}
use Rattle.reference_bench.proofs.filling.add_records.Given as goal

abbrev pub invariant-loop-record : goal.invariant-loop-record
invariant-loop-record g l = IsMaking l.shared l.maker l.units.items l.pass
