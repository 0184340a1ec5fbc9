use Rattle.bench_programs.proofs.WellFormed.{family-formed}
use Rattle.bench_programs.proofs.laws.each_is_well_formed.Goals as goal

pub returns : goal.returns
returns c = family-formed
