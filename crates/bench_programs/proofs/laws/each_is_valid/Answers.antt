use Rattle.bench_programs.proofs.Valid.{family-valid}
use Rattle.bench_programs.proofs.laws.each_is_valid.Goals as goal

pub returns : goal.returns
returns c = family-valid
