use Rattle.bench_programs.specs.Programs.{family_program}
use Rattle.bench_programs.proofs.WellFormed.{family-formed}
use Rattle.bench_programs.proofs.Valid.{family-valid}
use Rattle.task_check.proofs.Sound.{valid-faultless}
use Rattle.bench_programs.proofs.laws.each_is_faultless.Goals as goal

pub returns : goal.returns
returns c = λ family n small. valid-faultless (family_program family n) (family-formed family n small) (family-valid family n)
