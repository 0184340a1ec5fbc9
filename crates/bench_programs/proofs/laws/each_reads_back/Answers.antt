use Rattle.bench_programs.proofs.FamilyText.{text-reads-back}
use Rattle.bench_programs.proofs.WellFormed.{family-formed}
use Rattle.bench_programs.proofs.laws.each_reads_back.Goals as goal

pub returns : goal.returns
returns c = λ family n small. text-reads-back family n (family-formed family n small)
