use Rattle.bench_programs.proofs.FamilyText.{text-fits}
use Rattle.bench_programs.proofs.laws.each_text_fits.Goals as goal

pub returns : goal.returns
returns c = text-fits
