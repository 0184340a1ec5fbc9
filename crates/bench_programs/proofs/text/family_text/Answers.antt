use Rattle.std.proofs.Common.{◌∙◌, ap, append_assoc, decimal}
use Rattle.task_reader.specs.Read.{program_in}
use Rattle.bench_programs.specs.Parts.{front_of, back_of}
use Rattle.bench_programs.proofs.FamilyText.{text-parts, text-reads-back}
use Rattle.bench_programs.proofs.WellFormed.{family-formed}
use Rattle.bench_programs.proofs.text.family_text.Goals as goal

pub returns-clause-exact : goal.returns-clause-exact
returns-clause-exact c = let parts = text-parts c.args.family c.args.number in
    let grouped = append_assoc (front_of c.args.family) (decimal c.args.number) (back_of c.args.family) in
    cc (c.in_ok-text.ensures.items, c.in_ok-extend_from_slice.ensures.items, c.in_ok-extend_from_slice-2.ensures.items)

pub returns-clause-reads_back : goal.returns-clause-reads_back
returns-clause-reads_back c = ap program_in (returns-clause-exact c) ∙ text-reads-back c.args.family c.args.number (family-formed c.args.family c.args.number c.ranges.number.fits)
