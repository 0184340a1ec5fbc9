use Rattle.run_report.proofs.Names.{kind_short, variables_fit}
use Rattle.run_report.proofs.check_lines.write_kind_at.Goals as goal

pub words_of-words-requires : goal.words_of-words-requires
words_of-words-requires g c = variables_fit c.args.program.now c.requires.formed c.args.at c.args.kind.now c.requires.there

pub write_kind-requires : goal.write_kind-requires
write_kind-requires g c = rw c.as_bytes.ensures (kind_short c.args.program.now c.requires.formed c.args.at c.args.kind.now c.requires.there)
