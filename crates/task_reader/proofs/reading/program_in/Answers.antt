use Rattle.task_reader.proofs.Vocabulary.{sym, subst, Fit}
use Rattle.task_reader.proofs.ReadLaws.{items_read}
use Rattle.task_reader.proofs.reading.program_in.Goals as goal

pub program_from-requires : goal.program_from-requires
program_from-requires c =
    subst Fit (sym c.as_slice.ensures) (items_read c.args.text.now c.in_ok-items.items c.requires c.in_ok-items.ensures)
