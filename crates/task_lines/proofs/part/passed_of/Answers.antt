use Rattle.task_lines.proofs.Vocabulary.{sym, ◌∙◌, is_operand, is_future}
use Rattle.task_lines.proofs.Parts.{left_of}
use Rattle.task_lines.proofs.part.passed_of.Goals as goal

pub term_of-requires-clause-operand : goal.term_of-requires-clause-operand
term_of-requires-clause-operand c =
    let w = c.args.word.now in
    left_of (is_operand w) (is_future w) c.requires.argument (sym c.is_future.ensures.value ∙ c.if-is_future.false)
