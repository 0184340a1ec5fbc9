use Rattle.frame_code.proofs.PassedArguments.{names-sort}
use Rattle.frame_code.proofs.entries.named_unit.Goals as goal

pub future-requires-clause-variable : goal.future-requires-clause-variable
future-requires-clause-variable c = names-sort c.args.checked.now c.args.frame.now.items c.args.x c.requires.named
