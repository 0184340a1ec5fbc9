use Rattle.std.proofs.Common.{Some, ◌∙◌, ap}
use Rattle.std.proofs.lemmas.Option.{slice_get-get_or}
use Rattle.task_syntax.specs.declared.instr.Operand.TheVariants.{Literal}
use Rattle.task_syntax.specs.declared.instr.Argument.TheVariants.{Number}
use Rattle.frame_code.proofs.request.pass_numbers.Goals as goal

pub read-requires-clause-formed : goal.read-requires-clause-formed
read-requires-clause-formed c = c.requires.formed c.arguments.argument-index (Number c.in-Number.operand)
    (slice_get-get_or c.args.arguments.now c.arguments.argument-index (Number (Literal 0)) c.arguments-test.true ∙ ap Some c.in-Number.is)
