use Rattle.task_writer.proofs.Vocabulary.{Word, Literal, Argument, variable_names, passed_of, passed_word}
use Rattle.task_syntax.specs.declared.instr.Argument.TheVariants.{Number}
use Rattle.task_writer.proofs.Putting.{one-more, all-put, nothing-put}
use Rattle.task_writer.proofs.list.put_arguments.Goals as goal

pub loop-argument-init : goal.loop-argument-init
loop-argument-init c = nothing-put c.args.out.now.items

pub loop-argument-preserved : goal.loop-argument-preserved
loop-argument-preserved c =
    let word : Argument → Word = λ a. passed_word (passed_of (variable_names c.args.variables.now) a) in
    one-more word c.args.arguments.now c.loop-argument.argument-index (Number (Literal 0)) c.args.out.now.items c.loop-argument.out.items c.put_argument.new.out.items
    c.loop-argument-test.true c.loop-argument.invariant c.in_ok-put_argument.ensures

pub returns : goal.returns
returns c = all-put passed_word (passed_of (variable_names c.args.variables.now)) c.args.arguments.now c.loop-argument.argument-index c.args.out.now.items c.loop-argument.out.items c.loop-argument-test.false c.loop-argument.invariant
