use Rattle.task_writer.proofs.Vocabulary.{Word, RootArgument, root_names, root_term_of, root_term_word}
use Rattle.task_syntax.specs.declared.program.RootArgument.TheVariants.{Number}
use Rattle.task_writer.proofs.Putting.{one-more, all-put, nothing-put}
use Rattle.task_writer.proofs.list.put_root_arguments.Goals as goal

pub loop-argument-init : goal.loop-argument-init
loop-argument-init c = nothing-put c.args.out.now.items

pub loop-argument-preserved : goal.loop-argument-preserved
loop-argument-preserved c =
    let word : RootArgument → Word = λ a. root_term_word (root_term_of (root_names c.args.roots.now) a) in
    one-more word c.args.arguments.now c.loop-argument.argument-index (Number 0) c.args.out.now.items c.loop-argument.out.items c.put_root_argument.new.out.items
    c.loop-argument-test.true c.loop-argument.invariant c.in_ok-put_root_argument.ensures

pub returns : goal.returns
returns c = all-put root_term_word (root_term_of (root_names c.args.roots.now)) c.args.arguments.now c.loop-argument.argument-index c.args.out.now.items c.loop-argument.out.items c.loop-argument-test.false c.loop-argument.invariant
