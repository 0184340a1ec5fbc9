use Rattle.task_writer.proofs.Vocabulary.{[], ◌∷◌, ◌++◌, ap, ◌∙◌, Variable, variable_word, spaced}
use Rattle.task_writer.proofs.Putting.{one-more, nothing-put}
use Rattle.task_writer.proofs.list.put_variables.Goals as goal

pub loop-variable-init : goal.loop-variable-init
loop-variable-init c = nothing-put c.args.out.now.items

pub loop-variable-preserved : goal.loop-variable-preserved
loop-variable-preserved c =
    let x = c.variable-item.result in
    one-more variable_word c.args.variables.now c.loop-variable.variable-index x c.args.out.now.items c.loop-variable.out.items c.put_variable.new.out.items c.loop-variable-test.true c.loop-variable.invariant
    (c.in_ok-put_variable.ensures ∙ ap (λ (v : Variable). c.loop-variable.out.items ++ spaced (variable_word v ∷ [])) c.variable-item.is)
