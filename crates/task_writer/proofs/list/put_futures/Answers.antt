use Rattle.task_writer.proofs.Vocabulary.{ℕ, [], ◌∷◌, ◌++◌, ap, ◌∙◌, Word, future_word, name_at, variable_names, spaced}
use Rattle.task_writer.proofs.Putting.{one-more, all-put, nothing-put}
use Rattle.task_writer.proofs.list.put_futures.Goals as goal

pub loop-future-init : goal.loop-future-init
loop-future-init c = nothing-put c.args.out.now.items

pub loop-future-preserved : goal.loop-future-preserved
loop-future-preserved c =
    let word : ℕ → Word = λ at. future_word (name_at (variable_names c.args.variables.now) at) in
    one-more word c.args.futures.now c.loop-future.future-index 0 c.args.out.now.items c.loop-future.out.items c.put_future.new.out.items c.loop-future-test.true c.loop-future.invariant
    (c.in_ok-put_future.ensures ∙ ap (λ name. c.loop-future.out.items ++ spaced (future_word name ∷ [])) c.variable_name.ensures)

pub returns : goal.returns
returns c = all-put future_word (name_at (variable_names c.args.variables.now)) c.args.futures.now c.loop-future.future-index c.args.out.now.items c.loop-future.out.items c.loop-future-test.false c.loop-future.invariant
