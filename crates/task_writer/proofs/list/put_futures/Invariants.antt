use Rattle.task_writer.proofs.Vocabulary.{◌≡◌, ℕ, ◌++◌, map, take, name_at, variable_names, future_word, spaced}
use Rattle.task_writer.proofs.list.put_futures.Given as goal

abbrev pub invariant-loop-future : goal.invariant-loop-future
invariant-loop-future l = l.out.items ≡ l.initial.out.items ++ spaced (map (λ (a : ℕ). future_word (name_at (variable_names l.variables) a)) (take l.future-index l.futures))
