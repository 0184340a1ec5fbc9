use Rattle.task_lines.proofs.Vocabulary.{◌≡◌, length, each}
use Rattle.task_lines.proofs.list.further.Given as goal

abbrev pub invariant-words : goal.invariant-words
invariant-words g l = each (g.L.Listed.test l.list) (g.L.Listed.item l.list) l.initial.found l.initial.words
    ≡ each (g.L.Listed.test l.list) (g.L.Listed.item l.list) l.found l.words

abbrev pub decreases-words : goal.decreases-words
decreases-words g l = length l.words.left
