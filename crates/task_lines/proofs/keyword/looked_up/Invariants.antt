use Rattle.task_lines.proofs.Vocabulary.{◌≡◌, length, map, looked_up}
use Rattle.task_lines.proofs.keyword.looked_up.Given as goal

abbrev pub invariant-loop-table : goal.invariant-loop-table
invariant-loop-table g l = looked_up (map (λ entry. (entry.0.now, entry.1)) l.table) l.word ≡ looked_up (map (λ entry. (entry.0.now, entry.1)) l.initial.table) l.word

abbrev pub decreases-loop-table : goal.decreases-loop-table
decreases-loop-table g l = length l.table
