use Rattle.std.proofs.Common.{◌≡◌, ◌+◌, ◌^◌, ◌<◌, length}
use Rattle.task_text.specs.Cursor.{rows_behind}
use Rattle.task_text.proofs.rows.next_words.Given as goal

abbrev pub invariant-lines : goal.invariant-lines
invariant-lines l = (rows_behind l.passed l.text ≡ rows_behind l.fn.passed l.fn.text) × (l.passed + length l.text < 2 ^ 32)

abbrev pub decreases-lines : goal.decreases-lines
decreases-lines l = length l.text
