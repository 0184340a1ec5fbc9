use Rattle.std.proofs.Common.{◌≡◌, ◌+◌, ◌≤◌, length}
use Rattle.task_text.specs.Text.{lines_of}
use Rattle.task_text.proofs.lines.count_lines.Given as goal

abbrev pub invariant-lines : goal.invariant-lines
invariant-lines l = (l.count + length (lines_of l.left) ≡ length (lines_of l.initial.left)) × (l.count + length l.left ≤ length l.initial.left)

abbrev pub decreases-lines : goal.decreases-lines
decreases-lines l = length l.left
