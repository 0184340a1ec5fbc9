use Rattle.task_lines.proofs.Vocabulary.{◌≡◌, ◌+◌, ◌<◌, ◌^◌, length, first_scope, items_from}
use Rattle.task_lines.proofs.Items.{behind}
use Rattle.task_lines.proofs.reading.items_from.Given as goal

abbrev pub invariant-rows : goal.invariant-rows
invariant-rows l = record {
  read : items_from l.last first_scope l.initial.rows ≡ behind l.items (items_from l.last l.scope l.rows);
  steps : l.scope.steps + length l.rows < 2 ^ 32;
}

abbrev pub decreases-rows : goal.decreases-rows
decreases-rows l = length l.rows
