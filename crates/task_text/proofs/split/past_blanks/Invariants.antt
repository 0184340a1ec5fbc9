use Rattle.std.proofs.Common.{◌≡◌, length}
use Rattle.task_text.specs.Text.{words_of}
use Rattle.task_text.proofs.split.past_blanks.Given as goal

abbrev pub invariant-blanks : goal.invariant-blanks
invariant-blanks l = words_of l.bytes ≡ words_of l.initial.bytes

abbrev pub decreases-blanks : goal.decreases-blanks
decreases-blanks l = length l.bytes
