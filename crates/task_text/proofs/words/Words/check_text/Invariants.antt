use Rattle.std.proofs.Common.{◌≡◌, length}
use Rattle.task_text.specs.Scan.{check_words}
use Rattle.task_text.proofs.words.Words.check_text.Given as goal

abbrev pub invariant-words : goal.invariant-words
invariant-words l = check_words l.ahead.line l.ahead.word l.ahead.left ≡ check_words l.initial.ahead.line l.initial.ahead.word l.initial.ahead.left

abbrev pub decreases-words : goal.decreases-words
decreases-words l = length l.ahead.left
