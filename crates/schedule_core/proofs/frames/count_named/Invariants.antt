use Rattle.std.proofs.Common.{◌≡◌, ◌+◌, ◌≤◌, drop, length}
use Rattle.std.specs.List.{filter_map}
use Rattle.frame_code.specs.Words.{unit_named}
use Rattle.schedule_core.proofs.frames.count_named.Given as goal

abbrev pub invariant-words : goal.invariant-words
invariant-words l = (l.count + length (filter_map unit_named (drop l.word-index l.words)) ≡ length (filter_map unit_named l.words)) × (l.count ≤ l.word-index)
