use Rattle.std.proofs.Common.{drop}
use Rattle.std.specs.List.{filter_map}
use Rattle.frame_code.specs.Words.{unit_named}
use Rattle.step_table.specs.Passes.{plan}
use Rattle.schedule_core.proofs.EachFacts.{IsTakingEach}
use Rattle.schedule_core.proofs.references.take_named.Given as goal

abbrev pub invariant-words : goal.invariant-words
invariant-words l = IsTakingEach (plan l.shared) (filter_map unit_named l.words) (filter_map unit_named (drop l.word-index l.words)) l.fn.pass l.pass
