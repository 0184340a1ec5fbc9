use Rattle.step_table.proofs.shared.Shared.see_result.Goals as goal
use Rattle.std.proofs.Common.{refl}
use Rattle.kt_words.specs.StateWords.{packed_state}
use Rattle.schedule_rule.proofs.SeeingKindsResult.{sees-result-at}
use Rattle.step_table.proofs.RecordStepping.{outcome-there}
use Rattle.step_table.proofs.SeeingStepping.{sees-result}

pub load_as-requires-clause-word : goal.load_as-requires-clause-word
load_as-requires-clause-word c =
    record { place = c.own_word-word.ensures; there = outcome-there c.args.self.now.setup.plan c.args.future.now.unit c.requires.may.future.near; written = refl }

pub load_as-requires-clause-rule : goal.load_as-requires-clause-rule
load_as-requires-clause-rule c =
    let seat = c.args.pass.now.seat in sees-result-at c.args.self.now.setup seat.id seat.me.0 c.args.future.now.unit (packed_state c.args.seen) c.requires.may.saw

pub returns-clause-value : goal.returns-clause-value
returns-clause-value c = sees-result c.args.future.now.unit c.load_as.result _ _ c.args.seen c.requires.may.fits c.load_as.ensures.told
