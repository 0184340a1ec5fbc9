use Rattle.step_table.proofs.shared.Shared.see_done.Goals as goal
use Rattle.std.proofs.Common.{refl}
use Rattle.schedule_rule.proofs.SeeingKinds.{sees-over-at}
use Rattle.step_table.proofs.RecordStepping.{state-there}
use Rattle.step_table.proofs.SeeingStepping.{sees-end}

pub load_as-found-requires-clause-word : goal.load_as-found-requires-clause-word
load_as-found-requires-clause-word c =
    record { place = c.state_word-word.ensures; there = state-there c.args.self.now.setup.plan c.args.future.now.unit c.requires.hand.near; written = refl }

pub load_as-found-requires-clause-rule : goal.load_as-found-requires-clause-rule
load_as-found-requires-clause-rule c =
    let seat = c.args.pass.now.seat in sees-over-at c.args.self.now.setup seat.id seat.me.0 c.args.future.now.unit c.requires.hand.there

pub of-requires : goal.of-requires
of-requires c = c.load_as-found.ensures.told.1

pub returns-clause-word : goal.returns-clause-word
returns-clause-word c = sees-end c.args.future.now.unit c.load_as-found.result _ _ c.of.result c.requires.hand.there c.of.ensures.packed c.of.ensures.numbers c.load_as-found.ensures.told.0
