use Rattle.step_table.proofs.shared.Shared.see_task.Goals as goal
use Rattle.std.proofs.Common.{refl}
use Rattle.schedule_rule.proofs.SeeingKinds.{sees-task-at}
use Rattle.step_table.proofs.RecordStepping.{task-there}

pub load_as-found-requires-clause-word : goal.load_as-found-requires-clause-word
load_as-found-requires-clause-word c =
    record { place = c.own_word-word.ensures; there = task-there c.args.self.now.setup.plan c.args.future.now.unit c.requires.hand.near; written = refl }

pub load_as-found-requires-clause-rule : goal.load_as-found-requires-clause-rule
load_as-found-requires-clause-rule c =
    let seat = c.args.pass.now.seat in sees-task-at c.args.self.now.setup seat.id seat.me.0 c.args.future.now.unit c.requires.hand.there
