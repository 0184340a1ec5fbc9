use Rattle.step_table.proofs.shared.Shared.read_task.Goals as goal
use Rattle.std.proofs.Common.{refl, arith}
use Rattle.step_table.proofs.RecordStepping.{journal-there}
use Rattle.step_table.proofs.SeeingStepping.{task-value, task-few}

pub load_as-found-requires-clause-word : goal.load_as-found-requires-clause-word
load_as-found-requires-clause-word c =
    record { place = c.row_word-word.ensures; there = journal-there c.args.self.now.setup.plan c.args.started.now.number 0 (c.requires.hand.1).number_fits (omega arith); written = refl }

pub load_as-found-requires-clause-rule : goal.load_as-found-requires-clause-rule
load_as-found-requires-clause-rule c =
    let seat = c.args.pass.now.seat in let started = c.args.started.now in
    task-value c.args.self.now.setup seat.id seat.me.0 started.unit started.number c.requires.hand.0 (c.requires.hand.1).run.there (c.requires.hand.1).number_is

pub overflow_cast-result : goal.overflow_cast-result
overflow_cast-result c =
    let hand = c.requires.hand in let found = c.load_as-found in let v = c.args.pass.now.seat.me.0 in
    let few = task-few c.args.self.now.setup v c.args.started.now.unit hand.0 (hand.1).run.there found.ensures.sound.before in
    omega (arith, few, c.args.self.now.setup.plan.limit_fits, found.ensures.told.1 hand.0 (hand.1).run.there)

pub returns-clause-task : goal.returns-clause-task
returns-clause-task c = let told = c.load_as-found.ensures.told in record { task_is = λ r at. told.1 r at.there; view_is = told.0 }
