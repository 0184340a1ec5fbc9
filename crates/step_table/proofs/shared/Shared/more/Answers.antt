use Rattle.step_table.proofs.shared.Shared.more.Goals as goal
use Rattle.std.proofs.Common.{refl, arith}
use Rattle.schedule_rule.proofs.ReferenceKinds.{mores-at}
use Rattle.step_table.proofs.RecordStepping.{refs-there}

pub fetch_add_as-requires-clause-word : goal.fetch_add_as-requires-clause-word
fetch_add_as-requires-clause-word c = record { place = c.refs_word-word.ensures; there = refs-there c.args.self.now.setup.plan c.args.future.now.unit c.requires.hand.near; written = refl }

pub fetch_add_as-requires-clause-rule : goal.fetch_add_as-requires-clause-rule
fetch_add_as-requires-clause-rule c =
    let pass = c.args.pass.now in
    mores-at c.args.self.now.setup pass.seat.id pass.seat.me.0 c.args.future.now.unit c.requires.hand.near (omega (arith, pass.shares)) c.requires.hand.there (omega (arith, pass.counts, c.requires.room))

pub returns-clause-future : goal.returns-clause-future
returns-clause-future c = record { unit_is = refl; found = c.fetch_add_as.result; view_is = c.fetch_add_as.ensures.told }
