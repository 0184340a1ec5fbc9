use Rattle.step_table.proofs.shared.Shared.give_up.Goals as goal
use Rattle.std.proofs.Common.{arith, refl}
use Rattle.schedule_rule.proofs.ReferenceKinds.{gives-up-at}
use Rattle.step_table.proofs.LookupFacts.{done-there}
use Rattle.step_table.proofs.RecordStepping.{refs-there}

pub fetch_sub_as-found-requires-clause-word : goal.fetch_sub_as-found-requires-clause-word
fetch_sub_as-found-requires-clause-word c = record { place = c.refs_word-word.ensures; there = refs-there c.args.self.now.setup.plan c.args.finishing.unit c.requires.may.at.near; written = refl }

pub fetch_sub_as-found-requires-clause-rule : goal.fetch_sub_as-found-requires-clause-rule
fetch_sub_as-found-requires-clause-rule c =
    let pass = c.args.pass.now in let may = c.requires.may in let has = done-there c.args.finishing.unit pass.seat.me.0.done may.done may.at.there in
    gives-up-at c.args.self.now.setup pass.seat.id pass.seat.me.0 c.args.finishing.unit may.at.near (omega (arith, pass.shares)) may.done has.0 has.1 may.closed may.out

pub returns-clause-view : goal.returns-clause-view
returns-clause-view c = record { found = c.fetch_sub_as-found.result; view_is = c.fetch_sub_as-found.ensures.told; last_is = c.last_of.ensures }
