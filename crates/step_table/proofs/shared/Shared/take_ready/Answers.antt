use Rattle.step_table.proofs.shared.Shared.take_ready.Goals as goal
use Rattle.std.proofs.Common.{refl, arith}
use Rattle.schedule_rule.proofs.TakingKinds.{takes-at}
use Rattle.step_table.proofs.RecordStepping.{state-there}
use Rattle.step_table.proofs.TakingStepping.{is-taking, takes-record, finds-other}

pub compare_exchange_as-found-requires-clause-word : goal.compare_exchange_as-found-requires-clause-word
compare_exchange_as-found-requires-clause-word c =
    record { place = c.state_word-word.ensures; there = state-there c.args.self.now.setup.plan c.args.unit c.requires.unit; written = refl }

pub compare_exchange_as-found-requires-clause-rule : goal.compare_exchange_as-found-requires-clause-rule
compare_exchange_as-found-requires-clause-rule c =
    let pass = c.args.pass.now in
    takes-at c.args.self.now.setup pass.seat.id pass.seat.me.0 c.args.unit c.requires.unit (omega (arith, pass.shares)) c.pack-old.result c.pack-new.result
    (is-taking c.args.ready c.pack-old.result c.pack-new.result c.requires.ready c.pack-old.ensures.packed c.pack-new.ensures.packed)

pub of-requires : goal.of-requires
of-requires c = c.compare_exchange_as-found.ensures.told.2

pub returns-then-won-clause-taken : goal.returns-then-won-clause-taken
returns-then-won-clause-taken c =
    let told = c.compare_exchange_as-found.ensures.told.0 c.if-won.true in
    takes-record c.args.self.now.setup c.args.unit c.pack-old.result c.args.ready _ _ _ c.requires.ready c.pack-old.ensures.packed told refl refl

pub returns-else-won-clause-taken : goal.returns-else-won-clause-taken
returns-else-won-clause-taken c =
    let told = c.compare_exchange_as-found.ensures.told in
    finds-other c.args.unit c.compare_exchange_as-found.result c.pack-old.result c.args.ready _ _ c.of.result c.of.ensures.packed c.pack-old.ensures.packed c.if-won.false (told.1 c.if-won.false)
