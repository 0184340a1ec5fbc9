use Rattle.step_table.proofs.shared.Shared.ready_waiting.Goals as goal
use Rattle.std.proofs.Common.{◌∙◌, refl, ap, arith}
use Rattle.kt_words.specs.StateWords.{packed_state}
use Rattle.table_core.specs.Addresses.{state}
use Rattle.table_core.specs.Views.{saw}
use Rattle.table_core.specs.WaitViews.{readied}
use Rattle.table_core.specs.declared.view.View.{View}
use Rattle.step_table.proofs.RecordStepping.{state-there}
use Rattle.step_table.proofs.SeeingStepping.{waits-value, ready-packed, readies-value, readies-told}

pub load_as-was-requires-clause-word : goal.load_as-was-requires-clause-word
load_as-was-requires-clause-word c =
    record { place = c.state_word-word.ensures; there = state-there c.args.self.now.setup.plan c.args.waiter.unit c.requires.may.at.near; written = refl }

pub load_as-was-requires-clause-rule : goal.load_as-was-requires-clause-rule
load_as-was-requires-clause-rule c =
    let seat = c.args.pass.now.seat in waits-value c.args.self.now.setup seat.id seat.me.0 c.args.waiter.unit c.requires.may.waiter c.requires.may.at.there

pub of-requires : goal.of-requires
of-requires c = (c.load_as-was.ensures.told.1 c.requires.may.waiter c.requires.may.at.there).shaped

pub store_as-requires-clause-rule : goal.store_as-requires-clause-rule
store_as-requires-clause-rule c =
    let pass = c.args.pass.now in let may = c.requires.may in let was = c.load_as-was in let told = was.ensures.told in
    let word_is = c.pack-packed.ensures.packed ∙ ap packed_state c.as_ready-ready.ensures ∙ ready-packed was.result c.of.result c.of.ensures.numbers in
    readies-value c.args.self.now.setup was.new.seat.id pass.seat.me.0 was.new.seat.me.0 c.args.waiter.unit was.result c.pack-packed.result may.waiter told.0 may.at.there may.start
    (told.1 may.waiter may.at.there) word_is (omega (arith, pass.shares))

pub returns-clause-ready : goal.returns-clause-ready
returns-clause-ready c =
    let may = c.requires.may in let was = c.load_as-was in let stored = c.store_as.ensures.told in let u = c.args.waiter.unit in
    readies-told c.args.self.now.setup.plan u was.result _ _ c.of.result c.as_ready-ready.result may.waiter may.at (was.ensures.told.1 may.waiter may.at.there) c.of.ensures.packed c.of.ensures.numbers
    c.as_ready-ready.ensures stored.0 (stored.1 ∙ ap (λ (v : View). saw (state u) stored.0 (readied u v)) was.ensures.told.0)
