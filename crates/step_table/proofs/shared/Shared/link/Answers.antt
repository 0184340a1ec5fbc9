use Rattle.step_table.proofs.shared.Shared.link.Goals as goal
use Rattle.std.proofs.Common.{ℕ, ◌∙◌, ap, arith, refl}
use Rattle.table_core.specs.Addresses.{next}
use Rattle.table_core.specs.Views.{saw}
use Rattle.table_core.specs.WaitViews.{linked}
use Rattle.step_table.proofs.ListStepping.{links-value}
use Rattle.step_table.proofs.RecordStepping.{next-there}

pub store_as-requires-clause-word : goal.store_as-requires-clause-word
store_as-requires-clause-word c = record { place = c.own_word-word.ensures; there = next-there c.args.self.now.setup.plan c.args.waiter.now.unit (c.requires.hand.1).near; written = refl }

pub store_as-requires-clause-rule : goal.store_as-requires-clause-rule
store_as-requires-clause-rule c =
    let pass = c.args.pass.now in let hand = c.requires.hand in
    links-value c.args.self.now.setup pass.seat.id pass.seat.me.0 (omega (arith, pass.shares)) c.args.waiter.now.unit hand.0 hand.1 c.pack-head.result

pub returns-clause-view : goal.returns-clause-view
returns-clause-view c =
    let u = c.args.waiter.now.unit in let told = c.store_as.ensures.told in
    record { found = told.0; view_is = told.1 ∙ ap (λ (n : ℕ). saw (next u) told.0 (linked u n c.args.pass.now.seat.me.0)) c.pack-head.ensures.packed }
