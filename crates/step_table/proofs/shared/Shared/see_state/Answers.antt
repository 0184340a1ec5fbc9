use Rattle.step_table.proofs.shared.Shared.see_state.Goals as goal
use Rattle.std.proofs.Common.{ℕ, ◌∙◌, sym, ap, refl}
use Rattle.table_core.specs.Addresses.{state}
use Rattle.table_core.specs.Views.{saw}
use Rattle.table_core.specs.RecordViews.{saw_state}
use Rattle.schedule_rule.proofs.ReferenceKinds.{sees-state-at}
use Rattle.step_table.proofs.RecordStepping.{state-there}

pub load_as-found-requires-clause-word : goal.load_as-found-requires-clause-word
load_as-found-requires-clause-word c = record { place = c.state_word-word.ensures; there = state-there c.args.self.now.setup.plan c.args.unit c.requires.unit; written = refl }

pub load_as-found-requires-clause-rule : goal.load_as-found-requires-clause-rule
load_as-found-requires-clause-rule c = sees-state-at c.args.self.now.setup c.args.pass.now.seat.id c.args.pass.now.seat.me.0 c.args.unit c.requires.unit

pub of-requires : goal.of-requires
of-requires c = c.load_as-found.ensures.told.1

pub returns-clause-view : goal.returns-clause-view
returns-clause-view c =
    let old = c.args.pass.now.seat.me.0 in
    c.load_as-found.ensures.told.0 ∙ ap (λ (n : ℕ). saw (state c.args.unit) n (saw_state c.args.unit n old)) (sym c.of.ensures.packed.1)

pub returns-clause-fits : goal.returns-clause-fits
returns-clause-fits c = c.of.ensures.packed.0
