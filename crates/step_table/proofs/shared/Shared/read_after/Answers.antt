use Rattle.step_table.proofs.shared.Shared.read_after.Goals as goal
use Rattle.std.proofs.Common.{ℕ, ◌∙◌, refl, sym, ap, arith}
use Rattle.table_core.specs.Addresses.{journal}
use Rattle.table_core.specs.Views.{saw}
use Rattle.step_table.proofs.RecordStepping.{journal-there}
use Rattle.step_table.proofs.SeeingStepping.{after-value, after-named, after-few}

pub load_as-found-requires-clause-word : goal.load_as-found-requires-clause-word
load_as-found-requires-clause-word c =
    record { place = c.row_word-word.ensures; there = journal-there c.args.self.now.setup.plan c.args.started.now.number 1 (c.requires.hand.1).number_fits (omega arith); written = refl }

pub load_as-found-requires-clause-rule : goal.load_as-found-requires-clause-rule
load_as-found-requires-clause-rule c =
    let seat = c.args.pass.now.seat in let started = c.args.started.now in
    after-value c.args.self.now.setup seat.id seat.me.0 started.unit started.number c.requires.hand.0 (c.requires.hand.1).run.there (c.requires.hand.1).number_is

pub returns-clause-after : goal.returns-clause-after
returns-clause-after c =
    let told = c.load_as-found.ensures.told in let old = c.args.pass.now.seat.me.0 in let n = c.args.started.now.number in
    let limit = c.args.self.now.setup.plan.limit in
    record {
      after_is = after-named limit n c.load_as-found.result old c.task_named.result told.1 c.task_named.ensures.word c.task_named.ensures.some;
      few = after-few limit n c.load_as-found.result old c.task_named.result told.1 c.task_named.ensures.word c.task_named.ensures.some;
      view_is = told.0 ∙ ap (λ (k : ℕ). saw (journal n 1) k old) (sym c.task_named.ensures.word);
    }
