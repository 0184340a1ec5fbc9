use Rattle.std.proofs.Common.{ap, arith}
use Rattle.table_core.specs.Addresses.{units_of}
use Rattle.step_table.specs.Passes.{view}
use Rattle.schedule_core.proofs.TakenRuns.{passes-number, passes-outside}
use Rattle.schedule_core.proofs.taking.take_entry.Goals as goal

pub returns-else-entry-lt-NUMBERS-clause-taken : goal.returns-else-entry-lt-NUMBERS-clause-taken
returns-else-entry-lt-NUMBERS-clause-taken c =
    passes-number c.args.shared.now.setup c.args.entry c.see_state.result c.args.pass.now c.see_state.new.pass (omega (arith, c.if-entry-units.true, ap units_of c.plan-plan.ensures)) (omega (arith, c.if-entry-lt-NUMBERS.false)) c.see_state.ensures.fits c.see_state.ensures.view

pub returns-else-entry-units-clause-taken : goal.returns-else-entry-units-clause-taken
returns-else-entry-units-clause-taken c =
    passes-outside c.args.shared.now.setup c.args.entry c.of.result (view c.args.pass.now) (omega (arith, c.if-entry-units.false, ap units_of c.plan-plan.ensures)) c.of.ensures.packed.0 c.of.ensures.packed.1
