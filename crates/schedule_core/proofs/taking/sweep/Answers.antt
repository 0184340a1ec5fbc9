use Rattle.std.proofs.Common.{◌∙◌, ap, arith}
use Rattle.table_core.specs.Addresses.{units_of}
use Rattle.step_table.specs.Passes.{view}
use Rattle.schedule_core.proofs.Sweeping.{sweeping-starts, sweeping-on, saw-ready, sweep-view, sweep-sights, sweep-grows}
use Rattle.schedule_core.proofs.TakenRuns.{run-since, passes-since}
use Rattle.schedule_core.proofs.taking.sweep.Goals as goal

pub units-init : goal.units-init
units-init c = sweeping-starts c.args.pass.now

pub see_state-word-requires-clause-table : goal.see_state-word-requires-clause-table
see_state-word-requires-clause-table c = c.units.invariant.same.table ∙ c.requires.table

pub see_state-word-requires-clause-unit : goal.see_state-word-requires-clause-unit
see_state-word-requires-clause-unit c = omega (arith, c.units-test.true, ap units_of c.plan-plan.ensures)

pub take_entry-requires-clause-table : goal.take_entry-requires-clause-table
take_entry-requires-clause-table c = c.see_state-word.ensures.pass.table ∙ c.units.invariant.same.table ∙ c.requires.table

pub take_entry-requires-clause-room : goal.take_entry-requires-clause-room
take_entry-requires-clause-room c = omega (arith, c.requires.room, c.see_state-word.ensures.pass.held_is, c.units.invariant.same.held_is)

pub returns-in-Ok-clause-pass : goal.returns-in-Ok-clause-pass
returns-in-Ok-clause-pass c =
    let so = c.units.invariant.same in let saw = c.see_state-word.ensures.pass in let took = c.in-Ok.ensures.pass in
    record {
      table = took.table ∙ saw.table ∙ so.table;
      id = took.id ∙ saw.id ∙ so.id;
      splits = took.splits ∙ saw.splits ∙ so.splits;
      number = took.number ∙ saw.number ∙ so.number;
      held_is = omega (arith, took.held_is, saw.held_is, so.held_is);
    }

pub returns-in-Ok-clause-swept : goal.returns-in-Ok-clause-swept
returns-in-Ok-clause-swept c =
    let g = c.args.shared.now.setup in let old = c.args.pass.now in let now = c.units.pass in let new = c.see_state-word.new.pass in let so = c.units.invariant in let sees = c.see_state-word.ensures.view in (
      c.entry_of-entry.result,
      saw-ready c.units.unit old now new (view c.take_entry.new.pass) c.see_state-word.result c.entry_of-entry.result so sees c.in-Ready.is c.see_state-word.ensures.fits c.entry_of-entry.ensures c.in-Ok.ensures.taken.seen,
      run-since g c.entry_of-entry.result.unit c.entry_of-entry.result.number c.entry_of-entry.result.priority (view old) (view new) (view c.take_entry.new.pass) c.in-Ok.running (sweep-view c.units.unit old now new c.see_state-word.result so sees)
          (sweep-sights c.units.unit old now new c.see_state-word.result so sees)
          (sweep-grows c.units.unit old now new c.see_state-word.result so sees) c.in-Ok.ensures.taken,
    )

pub returns-in-Err-clause-pass : goal.returns-in-Err-clause-pass
returns-in-Err-clause-pass c =
    let so = c.units.invariant.same in let saw = c.see_state-word.ensures.pass in let took = c.in-Err.ensures.pass in
    record {
      table = took.table ∙ saw.table ∙ so.table;
      id = took.id ∙ saw.id ∙ so.id;
      splits = took.splits ∙ saw.splits ∙ so.splits;
      number = took.number ∙ saw.number ∙ so.number;
      held_is = omega (arith, took.held_is, saw.held_is, so.held_is);
    }

pub returns-in-Err-clause-swept : goal.returns-in-Err-clause-swept
returns-in-Err-clause-swept c =
    let g = c.args.shared.now.setup in let old = c.args.pass.now in let now = c.units.pass in let new = c.see_state-word.new.pass in let so = c.units.invariant in let sees = c.see_state-word.ensures.view in
    let told = c.in-Err.ensures.taken in (
      saw-ready c.units.unit old now new (view c.take_entry.new.pass) c.see_state-word.result c.entry_of-entry.result so sees c.in-Ready.is c.see_state-word.ensures.fits c.entry_of-entry.ensures (told.steps, told.since),
      passes-since g c.entry_of-entry.result c.in-Err.seen (view old) (view new) (view c.take_entry.new.pass) (sweep-view c.units.unit old now new c.see_state-word.result so sees)
          (sweep-sights c.units.unit old now new c.see_state-word.result so sees)
          (sweep-grows c.units.unit old now new c.see_state-word.result so sees) told,
    )

pub units-preserved : goal.units-preserved
units-preserved c = sweeping-on c.units.unit c.args.pass.now c.units.pass c.see_state-word.new.pass c.see_state-word.result c.units.invariant c.see_state-word.ensures.pass c.see_state-word.ensures.view c.in_default.not-Ready

pub returns-clause-pass : goal.returns-clause-pass
returns-clause-pass c = c.units.invariant.same

pub returns-clause-swept : goal.returns-clause-swept
returns-clause-swept c = (
  λ u low. let s = c.units.invariant.none u (omega (arith, low, c.units-test.false, ap units_of c.plan-plan.ensures)) in (s.steps, s.found, s.since, s.saw, s.other),
  c.units.invariant.sights,
  c.units.invariant.view_is,
)
