use Rattle.std.proofs.Common.{◌∙◌, false, refl, sym, ap, subst, arith}
use Rattle.kt_words.specs.declared.state_word.StateWord.{StateWord}
use Rattle.step_table.specs.Passes.{view}
use Rattle.step_table.specs.SeeingSteps.{IsReadyWord}
use Rattle.step_table.proofs.PlacingStepping.{word-fits}
use Rattle.schedule_core.proofs.TakenRuns.{took-record, takes-entry, passes-word}
use Rattle.schedule_core.proofs.taking.take_word.Goals as goal

pub take_ready-requires-clause-ready : goal.take_ready-requires-clause-ready
take_ready-requires-clause-ready c = subst IsReadyWord (sym c.ready_word-ready.ensures) (record { fits = word-fits false c.args.entry.number c.args.entry.priority c.requires.entry.1; phase_is = refl })

pub run_of-requires-clause-taken : goal.run_of-requires-clause-taken
run_of-requires-clause-taken c = record {
  before = view c.args.pass.now;
  told = took-record c.args.shared.now.setup c.args.entry.unit c.ready_word-ready.result c.args.pass.now c.take_ready.new.pass c.in-Ok.started c.in-Ok.ensures.taken c.in-Ok.ensures.sound;
  counted = omega (arith, c.held-held.ensures.references);
  few = omega (arith, c.held-held.ensures.count, c.requires.room);
}

pub returns-in-Ok-clause-taken : goal.returns-in-Ok-clause-taken
returns-in-Ok-clause-taken c =
    let told = c.in-Ok.ensures.taken in
    takes-entry c.args.shared.now.setup c.args.entry c.in-Ok.started (view c.args.pass.now) (view c.run_of.new.pass) c.run_of.result told.unit_is (told.number_is ∙ ap (λ (w : StateWord). w.number) c.ready_word-ready.ensures)
    (c.run_of.ensures.run (view c.args.pass.now) (took-record c.args.shared.now.setup c.args.entry.unit c.ready_word-ready.result c.args.pass.now c.take_ready.new.pass c.in-Ok.started told c.in-Ok.ensures.sound))

pub returns-in-Err-clause-taken : goal.returns-in-Err-clause-taken
returns-in-Err-clause-taken c =
    passes-word c.args.shared.now.setup c.args.entry c.ready_word-ready.result c.in-Err.found c.args.pass.now c.take_ready.new.pass c.requires.entry c.ready_word-ready.ensures c.in-Err.ensures.taken
