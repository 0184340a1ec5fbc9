use Rattle.std.proofs.Common.{◌∙◌, ℕ, refl, sym, ap, subst, arith}
use Rattle.std.proofs.lemmas.Option.{none-some}
use Rattle.task_syntax.specs.declared.program.Program.{Program}
use Rattle.frame_code.specs.Setting.{unit_in}
use Rattle.frame_code.proofs.PassedArguments.{names-sort}
use Rattle.table_core.proofs.ReferenceBound.{units-few}
use Rattle.step_table.specs.Passes.{view, plan}
use Rattle.step_table.specs.RecordHands.{HasFuture}
use Rattle.step_table.specs.RecordSteps.{Refers}
use Rattle.schedule_core.proofs.CopyingTasks.{source-names, has-source, takes-source}
use Rattle.schedule_core.proofs.moves.clone_named.Goals as goal

pub future-requires-clause-variable : goal.future-requires-clause-variable
future-requires-clause-variable c =
    names-sort c.args.code.now c.args.running.now.frame.items c.args.source
    (source-names c.args.shared.now.setup c.args.running.now c.args.to c.args.source (view c.args.pass.now) c.args.code.now c.requires.code c.program-program.ensures.formed c.program-program.ensures.valid c.requires.may)

pub unreachable-requires : goal.unreachable-requires
unreachable-requires c =
    let named = source-names c.args.shared.now.setup c.args.running.now c.args.to c.args.source (view c.args.pass.now) c.args.code.now c.requires.code c.program-program.ensures.formed c.program-program.ensures.valid c.requires.may in
    none-some named.0 (sym c.in_default.is ∙ c.future.ensures ∙ named.1)

pub overflow_cast-unit : goal.overflow_cast-unit
overflow_cast-unit c =
    let g = c.args.shared.now.setup in
    omega (
      arith,
      (has-source g c.args.running.now c.args.to c.args.source c.in-Some.unit (view c.args.pass.now) c.requires.may
          (sym (ap (λ (p : Program). unit_in p c.args.running.now.frame.items c.args.source) c.requires.code) ∙ sym c.future.ensures ∙ c.in-Some.is) (view c.see_frame.new.pass) c.see_frame.ensures.seen c.see_frame.ensures.sound.after).near,
      units-few (plan c.args.shared.now),
    )

pub of-named-requires : goal.of-named-requires
of-named-requires c =
    (has-source c.args.shared.now.setup c.args.running.now c.args.to c.args.source c.in-Some.unit (view c.args.pass.now) c.requires.may
    (sym (ap (λ (p : Program). unit_in p c.args.running.now.frame.items c.args.source) c.requires.code) ∙ sym c.future.ensures ∙ c.in-Some.is) (view c.see_frame.new.pass) c.see_frame.ensures.seen c.see_frame.ensures.sound.after).there

pub clone_future-requires-clause-hand : goal.clone_future-requires-clause-hand
clone_future-requires-clause-hand c =
    subst (λ (u : ℕ). HasFuture (plan c.args.shared.now) u (view c.see_frame.new.pass)) (sym c.of-named.ensures)
    (has-source c.args.shared.now.setup c.args.running.now c.args.to c.args.source c.in-Some.unit (view c.args.pass.now) c.requires.may
    (sym (ap (λ (p : Program). unit_in p c.args.running.now.frame.items c.args.source) c.requires.code) ∙ sym c.future.ensures ∙ c.in-Some.is) (view c.see_frame.new.pass) c.see_frame.ensures.seen c.see_frame.ensures.sound.after)

pub returns-clause-taken : goal.returns-clause-taken
returns-clause-taken c =
    takes-source c.args.shared.now.setup c.args.running.now c.args.to c.args.source c.in-Some.unit (view c.args.pass.now) c.requires.may
    (sym (ap (λ (p : Program). unit_in p c.args.running.now.frame.items c.args.source) c.requires.code) ∙ sym c.future.ensures ∙ c.in-Some.is) (view c.see_frame.new.pass) c.see_frame.ensures.seen
    c.see_frame.new.pass c.clone_future.new.pass c.clone_future.result refl
    (subst (λ (u : ℕ). Refers u c.see_frame.new.pass c.clone_future.result c.clone_future.new.pass) c.of-named.ensures c.clone_future.ensures.future)
