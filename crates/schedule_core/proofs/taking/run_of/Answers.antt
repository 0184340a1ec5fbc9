use Rattle.std.proofs.Common.{◌∙◌, ◌∷◌, [], length, refl, sym, ap, subst, arith}
use Rattle.task_syntax.specs.declared.program.Program.{Program}
use Rattle.frame_code.specs.Frames.{IsFrame}
use Rattle.frame_code.specs.Units.{named_in}
use Rattle.table_core.specs.Addresses.{journal}
use Rattle.table_core.specs.declared.view.View.{View}
use Rattle.schedule_rule.specs.Rows.{word_of_task}
use Rattle.step_table.specs.Passes.{view}
use Rattle.schedule_core.proofs.EachFacts.{grows-on, same-on}
use Rattle.schedule_core.proofs.TakenRuns.{took-run, took-started, took-accepted, took-count, started-sees, run-sees, front-known, front-read, front-names_few, takes-run}
use Rattle.schedule_core.proofs.taking.run_of.Goals as goal

pub read_after-after-requires-clause-hand : goal.read_after-after-requires-clause-hand
read_after-after-requires-clause-hand c = took-started c.args.shared.now.setup c.args.started c.requires.taken.before (view c.args.pass.now) c.requires.taken.told

pub read_task-task-requires-clause-hand : goal.read_task-task-requires-clause-hand
read_task-task-requires-clause-hand c =
    started-sees c.args.shared.now.setup.plan c.args.started (view c.args.pass.now) (view c.read_after-after.new.pass)
    (took-started c.args.shared.now.setup c.args.started c.requires.taken.before (view c.args.pass.now) c.requires.taken.told) (ap (λ (v : View). v.runs) c.read_after-after.ensures.after.view_is)

pub read_frame-frame-requires-clause-known : goal.read_frame-frame-requires-clause-known
read_frame-frame-requires-clause-known c =
    let t = c.requires.taken.told in (
      t.words,
      front-known c.args.shared.now.setup c.args.code.now c.args.started c.requires.taken.before (view c.args.pass.now) (view c.read_task-task.new.pass) c.unit.result t c.requires.code c.unit.ensures
          (ap (λ (v : View). v.known) c.read_task-task.ensures.task.view_is ∙ ap (λ (v : View). v.known) c.read_after-after.ensures.after.view_is),
    )

pub naming_words-requires : goal.naming_words-requires
naming_words-requires c =
    let t = c.requires.taken.told in
    let is = front-read c.args.shared.now.setup c.args.code.now c.args.started c.requires.taken.before (view c.args.pass.now) (view c.read_task-task.new.pass) c.unit.result c.read_frame-frame.result.items t c.requires.code c.unit.ensures
    (ap (λ (v : View). v.known) c.read_task-task.ensures.task.view_is ∙ ap (λ (v : View). v.known) c.read_after-after.ensures.after.view_is) c.read_frame-frame.ensures.frame in
    subst (λ (q : Program). IsFrame q c.read_frame-frame.result.items) (sym c.requires.code) (subst (IsFrame c.args.shared.now.setup.checked) (sym is) t.frame_is.formed)

pub keep_count-requires : goal.keep_count-requires
keep_count-requires c =
    let t = c.requires.taken.told in
    let is = front-read c.args.shared.now.setup c.args.code.now c.args.started c.requires.taken.before (view c.args.pass.now) (view c.read_task-task.new.pass) c.unit.result c.read_frame-frame.result.items t c.requires.code c.unit.ensures
    (ap (λ (v : View). v.known) c.read_task-task.ensures.task.view_is ∙ ap (λ (v : View). v.known) c.read_after-after.ensures.after.view_is) c.read_frame-frame.ensures.frame in
    omega (
      arith,
      took-count c.args.shared.now.setup c.args.started c.requires.taken.before (view c.args.pass.now) t c.args.held c.read_frame-frame.result.items is c.requires.taken.counted,
      c.count_named-named.ensures,
      ap length c.naming_words.ensures,
      ap (λ (q : Program). length (named_in q c.read_frame-frame.result.items)) c.requires.code,
      ap (λ (v : View). length v.futures) c.read_frame-frame.ensures.seen.view_is,
      ap (λ (v : View). length v.futures) c.read_task-task.ensures.task.view_is,
      ap (λ (v : View). length v.futures) c.read_after-after.ensures.after.view_is,
    )

pub overflow_add-held : goal.overflow_add-held
overflow_add-held c =
    let t = c.requires.taken.told in
    let is = front-read c.args.shared.now.setup c.args.code.now c.args.started c.requires.taken.before (view c.args.pass.now) (view c.read_task-task.new.pass) c.unit.result c.read_frame-frame.result.items t c.requires.code c.unit.ensures
    (ap (λ (v : View). v.known) c.read_task-task.ensures.task.view_is ∙ ap (λ (v : View). v.known) c.read_after-after.ensures.after.view_is) c.read_frame-frame.ensures.frame in
    omega (
      arith,
      front-names_few c.args.shared.now.setup c.args.started c.requires.taken.before (view c.args.pass.now) c.read_frame-frame.result.items t is,
      c.requires.taken.few,
      c.count_named-named.ensures,
      ap length c.naming_words.ensures,
      ap (λ (q : Program). length (named_in q c.read_frame-frame.result.items)) c.requires.code,
    )

pub returns-clause-pass : goal.returns-clause-pass
returns-clause-pass c =
    let h = c.args.pass.now.held in let n = c.read_frame-frame.new.pass.held in
    let one = same-on h c.read_after-after.new.pass.held c.args.pass.now c.read_after-after.new.pass c.read_task-task.new.pass c.read_after-after.ensures.pass c.read_task-task.ensures.pass in
    let two = same-on c.read_after-after.new.pass.held c.read_task-task.new.pass.held c.args.pass.now c.read_task-task.new.pass c.read_frame-frame.new.pass one c.read_frame-frame.ensures.pass in
    let three = same-on c.read_task-task.new.pass.held _ c.args.pass.now c.read_frame-frame.new.pass c.keep_count.new.self two c.keep_count.ensures.pass in
    record {
      table = three.table;
      id = three.id;
      splits = three.splits;
      number = three.number;
      held_is = omega (arith, c.keep_count.ensures.pass.held_is, c.count_named-named.ensures, ap length c.naming_words.ensures);
    }

pub returns-clause-run : goal.returns-clause-run
returns-clause-run c before t =
    let g = c.args.shared.now.setup in let v = view c.args.pass.now in let one = view c.read_after-after.new.pass in let two = view c.read_task-task.new.pass in let three = view c.read_frame-frame.new.pass in
    let is = front-read g c.args.code.now c.args.started before v two c.unit.result c.read_frame-frame.result.items t c.requires.code c.unit.ensures
    (ap (λ (w : View). w.known) c.read_task-task.ensures.task.view_is ∙ ap (λ (w : View). w.known) c.read_after-after.ensures.after.view_is) c.read_frame-frame.ensures.frame in
    takes-run g c.args.started before v (view c.keep_count.new.self) t c.args.priority _
    (c.keep_count.ensures.view ∙ c.read_frame-frame.ensures.seen.view_is
    ∙ (λ k. record (c.read_task-task.ensures.task.view_is k) { seen = three.seen })
    ∙ (λ k. record (c.read_after-after.ensures.after.view_is k) { seen = three.seen })
    ∙ (λ k. record v { seen = (sym c.keep_count.ensures.view k).seen }))
    (grows-on v.seen three.seen (view c.keep_count.new.self).seen
    (grows-on v.seen two.seen three.seen
    (grows-on v.seen one.seen two.seen ((journal c.args.started.number 1, word_of_task c.read_after-after.result) ∷ [], ap (λ (w : View). w.seen) c.read_after-after.ensures.after.view_is)
    ((journal c.args.started.number 0, c.read_task-task.result) ∷ [], ap (λ (w : View). w.seen) c.read_task-task.ensures.task.view_is))
    c.read_frame-frame.ensures.seen.seen)
    ([], ap (λ (w : View). w.seen) c.keep_count.ensures.view))
    refl
    (c.read_task-task.ensures.task.task_is _ (run-sees g.plan c.args.started.unit v one _ (took-run g c.args.started before v t) (ap (λ (w : View). w.runs) c.read_after-after.ensures.after.view_is)))
    (c.read_after-after.ensures.after.after_is t.call (took-accepted g c.args.started before v t))
    refl
    refl
    refl
    is
