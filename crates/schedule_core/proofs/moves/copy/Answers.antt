use Rattle.std.proofs.Common.{◌∙◌, ℕ, Option, length, sym, ap, arith}
use Rattle.std.specs.Option.{option_to_list}
use Rattle.task_syntax.specs.declared.program.Program.{Program}
use Rattle.frame_code.specs.Setting.{unit_in}
use Rattle.step_table.specs.Passes.{view}
use Rattle.schedule_core.proofs.CopyingTasks.{may-put_source, copies}
use Rattle.schedule_core.proofs.moves.copy.Goals as goal

pub put-requires-clause-may : goal.put-requires-clause-may
put-requires-clause-may c =
    may-put_source c.args.shared.now.setup c.args.running.now c.args.to c.args.source c.clone_named-unit.result (view c.args.pass.now) (view c.clone_named-unit.new.pass) c.requires.may c.clone_named-unit.ensures.taken

pub returns-clause-copied : goal.returns-clause-copied
returns-clause-copied c =
    copies c.args.shared.now.setup c.args.running.now c.put.new.running c.args.to c.args.source c.clone_named-unit.result (view c.args.pass.now) (view c.clone_named-unit.new.pass) (view c.put.new.pass)
    (sym (ap (λ (p : Program). unit_in p c.args.running.now.frame.items c.args.source) c.requires.code) ∙ c.clone_named-unit.ensures.unit) c.clone_named-unit.ensures.taken c.put.ensures.put

pub returns-clause-pass : goal.returns-clause-pass
returns-clause-pass c =
    let named = c.put.ensures.pass in let taken = c.clone_named-unit.ensures.pass in
    let one = ap (λ (o : Option ℕ). length (option_to_list o)) (sym (ap (λ (p : Program). unit_in p c.args.running.now.frame.items c.args.source) c.requires.code) ∙ c.clone_named-unit.ensures.unit) in
    record { table = named.table ∙ taken.table; id = named.id ∙ taken.id; splits = named.splits ∙ taken.splits; number = named.number ∙ taken.number; held_is = omega (arith, named.held_is, taken.held_is, one) }
