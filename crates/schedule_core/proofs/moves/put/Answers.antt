use Rattle.std.proofs.Common.{◌∙◌, Some, refl, sym, ap, subst}
use Rattle.std.specs.Prelude.{slice_index}
use Rattle.task_syntax.specs.declared.program.Program.{Program}
use Rattle.task_syntax.specs.declared.program.Sort.TheVariants.{Future}
use Rattle.frame_code.specs.Setting.{HasSort, unit_in}
use Rattle.frame_code.specs.Words.{body_of}
use Rattle.task_syntax.specs.Form.{IsWellFormed}
use Rattle.schedule_rule.proofs.HeldNameFacts.{puts-hold}
use Rattle.step_table.specs.Passes.{view}
use Rattle.schedule_core.proofs.PastMoves.{is-gone, loose-past, gone-past}
use Rattle.schedule_core.proofs.PastNames.{puts-touching, touch-sort}
use Rattle.schedule_core.proofs.moves.put.Goals as goal

pub assign-before-requires-clause-variable : goal.assign-before-requires-clause-variable
assign-before-requires-clause-variable c =
    let g = c.args.shared.now.setup in let x = c.args.running.now in
    subst (λ (p : Program). HasSort p Future c.args.to x.frame.items) (sym c.requires.code)
    (touch-sort g.checked (slice_index x.frame.items) c.args.to (subst IsWellFormed c.requires.code c.program-program.ensures.formed)
    (puts-touching g.checked c.args.to (body_of g.checked x.frame.items) c.requires.may.puts))

pub drop_loose-requires-clause-loose : goal.drop_loose-requires-clause-loose
drop_loose-requires-clause-loose c =
    let g = c.args.shared.now.setup in let x = c.args.running.now in let v = view c.args.pass.now in
    let gone = is-gone g x (record x { frame = c.pass_on.new.frame }) v c.args.code.now c.args.to (Some c.args.unit) c.assign-before.new.frame.items c.requires.code c.program-program.ensures.formed c.requires.may.in_step
    (puts-touching g.checked c.args.to (body_of g.checked x.frame.items) c.requires.may.puts) refl c.pass_on.ensures.frame c.assign-before.ensures.set c.pass_on.ensures.moved
    (puts-hold g.checked (slice_index x.frame.items) c.args.to c.args.unit (subst IsWellFormed c.requires.code c.program-program.ensures.formed) c.requires.may.puts c.requires.may.in_step.names) in
    loose-past g x (record x { frame = c.pass_on.new.frame }) c.args.to (Some c.args.unit) c.assign-before.result v gone c.requires.may.in_step c.requires.may.spare
    (c.assign-before.ensures.old ∙ ap (λ (p : Program). unit_in p x.frame.items c.args.to) c.requires.code)

pub returns-clause-put : goal.returns-clause-put
returns-clause-put c =
    let g = c.args.shared.now.setup in let x = c.args.running.now in let v = view c.args.pass.now in
    let gone = is-gone g x (record x { frame = c.pass_on.new.frame }) v c.args.code.now c.args.to (Some c.args.unit) c.assign-before.new.frame.items c.requires.code c.program-program.ensures.formed c.requires.may.in_step
    (puts-touching g.checked c.args.to (body_of g.checked x.frame.items) c.requires.may.puts) refl c.pass_on.ensures.frame c.assign-before.ensures.set c.pass_on.ensures.moved
    (puts-hold g.checked (slice_index x.frame.items) c.args.to c.args.unit (subst IsWellFormed c.requires.code c.program-program.ensures.formed) c.requires.may.puts c.requires.may.in_step.names) in
    gone-past g x (record x { frame = c.pass_on.new.frame }) c.args.to (Some c.args.unit) c.assign-before.result v gone c.requires.may.in_step c.requires.may.spare
    (c.assign-before.ensures.old ∙ ap (λ (p : Program). unit_in p x.frame.items c.args.to) c.requires.code) (view c.drop_loose.new.pass) c.drop_loose.ensures.dropped c.drop_loose.ensures.in_step
