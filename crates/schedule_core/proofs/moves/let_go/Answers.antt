use Rattle.std.proofs.Common.{◌∙◌, None, refl, sym, ap, subst}
use Rattle.std.specs.Prelude.{slice_index}
use Rattle.task_syntax.specs.declared.program.Program.{Program}
use Rattle.task_syntax.specs.declared.program.Sort.TheVariants.{Future}
use Rattle.frame_code.specs.Setting.{HasSort, unit_in}
use Rattle.frame_code.specs.Words.{body_of}
use Rattle.task_syntax.specs.Form.{IsWellFormed}
use Rattle.schedule_rule.proofs.HeldNameFacts.{drops-hold}
use Rattle.step_table.specs.Passes.{view}
use Rattle.schedule_core.proofs.PastMoves.{is-gone, loose-past, gone-past}
use Rattle.schedule_core.proofs.PastNames.{drops-touching, touch-sort}
use Rattle.schedule_core.proofs.moves.let_go.Goals as goal

pub lift-before-requires-clause-variable : goal.lift-before-requires-clause-variable
lift-before-requires-clause-variable c =
    let g = c.args.shared.now.setup in let x = c.args.running.now in
    subst (λ (p : Program). HasSort p Future c.args.variable x.frame.items) (sym c.requires.code)
    (touch-sort g.checked (slice_index x.frame.items) c.args.variable (subst IsWellFormed c.requires.code c.program-program.ensures.formed)
    (drops-touching g.checked c.args.variable (body_of g.checked x.frame.items) c.requires.may.drops))

pub drop_loose-requires-clause-loose : goal.drop_loose-requires-clause-loose
drop_loose-requires-clause-loose c =
    let g = c.args.shared.now.setup in let x = c.args.running.now in let v = view c.args.pass.now in
    let gone = is-gone g x (record x { frame = c.pass_on.new.frame }) v c.args.code.now c.args.variable None c.lift-before.new.frame.items c.requires.code c.program-program.ensures.formed c.requires.may.in_step
    (drops-touching g.checked c.args.variable (body_of g.checked x.frame.items) c.requires.may.drops) refl c.pass_on.ensures.frame c.lift-before.ensures.set c.pass_on.ensures.moved
    (drops-hold g.checked (body_of g.checked x.frame.items) c.args.variable c.requires.may.drops c.requires.may.in_step.way c.requires.may.in_step.names) in
    loose-past g x (record x { frame = c.pass_on.new.frame }) c.args.variable None c.lift-before.result v gone c.requires.may.in_step c.requires.may.in_step.spare
    (c.lift-before.ensures.old ∙ ap (λ (p : Program). unit_in p x.frame.items c.args.variable) c.requires.code)

pub returns-clause-left : goal.returns-clause-left
returns-clause-left c =
    let g = c.args.shared.now.setup in let x = c.args.running.now in let v = view c.args.pass.now in
    let gone = is-gone g x (record x { frame = c.pass_on.new.frame }) v c.args.code.now c.args.variable None c.lift-before.new.frame.items c.requires.code c.program-program.ensures.formed c.requires.may.in_step
    (drops-touching g.checked c.args.variable (body_of g.checked x.frame.items) c.requires.may.drops) refl c.pass_on.ensures.frame c.lift-before.ensures.set c.pass_on.ensures.moved
    (drops-hold g.checked (body_of g.checked x.frame.items) c.args.variable c.requires.may.drops c.requires.may.in_step.way c.requires.may.in_step.names) in
    gone-past g x (record x { frame = c.pass_on.new.frame }) c.args.variable None c.lift-before.result v gone c.requires.may.in_step c.requires.may.in_step.spare
    (c.lift-before.ensures.old ∙ ap (λ (p : Program). unit_in p x.frame.items c.args.variable) c.requires.code) (view c.drop_loose.new.pass) c.drop_loose.ensures.dropped c.drop_loose.ensures.in_step
