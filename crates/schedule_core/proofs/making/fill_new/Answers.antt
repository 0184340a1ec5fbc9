use Rattle.std.proofs.Common.{◌∙◌, ℕ, List, length, slice_index, ap, sym, subst, arith}
use Rattle.task_syntax.specs.declared.program.Program.{Program}
use Rattle.frame_code.specs.Names.{named}
use Rattle.step_table.specs.Passes.{view, plan}
use Rattle.schedule_core.specs.FrameWords.{MayWrite, WritesFrame}
use Rattle.schedule_core.specs.References.{HasEach}
use Rattle.schedule_core.proofs.Filling.{may-write, may-write_words, may-write_rows, fills-new}
use Rattle.schedule_core.proofs.making.fill_new.Goals as goal

pub take_named-requires-clause-has : goal.take_named-requires-clause-has
take_named-requires-clause-has c =
    subst (λ (l : List ℕ). HasEach (plan c.args.shared.now) l (view c.args.pass.now)) (sym (c.naming_words.ensures ∙ ap (λ (p : Program). named p (slice_index c.args.first.now.items)) c.requires.code)) c.requires.may.held

pub take_named-requires-clause-room : goal.take_named-requires-clause-room
take_named-requires-clause-room c = omega (arith, c.requires.room, ap length c.naming_words.ensures)

pub write_frame-requires-clause-may : goal.write_frame-requires-clause-may
write_frame-requires-clause-may c =
    subst (λ (u : ℕ). MayWrite (plan c.args.shared.now) u (length c.args.first.now.items) (view c.take_named.new.pass)) (sym c.unit.ensures)
    (may-write c.args.shared.now.setup c.args.made.now c.args.number c.args.behind c.args.first.now.items _ (view c.args.pass.now) (view c.take_named.new.pass) c.requires.may c.take_named.ensures.taken)

pub write_words-requires-clause-may : goal.write_words-requires-clause-may
write_words-requires-clause-may c =
    may-write_words c.args.shared.now.setup c.args.made.now c.args.number c.args.behind c.args.first.now.items _ (view c.args.pass.now) (view c.take_named.new.pass) (view c.write_frame.new.pass) c.requires.may
    c.take_named.ensures.taken (subst (λ (u : ℕ). WritesFrame u c.args.first.now.items (view c.take_named.new.pass) (view c.write_frame.new.pass)) c.unit.ensures c.write_frame.ensures.written)

pub write_rows-requires-clause-may : goal.write_rows-requires-clause-may
write_rows-requires-clause-may c =
    may-write_rows c.args.shared.now.setup c.args.made.now c.args.number c.args.behind c.args.first.now.items _ (view c.args.pass.now) (view c.take_named.new.pass) (view c.write_frame.new.pass)
    (view c.write_words.new.pass) c.requires.may c.take_named.ensures.taken
    (subst (λ (u : ℕ). WritesFrame u c.args.first.now.items (view c.take_named.new.pass) (view c.write_frame.new.pass)) c.unit.ensures c.write_frame.ensures.written) c.write_words.ensures.written

pub returns-clause-filled : goal.returns-clause-filled
returns-clause-filled c =
    fills-new c.args.code.now c.args.made.now c.args.number c.args.first.now.items _ (view c.args.pass.now) (view c.take_named.new.pass) (view c.write_frame.new.pass) (view c.write_words.new.pass)
    (view c.write_rows.new.pass) c.naming_words.ensures c.take_named.ensures.taken
    (subst (λ (u : ℕ). WritesFrame u c.args.first.now.items (view c.take_named.new.pass) (view c.write_frame.new.pass)) c.unit.ensures c.write_frame.ensures.written) c.write_words.ensures.written c.write_rows.ensures.written
