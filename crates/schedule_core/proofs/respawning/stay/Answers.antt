use Rattle.std.proofs.Common.{◌≡◌, ◌∙◌, Some, None, [], length, refl, sym, ap, subst, arith}
use Rattle.std.specs.Prelude.{slice_index}
use Rattle.task_syntax.specs.declared.program.Program.{Program}
use Rattle.task_syntax.specs.declared.value.Priority.TheVariants.{Low}
use Rattle.frame_code.specs.Units.{named_in}
use Rattle.frame_code.specs.Words.{body_at, body_of}
use Rattle.table_core.specs.declared.view.View.{View}
use Rattle.step_table.specs.Passes.{view}
use Rattle.schedule_core.specs.Respawning.{HasRespawned}
use Rattle.schedule_core.proofs.RespawnFacts.{next-stays, null-single, may-place, left-long, gone-on, drops-none}
use Rattle.schedule_core.proofs.respawning.stay.Goals as goal

pub place_ready-entry-requires-clause-may : goal.place_ready-entry-requires-clause-may
place_ready-entry-requires-clause-may c =
    let g = c.args.shared.now.setup in let x = c.args.running in let p = g.checked in let items = x.frame.items in let n = c.args.number in let v = view c.args.pass.now in
    let in_step = c.requires.may.may.in_step in
    let is_next = next-stays p (body_at p (slice_index in_step.run.words)) (body_of p items) in_step.same in_step.way (null-single p g.columns (body_of p items) c.requires.may.may.asks) in
    (may-place g x None n None c.requires.may.base v in_step c.requires.may.has items [] in_step.frame is_next in_step.names (λ w. omega arith)).may

pub overflow_sub-held : goal.overflow_sub-held
overflow_sub-held c =
    let g = c.args.shared.now.setup in let x = c.args.running in let p = g.checked in let items = x.frame.items in let n = c.args.number in let v = view c.args.pass.now in
    let in_step = c.requires.may.may.in_step in
    let is_next = next-stays p (body_at p (slice_index in_step.run.words)) (body_of p items) in_step.same in_step.way (null-single p g.columns (body_of p items) c.requires.may.may.asks) in
    let z = view c.place_ready-entry.new.pass in
    let long = left-long g x None n None c.requires.may.base v in_step c.requires.may.has items [] in_step.frame is_next in_step.names (λ w. omega arith) Low (Some c.place_ready-entry.result) z c.place_ready-entry.ensures.placed z (drops-none z) in
    let count = c.count_named-named.ensures ∙ ap length c.naming_words.ensures ∙ ap (λ (q : Program). length (named_in q items)) c.requires.code in
    omega (arith, long, count, c.args.pass.now.counts, c.held-held.ensures)

pub keep_count-requires : goal.keep_count-requires
keep_count-requires c =
    let g = c.args.shared.now.setup in let x = c.args.running in let p = g.checked in let items = x.frame.items in let n = c.args.number in let v = view c.args.pass.now in
    let in_step = c.requires.may.may.in_step in
    let is_next = next-stays p (body_at p (slice_index in_step.run.words)) (body_of p items) in_step.same in_step.way (null-single p g.columns (body_of p items) c.requires.may.may.asks) in
    let z = view c.place_ready-entry.new.pass in
    let long = left-long g x None n None c.requires.may.base v in_step c.requires.may.has items [] in_step.frame is_next in_step.names (λ w. omega arith) Low (Some c.place_ready-entry.result) z c.place_ready-entry.ensures.placed z (drops-none z) in
    let count = c.count_named-named.ensures ∙ ap length c.naming_words.ensures ∙ ap (λ (q : Program). length (named_in q items)) c.requires.code in
    omega (arith, long, count, c.args.pass.now.counts, c.held-held.ensures)

pub returns-clause-stays : goal.returns-clause-stays
returns-clause-stays c = λ base may has.
    let g = c.args.shared.now.setup in let x = c.args.running in let p = g.checked in let items = x.frame.items in let n = c.args.number in let v = view c.args.pass.now in
    let in_step = may.in_step in
    let is_next = next-stays p (body_at p (slice_index in_step.run.words)) (body_of p items) in_step.same in_step.way (null-single p g.columns (body_of p items) may.asks) in
    let z = view c.place_ready-entry.new.pass in
    subst (λ (w : View). HasRespawned g x None Low (λ words. words ≡ items) base (Some c.place_ready-entry.result) w) (sym c.keep_count.ensures.view)
    (gone-on g x None n None base v in_step has items [] in_step.frame is_next in_step.names (λ w. omega arith) Low (Some c.place_ready-entry.result) z c.place_ready-entry.ensures.placed z (drops-none z) (λ words. words ≡ items) refl)
