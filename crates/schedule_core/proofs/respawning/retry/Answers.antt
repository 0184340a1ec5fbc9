use Rattle.std.proofs.Common.{Option, None, sym, subst}
use Rattle.step_table.specs.Passes.{view}
use Rattle.schedule_core.specs.NextNumbers.{HasNumber}
use Rattle.schedule_core.specs.Respawning.{Retries}
use Rattle.frame_code.specs.Words.{body_of}
use Rattle.schedule_core.specs.declared.making.Behind.{Behind}
use Rattle.schedule_core.proofs.NextNumberFacts.{may-see, load-met}
use Rattle.schedule_core.proofs.RespawnFacts.{null-next, met-in_step, behind-none}
use Rattle.schedule_core.proofs.respawning.retry.Goals as goal

pub is_open-open-requires : goal.is_open-open-requires
is_open-open-requires c = (c.requires.table, may-see c.args.shared.now.setup c.args.running (view c.args.pass.now) c.requires.may.in_step)

pub returns-then-not-open-clause-retried : goal.returns-then-not-open-clause-retried
returns-then-not-open-clause-retried c =
    let g = c.args.shared.now.setup in let x = c.args.running in let v = view c.args.pass.now in let may = c.requires.may in
    subst (λ r. Retries g x v r (view c.is_open-open.new.pass)) (sym c.refused.ensures)
    (met-in_step g x v (view c.is_open-open.new.pass) may.in_step (load-met g x.task c.args.pass.now c.is_open-open.new.pass c.if-not-open.ensures.drawn))

pub number_next-requires-clause-may : goal.number_next-requires-clause-may
number_next-requires-clause-may c =
    let g = c.args.shared.now.setup in let x = c.args.running in let v = view c.args.pass.now in let may = c.requires.may in
    record { base = v; in_step = may.in_step; next = null-next g.checked g.columns (body_of g.checked x.frame.items) may.asks; opened = c.if-not-open.ensures.drawn; has = tt }

pub stay-requires-clause-may : goal.stay-requires-clause-may
stay-requires-clause-may c =
    let g = c.args.shared.now.setup in let x = c.args.running in let v = view c.args.pass.now in let may = c.requires.may in
    let told = c.in-Some.ensures.number v may.in_step c.if-not-open.ensures.drawn in
    let number = subst (λ (b : Option Behind). HasNumber g x None c.in-Some.number b v (view c.number_next.new.pass)) (behind-none _ told.behind_is) told in
    record { base = v; may = may; has = number }

pub returns-in-None-clause-retried : goal.returns-in-None-clause-retried
returns-in-None-clause-retried c =
    let g = c.args.shared.now.setup in let x = c.args.running in let v = view c.args.pass.now in let may = c.requires.may in
    subst (λ r. Retries g x v r (view c.number_next.new.pass)) (sym c.refused-in-None.ensures)
    (met-in_step g x v (view c.number_next.new.pass) may.in_step (c.in-None.ensures.number v may.in_step c.if-not-open.ensures.drawn))

pub returns-in-Some-clause-retried : goal.returns-in-Some-clause-retried
returns-in-Some-clause-retried c =
    let g = c.args.shared.now.setup in let x = c.args.running in let v = view c.args.pass.now in let may = c.requires.may in
    let told = c.in-Some.ensures.number v may.in_step c.if-not-open.ensures.drawn in
    let number = subst (λ (b : Option Behind). HasNumber g x None c.in-Some.number b v (view c.number_next.new.pass)) (behind-none _ told.behind_is) told in
    c.stay.ensures.stays v may number
