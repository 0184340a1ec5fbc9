use Rattle.std.proofs.Common.{◌∙◌, ◌<◌, ◌^◌, ℕ, Option, sym, ap, subst}
use Rattle.std.specs.Prelude.{IfSome}
use Rattle.task_syntax.specs.Form.{IsWellFormed}
use Rattle.task_syntax.specs.declared.program.Program.{Program}
use Rattle.frame_code.specs.Words.{body_of}
use Rattle.table_core.specs.declared.view.View.{View}
use Rattle.step_table.specs.Passes.{view}
use Rattle.step_table.specs.RecordHands.{HasFuture}
use Rattle.schedule_core.specs.NextNumbers.{HasNumber, IsNextUnit}
use Rattle.schedule_core.specs.Respawning.{unit_next, IsBehindName, Respawns}
use Rattle.schedule_core.proofs.NextNumberFacts.{may-see, load-met}
use Rattle.schedule_core.proofs.RespawnFacts.{asks-next, has-wanted, small-wanted, opened-few, met-in_step}
use Rattle.schedule_core.proofs.SpawnRequests.{asks-name}
use Rattle.schedule_core.proofs.respawning.respawn.Goals as goal

pub is_open-open-requires : goal.is_open-open-requires
is_open-open-requires c = (c.requires.table, may-see c.args.shared.now.setup c.args.running (view c.args.pass.now) c.requires.may.in_step)

pub returns-then-not-open-clause-respawned : goal.returns-then-not-open-clause-respawned
returns-then-not-open-clause-respawned c =
    let g = c.args.shared.now.setup in let x = c.args.running in let items = x.frame.items in let request = c.args.request.now in let v = view c.args.pass.now in let may = c.requires.may in
    subst (λ r. Respawns g x request v r (view c.is_open-open.new.pass)) (sym c.refused.ensures)
    (met-in_step g x v (view c.is_open-open.new.pass) may.in_step (load-met g x.task c.args.pass.now c.is_open-open.new.pass c.if-not-open.ensures.drawn))

pub unit_of-unit-requires-clause-names : goal.unit_of-unit-requires-clause-names
unit_of-unit-requires-clause-names c =
    let g = c.args.shared.now.setup in let items = c.args.running.frame.items in let request = c.args.request.now in
    subst (λ (q : Program). IsBehindName q request.behind (body_of q items)) (sym c.requires.code)
    (asks-name g.checked g.columns request (body_of g.checked items) (subst IsWellFormed c.requires.code c.program-program.ensures.formed) c.requires.may.asks)

pub unit_of-unit-requires-clause-small : goal.unit_of-unit-requires-clause-small
unit_of-unit-requires-clause-small c =
    let g = c.args.shared.now.setup in let x = c.args.running in let items = x.frame.items in let request = c.args.request.now in let v = view c.args.pass.now in let may = c.requires.may in
    let w = view c.is_open-open.new.pass in let opened = c.if-not-open.ensures.drawn in
    let has = has-wanted g items request.behind w c.is_open-open.ensures.sound.after.records (opened-few g x v w may.in_step (ap (λ (z : View). z.futures) opened.2)) in
    subst (λ (q : Program). IfSome (unit_next (body_of q items) request.behind) (λ u. u < 2 ^ 32)) (sym c.requires.code) (small-wanted g.plan (unit_next (body_of g.checked items) request.behind) w has)

pub number_next-requires-clause-may : goal.number_next-requires-clause-may
number_next-requires-clause-may c =
    let g = c.args.shared.now.setup in let x = c.args.running in let items = x.frame.items in let request = c.args.request.now in let v = view c.args.pass.now in let may = c.requires.may in
    let w = view c.is_open-open.new.pass in let opened = c.if-not-open.ensures.drawn in
    let has = has-wanted g items request.behind w c.is_open-open.ensures.sound.after.records (opened-few g x v w may.in_step (ap (λ (z : View). z.futures) opened.2)) in
    let unit = c.unit_of-unit.ensures ∙ ap (λ (q : Program). unit_next (body_of q items) request.behind) c.requires.code in
    record {
      base = v;
      in_step = may.in_step;
      next = subst (λ (o : Option ℕ). IsNextUnit o (body_of g.checked items)) (sym unit) (asks-next g.checked g.columns request (body_of g.checked items) may.asks);
      opened = opened;
      has = subst (λ (o : Option ℕ). IfSome o (λ u. HasFuture g.plan u w)) (sym unit) has;
    }

pub enter_next-requires-clause-may : goal.enter_next-requires-clause-may
enter_next-requires-clause-may c =
    let g = c.args.shared.now.setup in let x = c.args.running in let items = x.frame.items in let request = c.args.request.now in let v = view c.args.pass.now in let may = c.requires.may in
    let w = view c.is_open-open.new.pass in let opened = c.if-not-open.ensures.drawn in
    let has = has-wanted g items request.behind w c.is_open-open.ensures.sound.after.records (opened-few g x v w may.in_step (ap (λ (z : View). z.futures) opened.2)) in
    let unit = c.unit_of-unit.ensures ∙ ap (λ (q : Program). unit_next (body_of q items) request.behind) c.requires.code in
    let number = subst (λ (o : Option ℕ). HasNumber g x o c.in-Some.number c.in-Some.behind v (view c.number_next.new.pass)) unit (c.in-Some.ensures.number v may.in_step opened) in
    record { base = v; may = may; has = number }

pub returns-in-None-clause-respawned : goal.returns-in-None-clause-respawned
returns-in-None-clause-respawned c =
    let g = c.args.shared.now.setup in let x = c.args.running in let items = x.frame.items in let request = c.args.request.now in let v = view c.args.pass.now in let may = c.requires.may in
    let opened = c.if-not-open.ensures.drawn in
    subst (λ r. Respawns g x request v r (view c.number_next.new.pass)) (sym c.refused-in-None.ensures)
    (met-in_step g x v (view c.number_next.new.pass) may.in_step (c.in-None.ensures.number v may.in_step opened))

pub returns-in-Some-clause-respawned : goal.returns-in-Some-clause-respawned
returns-in-Some-clause-respawned c =
    let g = c.args.shared.now.setup in let x = c.args.running in let items = x.frame.items in let request = c.args.request.now in let v = view c.args.pass.now in let may = c.requires.may in
    let w = view c.is_open-open.new.pass in let opened = c.if-not-open.ensures.drawn in
    let has = has-wanted g items request.behind w c.is_open-open.ensures.sound.after.records (opened-few g x v w may.in_step (ap (λ (z : View). z.futures) opened.2)) in
    let unit = c.unit_of-unit.ensures ∙ ap (λ (q : Program). unit_next (body_of q items) request.behind) c.requires.code in
    let number = subst (λ (o : Option ℕ). HasNumber g x o c.in-Some.number c.in-Some.behind v (view c.number_next.new.pass)) unit (c.in-Some.ensures.number v may.in_step opened) in
    c.enter_next.ensures.entered v may number
