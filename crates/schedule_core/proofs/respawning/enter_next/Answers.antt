use Rattle.std.proofs.Common.{◌∙◌, ℕ, Some, None, List, length, sym, ap, subst, arith}
use Rattle.std.specs.Prelude.{slice_index}
use Rattle.task_syntax.specs.declared.program.Program.{Program}
use Rattle.task_syntax.specs.declared.value.Priority.{Priority}
use Rattle.frame_code.specs.Frames.{IsFrame}
use Rattle.frame_code.specs.Moves.{MayEnter}
use Rattle.frame_code.specs.Units.{named_in, GivesUp, IsEnteredHeld}
use Rattle.frame_code.specs.Ways.{BodyHasWay}
use Rattle.frame_code.specs.Words.{body_at, body_of}
use Rattle.table_core.specs.declared.view.View.{View}
use Rattle.step_table.specs.Passes.{view}
use Rattle.schedule_core.specs.References.{MayDropEach, DropsEach}
use Rattle.schedule_core.specs.Respawning.{unit_next, priority_next, HasRespawned}
use Rattle.schedule_core.proofs.RespawnFacts.{parts-are, next-entered, may-enter, may-place, may-give, left-long, gone-on}
use Rattle.schedule_core.proofs.SpawnRequests.{entered-names}
use Rattle.schedule_core.proofs.respawning.enter_next.Goals as goal

pub enter_held-requires-clause-respawn : goal.enter_held-requires-clause-respawn
enter_held-requires-clause-respawn c =
    let g = c.args.shared.now.setup in let request = c.args.request.now in let items = c.args.running.frame.items in
    subst (λ (q : Program). MayEnter q request.target (body_of q items)) (sym c.requires.code) (may-enter g.checked g.columns request (body_of g.checked items) c.requires.may.may.asks)

pub place_again-entry-requires-clause-may : goal.place_again-entry-requires-clause-may
place_again-entry-requires-clause-may c =
    let g = c.args.shared.now.setup in let x = c.args.running in let p = g.checked in let items = x.frame.items in let n = c.args.number in let request = c.args.request.now in
    let wanted = unit_next (body_of p items) request.behind in let v = view c.args.pass.now in let next = c.enter_held.new.frame.items in let given = c.enter_held.new.given_up in
    let frame = subst (λ (q : Program). IsFrame q next) c.requires.code c.enter_held.ensures.frame in
    let moved = subst (λ (q : Program). IsEnteredHeld q request.target items next) c.requires.code c.enter_held.ensures.moved in
    let way = subst (λ (q : Program). BodyHasWay q (body_of q next)) c.requires.code c.enter_held.ensures.way in
    let parts = parts-are given (named_in p next) (named_in p items) (subst (λ (q : Program). GivesUp q items given next) c.requires.code c.enter_held.ensures.parts) in
    let in_step = c.requires.may.may.in_step in
    let is_next = next-entered p request.target (body_at p (slice_index in_step.run.words)) (body_of p items) (body_of p next) in_step.same moved way in
    let names = entered-names p c.args.code.now request.target (body_of p items) next c.requires.code c.program-program.ensures.formed c.program-program.ensures.valid (may-enter p g.columns request (body_of p items) c.requires.may.may.asks) moved c.requires.may.may.in_step.names in
    may-place g x wanted n c.args.behind c.requires.may.base v in_step c.requires.may.has next given frame is_next names parts

pub drop_units-requires-clause-may : goal.drop_units-requires-clause-may
drop_units-requires-clause-may c =
    let g = c.args.shared.now.setup in let x = c.args.running in let p = g.checked in let items = x.frame.items in let n = c.args.number in let request = c.args.request.now in
    let wanted = unit_next (body_of p items) request.behind in let v = view c.args.pass.now in let next = c.enter_held.new.frame.items in let given = c.enter_held.new.given_up in
    let frame = subst (λ (q : Program). IsFrame q next) c.requires.code c.enter_held.ensures.frame in
    let moved = subst (λ (q : Program). IsEnteredHeld q request.target items next) c.requires.code c.enter_held.ensures.moved in
    let way = subst (λ (q : Program). BodyHasWay q (body_of q next)) c.requires.code c.enter_held.ensures.way in
    let parts = parts-are given (named_in p next) (named_in p items) (subst (λ (q : Program). GivesUp q items given next) c.requires.code c.enter_held.ensures.parts) in
    let in_step = c.requires.may.may.in_step in
    let is_next = next-entered p request.target (body_at p (slice_index in_step.run.words)) (body_of p items) (body_of p next) in_step.same moved way in
    let names = entered-names p c.args.code.now request.target (body_of p items) next c.requires.code c.program-program.ensures.formed c.program-program.ensures.valid (may-enter p g.columns request (body_of p items) c.requires.may.may.asks) moved c.requires.may.may.in_step.names in
    let z = view c.place_again-entry.new.pass in
    subst (λ (us : List ℕ). MayDropEach g us z) (sym c.as_slice.ensures)
    (may-give g x wanted n c.args.behind c.requires.may.base v in_step c.requires.may.has next given frame is_next names parts c.priority_after-priority.result c.place_again-entry.result z c.place_again-entry.ensures.placed)

pub overflow_sub-held : goal.overflow_sub-held
overflow_sub-held c =
    let g = c.args.shared.now.setup in let x = c.args.running in let p = g.checked in let items = x.frame.items in let n = c.args.number in let request = c.args.request.now in
    let wanted = unit_next (body_of p items) request.behind in let v = view c.args.pass.now in let next = c.enter_held.new.frame.items in let given = c.enter_held.new.given_up in
    let frame = subst (λ (q : Program). IsFrame q next) c.requires.code c.enter_held.ensures.frame in
    let moved = subst (λ (q : Program). IsEnteredHeld q request.target items next) c.requires.code c.enter_held.ensures.moved in
    let way = subst (λ (q : Program). BodyHasWay q (body_of q next)) c.requires.code c.enter_held.ensures.way in
    let parts = parts-are given (named_in p next) (named_in p items) (subst (λ (q : Program). GivesUp q items given next) c.requires.code c.enter_held.ensures.parts) in
    let in_step = c.requires.may.may.in_step in
    let is_next = next-entered p request.target (body_at p (slice_index in_step.run.words)) (body_of p items) (body_of p next) in_step.same moved way in
    let names = entered-names p c.args.code.now request.target (body_of p items) next c.requires.code c.program-program.ensures.formed c.program-program.ensures.valid (may-enter p g.columns request (body_of p items) c.requires.may.may.asks) moved c.requires.may.may.in_step.names in
    let z = view c.place_again-entry.new.pass in let told = c.place_again-entry.result in let e = view c.drop_units.new.pass in
    let drops = subst (λ (us : List ℕ). DropsEach us z e) c.as_slice.ensures c.drop_units.ensures.dropped in
    let long = left-long g x wanted n c.args.behind c.requires.may.base v in_step c.requires.may.has next given frame is_next names parts c.priority_after-priority.result told z c.place_again-entry.ensures.placed e drops in
    let count = c.count_named-named.ensures ∙ ap length c.naming_words.ensures ∙ ap (λ (q : Program). length (named_in q items)) c.requires.code in
    omega (arith, long, count, c.args.pass.now.counts, c.held-held.ensures)

pub keep_count-requires : goal.keep_count-requires
keep_count-requires c =
    let g = c.args.shared.now.setup in let x = c.args.running in let p = g.checked in let items = x.frame.items in let n = c.args.number in let request = c.args.request.now in
    let wanted = unit_next (body_of p items) request.behind in let v = view c.args.pass.now in let next = c.enter_held.new.frame.items in let given = c.enter_held.new.given_up in
    let frame = subst (λ (q : Program). IsFrame q next) c.requires.code c.enter_held.ensures.frame in
    let moved = subst (λ (q : Program). IsEnteredHeld q request.target items next) c.requires.code c.enter_held.ensures.moved in
    let way = subst (λ (q : Program). BodyHasWay q (body_of q next)) c.requires.code c.enter_held.ensures.way in
    let parts = parts-are given (named_in p next) (named_in p items) (subst (λ (q : Program). GivesUp q items given next) c.requires.code c.enter_held.ensures.parts) in
    let in_step = c.requires.may.may.in_step in
    let is_next = next-entered p request.target (body_at p (slice_index in_step.run.words)) (body_of p items) (body_of p next) in_step.same moved way in
    let names = entered-names p c.args.code.now request.target (body_of p items) next c.requires.code c.program-program.ensures.formed c.program-program.ensures.valid (may-enter p g.columns request (body_of p items) c.requires.may.may.asks) moved c.requires.may.may.in_step.names in
    let z = view c.place_again-entry.new.pass in let told = c.place_again-entry.result in let e = view c.drop_units.new.pass in
    let drops = subst (λ (us : List ℕ). DropsEach us z e) c.as_slice.ensures c.drop_units.ensures.dropped in
    let long = left-long g x wanted n c.args.behind c.requires.may.base v in_step c.requires.may.has next given frame is_next names parts c.priority_after-priority.result told z c.place_again-entry.ensures.placed e drops in
    let count = c.count_named-named.ensures ∙ ap length c.naming_words.ensures ∙ ap (λ (q : Program). length (named_in q items)) c.requires.code in
    omega (arith, long, count, c.args.pass.now.counts, c.held-held.ensures)

pub returns-in-None-clause-entered : goal.returns-in-None-clause-entered
returns-in-None-clause-entered c = λ base may has.
    let g = c.args.shared.now.setup in let x = c.args.running in let p = g.checked in let items = x.frame.items in let n = c.args.number in let request = c.args.request.now in
    let wanted = unit_next (body_of p items) request.behind in let v = view c.args.pass.now in let next = c.enter_held.new.frame.items in let given = c.enter_held.new.given_up in
    let frame = subst (λ (q : Program). IsFrame q next) c.requires.code c.enter_held.ensures.frame in
    let moved = subst (λ (q : Program). IsEnteredHeld q request.target items next) c.requires.code c.enter_held.ensures.moved in
    let way = subst (λ (q : Program). BodyHasWay q (body_of q next)) c.requires.code c.enter_held.ensures.way in
    let parts = parts-are given (named_in p next) (named_in p items) (subst (λ (q : Program). GivesUp q items given next) c.requires.code c.enter_held.ensures.parts) in
    let is_next = next-entered p request.target (body_at p (slice_index may.in_step.run.words)) (body_of p items) (body_of p next) may.in_step.same moved way in
    let names = entered-names p c.args.code.now request.target (body_of p items) next c.requires.code c.program-program.ensures.formed c.program-program.ensures.valid (may-enter p g.columns request (body_of p items) may.asks) moved may.in_step.names in
    let z = view c.place_again-entry.new.pass in let told = c.place_again-entry.result in let e = view c.drop_units.new.pass in
    let drops = subst (λ (us : List ℕ). DropsEach us z e) c.as_slice.ensures c.drop_units.ensures.dropped in
    subst (λ (w : View). HasRespawned g x wanted (priority_next x request) (IsEnteredHeld p request.target items) base None w) (sym c.keep_count.ensures.view)
    (subst (λ (r : Priority). HasRespawned g x wanted r (IsEnteredHeld p request.target items) base None e) c.priority_after-priority.ensures
    (subst (λ o. HasRespawned g x wanted c.priority_after-priority.result (IsEnteredHeld p request.target items) base o e) c.in-None.is
    (gone-on g x wanted n c.args.behind base v may.in_step has next given frame is_next names parts c.priority_after-priority.result told z c.place_again-entry.ensures.placed e drops (IsEnteredHeld p request.target items) moved)))

pub returns-in-Some-clause-entered : goal.returns-in-Some-clause-entered
returns-in-Some-clause-entered c = λ base may has.
    let g = c.args.shared.now.setup in let x = c.args.running in let p = g.checked in let items = x.frame.items in let n = c.args.number in let request = c.args.request.now in
    let wanted = unit_next (body_of p items) request.behind in let v = view c.args.pass.now in let next = c.enter_held.new.frame.items in let given = c.enter_held.new.given_up in
    let frame = subst (λ (q : Program). IsFrame q next) c.requires.code c.enter_held.ensures.frame in
    let moved = subst (λ (q : Program). IsEnteredHeld q request.target items next) c.requires.code c.enter_held.ensures.moved in
    let way = subst (λ (q : Program). BodyHasWay q (body_of q next)) c.requires.code c.enter_held.ensures.way in
    let parts = parts-are given (named_in p next) (named_in p items) (subst (λ (q : Program). GivesUp q items given next) c.requires.code c.enter_held.ensures.parts) in
    let is_next = next-entered p request.target (body_at p (slice_index may.in_step.run.words)) (body_of p items) (body_of p next) may.in_step.same moved way in
    let names = entered-names p c.args.code.now request.target (body_of p items) next c.requires.code c.program-program.ensures.formed c.program-program.ensures.valid (may-enter p g.columns request (body_of p items) may.asks) moved may.in_step.names in
    let z = view c.place_again-entry.new.pass in let told = c.place_again-entry.result in let e = view c.drop_units.new.pass in
    let drops = subst (λ (us : List ℕ). DropsEach us z e) c.as_slice.ensures c.drop_units.ensures.dropped in
    subst (λ (w : View). HasRespawned g x wanted (priority_next x request) (IsEnteredHeld p request.target items) base (Some c.in-Some.entry) w) (sym c.keep_count.ensures.view)
    (subst (λ (r : Priority). HasRespawned g x wanted r (IsEnteredHeld p request.target items) base (Some c.in-Some.entry) e) c.priority_after-priority.ensures
    (subst (λ o. HasRespawned g x wanted c.priority_after-priority.result (IsEnteredHeld p request.target items) base o e) c.in-Some.is
    (gone-on g x wanted n c.args.behind base v may.in_step has next given frame is_next names parts c.priority_after-priority.result told z c.place_again-entry.ensures.placed e drops (IsEnteredHeld p request.target items) moved)))
