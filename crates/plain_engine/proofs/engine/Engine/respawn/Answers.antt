use Rattle.std.proofs.Common.{ℕ, List, sym, ◌∙◌, ap, subst}
use Rattle.frame_code.specs.Units.{GivesUp}
use Rattle.frame_code.specs.declared.act.Act.TheVariants as act
use Rattle.record_core.specs.declared.rows.Cause.TheVariants as cause
use Rattle.record_core.specs.declared.rows.CutTag.TheVariants.{Limit}
use Rattle.run_model.specs.Step.{step}
use Rattle.plain_state.specs.declared.record.Outcome.TheVariants.{WasCut}
use Rattle.plain_state.specs.Engine.{EngineState}
use Rattle.plain_state.specs.Sees.{Rests}
use Rattle.plain_engine.specs.Ending.{EndsAt, MayGoOn, gone_on}
use Rattle.plain_engine.proofs.CarriedOut.{after_step, frame_asks, fits_asks}
use Rattle.plain_engine.proofs.Respawning.{respawn_behind, has_unit, may_renew, ends_at_limit, may_go_on, rests_after}
use Rattle.plain_engine.proofs.engine.Engine.respawn.Goals as goal

pub behind_next-behind-requires-clause-frame : goal.behind_next-behind-requires-clause-frame
behind_next-behind-requires-clause-frame c = frame_asks c.args.checked.now c.args.self.now c.args.unit c.args.frame.now.items
    (act.Again c.args.request) c.requires

pub behind_next-behind-requires-clause-next : goal.behind_next-behind-requires-clause-next
behind_next-behind-requires-clause-next c = fits_asks c.args.checked.now c.args.self.now c.args.unit c.args.frame.now.items
    (act.Again c.args.request) c.requires

pub behind_next-behind-requires-clause-known : goal.behind_next-behind-requires-clause-known
behind_next-behind-requires-clause-known c = respawn_behind c.args.checked.now c.args.self.now c.args.unit c.args.frame.now.items c.args.request
    c.requires

pub next_priority-priority-requires-clause-frame : goal.next_priority-priority-requires-clause-frame
next_priority-priority-requires-clause-frame c = frame_asks c.args.checked.now c.args.self.now c.args.unit c.args.frame.now.items
    (act.Again c.args.request) c.requires

pub next_priority-priority-requires-clause-unit : goal.next_priority-priority-requires-clause-unit
next_priority-priority-requires-clause-unit c = has_unit c.args.checked.now c.args.self.now c.args.unit c.args.frame.now.items c.args.request
    c.requires

pub renews-requires : goal.renews-requires
renews-requires c = may_renew c.args.checked.now c.args.self.now c.args.unit c.args.frame.now.items c.args.request c.behind_next-behind.result
    c.behind_next-behind.ensures c.requires

pub enter_held-requires-clause-frame : goal.enter_held-requires-clause-frame
enter_held-requires-clause-frame c = frame_asks c.args.checked.now c.args.self.now c.args.unit c.args.frame.now.items
    (act.Again c.args.request) c.requires

pub go_on-requires : goal.go_on-requires
go_on-requires c =
    subst (λ (e : EngineState). MayGoOn c.args.unit c.behind_next-behind.result c.as_slice.result.now c.enter_held.new.frame.items e.store)
    (sym c.if-renews.ensures.1)
    (may_go_on c.args.checked.now c.args.self.now c.args.unit c.args.frame.now.items c.args.request c.requires.moment c.requires.at
    c.behind_next-behind.result c.next_priority-priority.result c.enter_held.new.frame.items c.as_slice.result.now
    c.behind_next-behind.ensures c.next_priority-priority.ensures c.if-renews.ensures.0 c.enter_held.ensures.frame
    c.enter_held.ensures.moved
    (subst (λ (given_up : List ℕ). GivesUp c.args.checked.now c.args.frame.now.items given_up c.enter_held.new.frame.items)
    (sym c.as_slice.ensures) c.enter_held.ensures.parts))

pub refuse-requires-clause-frame : goal.refuse-requires-clause-frame
refuse-requires-clause-frame c = frame_asks c.args.checked.now c.args.self.now c.args.unit c.args.frame.now.items
    (act.Again c.args.request) c.requires

pub refuse-requires-clause-ends : goal.refuse-requires-clause-ends
refuse-requires-clause-ends c = (
  after_step c.args.checked.now c.requires.moment,
  subst (λ (e : EngineState). EndsAt c.args.checked.now e c.args.unit c.args.frame.now.items (WasCut Limit) cause.Limit
      (after_step c.args.checked.now c.requires.moment)) (sym c.if-renews.ensures.1)
      (ends_at_limit c.args.checked.now c.args.self.now c.args.unit c.args.frame.now.items c.args.request c.requires.moment c.requires.at
      c.if-renews.ensures.0),
)

pub returns-then-renews : goal.returns-then-renews
returns-then-renews c m at = (
  1,
  subst (λ (e : EngineState). Rests c.args.checked.now m.columns m.plan e (step c.args.checked.now m.columns m.plan.units m.run))
      (sym (c.go_on.ensures ∙ ap
      (gone_on c.args.unit c.behind_next-behind.result c.as_slice.result.now c.enter_held.new.frame.items) c.if-renews.ensures.1))
      (rests_after c.args.checked.now c.args.self.now c.args.unit c.args.frame.now.items c.args.request m at c.behind_next-behind.result
      c.next_priority-priority.result c.enter_held.new.frame.items c.as_slice.result.now
      c.behind_next-behind.ensures c.next_priority-priority.ensures c.if-renews.ensures.0 c.enter_held.ensures.frame
      c.enter_held.ensures.moved
      (subst (λ (given_up : List ℕ). GivesUp c.args.checked.now c.args.frame.now.items given_up c.enter_held.new.frame.items)
      (sym c.as_slice.ensures) c.enter_held.ensures.parts)),
)

pub returns-else-renews : goal.returns-else-renews
returns-else-renews c m at = (
  1,
  c.refuse.ensures (after_step c.args.checked.now m)
      (subst (λ (e : EngineState). EndsAt c.args.checked.now e c.args.unit c.args.frame.now.items (WasCut Limit) cause.Limit
      (after_step c.args.checked.now m)) (sym c.if-renews.ensures.1)
      (ends_at_limit c.args.checked.now c.args.self.now c.args.unit c.args.frame.now.items c.args.request m at c.if-renews.ensures.0)),
)
