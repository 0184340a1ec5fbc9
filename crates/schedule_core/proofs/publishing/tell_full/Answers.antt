use Rattle.step_table.specs.Passes.{view}
use Rattle.schedule_core.proofs.TellingFull.{same-self, same-then, sees-self, sees-spill, tells-full}
use Rattle.schedule_core.proofs.publishing.tell_full.Goals as goal

pub loop-init : goal.loop-init
loop-init g c = (tt, tt, same-self c.args.pass.now, sees-self (view c.args.pass.now))

pub returns-then-told-ne0-clause-told : goal.returns-then-told-ne0-clause-told
returns-then-told-ne0-clause-told g c =
    tells-full (view c.args.pass.now) (view c.loop.pass) (view c.see_spill-told.new.pass) c.see_spill-told.result c.loop.invariant.3 c.see_spill-told.ensures.spill c.if-told-ne0.true

pub loop-preserved : goal.loop-preserved
loop-preserved g c = (
  tt,
  tt,
  same-then c.args.pass.now c.see_spill-told.new.pass c.spill.new.pass (same-then c.args.pass.now c.loop.pass c.see_spill-told.new.pass c.loop.invariant.2 c.see_spill-told.ensures.pass) c.spill.ensures.pass,
  sees-spill (view c.args.pass.now) (view c.see_spill-told.new.pass) (view c.spill.new.pass) c.spill.ensures.spill.found
      (sees-spill (view c.args.pass.now) (view c.loop.pass) (view c.see_spill-told.new.pass) c.see_spill-told.result c.loop.invariant.3 c.see_spill-told.ensures.spill) c.spill.ensures.spill.view_is,
)
