use Rattle.std.proofs.Common.{◌∙◌, refl, ap}
use Rattle.frame_code.specs.Told.{act_told}
use Rattle.step_table.specs.Passes.{view}
use Rattle.step_table.specs.declared.shared.Shared.{Shared}
use Rattle.schedule_core.proofs.AdvancingTasks.{runs-on}
use Rattle.schedule_core.proofs.scheduler.Scheduler.advance.Goals as goal

pub returns : goal.returns
returns g c =
    let x = c.args.running.now in
    record {
      on = runs-on c.args.self.now.shared.setup x (record x { frame = c.advance.new.frame }) (view c.args._pass.now) c.args.code.now c.columns.result.now (act_told c.advance.result c.advance.new.requests) c.requires.code
          (c.columns.ensures ∙ ap (λ (s : Shared). s.setup.columns) c.shared.ensures) refl c.requires.in_step c.advance.ensures.frame c.advance.ensures.acts c.advance.ensures.meaning c.advance.ensures.names c.advance.ensures.way;
    }
