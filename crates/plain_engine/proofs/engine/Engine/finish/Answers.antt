use Rattle.std.proofs.Common.{sym, subst}
use Rattle.plain_state.specs.Sees.{Rests}
use Rattle.plain_engine.proofs.Finishing.{may_finish, then_rests}
use Rattle.plain_engine.proofs.engine.Engine.finish.Goals as goal

-- src/finish.rt:66:9
pub end_task-requires-clause-may : goal.end_task-requires-clause-may
end_task-requires-clause-may c =
    let (m, ends) = c.requires.ends in
    may_finish c.args.checked.now m.columns m.plan c.args.self.now c.args.unit c.args.frame.now.items c.args.outcome c.args.cause m.run ends

-- src/finish.rt:54:5
pub returns : goal.returns
returns c m ends = subst (λ e. Rests c.args.checked.now m.columns m.plan e m.run) (sym c.end_task.ensures)
    (then_rests c.args.checked.now m.columns m.plan c.args.self.now c.args.unit c.args.frame.now.items c.args.outcome c.args.cause m.run ends)
