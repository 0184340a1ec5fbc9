use Rattle.std.proofs.Common.{sym, ◌∙◌}
use Rattle.plain_state.specs.Laws.{skips}
use Rattle.plain_engine.proofs.engine.Engine.root_state.Goals as goal

pub returns-in-Some : goal.returns-in-Some
returns-in-Some c plan = skips c.in-Some.earlier c.in-Some.tag (sym c.first_taskless.ensures ∙ c.in-Some.is)
