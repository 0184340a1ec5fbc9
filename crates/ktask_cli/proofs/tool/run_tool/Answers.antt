use Rattle.ktask_cli.proofs.Chosen.{does}
use Rattle.ktask_cli.proofs.Statuses.{status_has_cause}
use Rattle.ktask_cli.proofs.tool.run_tool.Goals as goal

pub returns-clause-whole : goal.returns-clause-whole
returns-clause-whole g c = does _ _ _ _ _ c.choose.ensures c.do_chosen.ensures

pub returns-clause-causes : goal.returns-clause-causes
returns-clause-causes g c = status_has_cause _ _ _ _ (does _ _ _ _ _ c.choose.ensures c.do_chosen.ensures)
