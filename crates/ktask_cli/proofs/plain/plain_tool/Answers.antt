use Rattle.ktask_cli.proofs.Chosen.{does, plain_gives}
use Rattle.ktask_cli.proofs.Statuses.{status_has_cause}
use Rattle.ktask_cli.proofs.plain.plain_tool.Goals as goal

pub returns-clause-whole : goal.returns-clause-whole
returns-clause-whole g c = does _ _ _ _ _ (plain_gives _ _ c.choose.ensures) c.do_plain.ensures

pub returns-clause-causes : goal.returns-clause-causes
returns-clause-causes g c = status_has_cause _ _ _ _ (does _ _ _ _ _ (plain_gives _ _ c.choose.ensures) c.do_plain.ensures)
