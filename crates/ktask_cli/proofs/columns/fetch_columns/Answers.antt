use Rattle.std.proofs.Common.{◌≡◌, Ok, ap, inr}
use Rattle.task_syntax.specs.Columns.{no_columns}
use Rattle.ktask_cli.proofs.Plans.{judge}
use Rattle.ktask_cli.proofs.columns.fetch_columns.Goals as goal

pub returns-in-None : goal.returns-in-None
returns-in-None g c = rw c.in-None.is (judge (λ result. result ≡ Ok no_columns) _ _ (inr (ap Ok c.none.ensures)))

pub returns-in-Some : goal.returns-in-Some
returns-in-Some g c = rw c.in-Some.is c.fetch_cells.ensures
