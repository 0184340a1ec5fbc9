use Rattle.std.proofs.Common.{◌≡◌, subst}
use Rattle.ktask_cli.specs.declared.stop.InputFile.TheVariants.{Columns}
use Rattle.ktask_cli.specs.Plan.{content_of, OrWants}
use Rattle.ktask_cli.specs.Ready.{columns_read}
use Rattle.ktask_cli.proofs.Plans.{judges, stops}
use Rattle.ktask_cli.proofs.columns.fetch_cells.Goals as goal

pub returns-in-Ok : goal.returns-in-Ok
returns-in-Ok g c = judges (content_of Columns c.args.name.now) (λ text result. result ≡ columns_read text) _ _ c.in-Ok.text.items c.read_cells.result c.in-Ok.ensures.follows
    (subst (λ t. OrWants (λ r. r ≡ columns_read t) c.read_cells.result) c.deref.ensures.value c.read_cells.ensures)

pub returns-in-Err : goal.returns-in-Err
returns-in-Err g c = stops (content_of Columns c.args.name.now) (λ text result. result ≡ columns_read text) _ _ c.in-Err.stop c.in-Err.ensures.follows
