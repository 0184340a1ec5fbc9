use Rattle.std.proofs.Common.{◌≡◌, subst}
use Rattle.ktask_cli.specs.declared.stop.InputFile.TheVariants.{Program}
use Rattle.ktask_cli.specs.Plan.{content_of, OrWants}
use Rattle.ktask_cli.specs.Ready.{read_in}
use Rattle.ktask_cli.proofs.Plans.{judges, stops}
use Rattle.ktask_cli.proofs.program.fetch_program.Goals as goal

pub returns-in-Ok-clause-follows : goal.returns-in-Ok-clause-follows
returns-in-Ok-clause-follows g c = judges (content_of Program c.args.name.now) (λ text result. result ≡ read_in text) _ _ c.in-Ok.text.items c.read_text.result c.in-Ok.ensures.follows
    (subst (λ t. OrWants (λ r. r ≡ read_in t) c.read_text.result) c.deref.ensures.value c.read_text.ensures.read)

pub returns-in-Err-clause-follows : goal.returns-in-Err-clause-follows
returns-in-Err-clause-follows g c = stops (content_of Program c.args.name.now) (λ text result. result ≡ read_in text) _ _ c.in-Err.stop c.in-Err.ensures.follows
