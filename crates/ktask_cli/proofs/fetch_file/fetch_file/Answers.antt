use Rattle.std.proofs.Common.{rules, Ok, Err}
use Rattle.tool_io.specs.declared.fetch_error.FetchError.TheVariants.{Failed, TooLong, Memory}
use Rattle.ktask_cli.proofs.Plans.{content_fetched}
use Rattle.ktask_cli.proofs.fetch_file.fetch_file.Goals as goal

pub returns-in-Ok-clause-follows : goal.returns-in-Ok-clause-follows
returns-in-Ok-clause-follows g c = content_fetched _ _ _ _ (Ok c.fetch.new.into.items) (search rules)

pub returns-in-Err-Failed-clause-follows : goal.returns-in-Err-Failed-clause-follows
returns-in-Err-Failed-clause-follows g c = content_fetched _ _ _ _ (Err Failed) (search rules)

pub returns-in-Err-TooLong-clause-follows : goal.returns-in-Err-TooLong-clause-follows
returns-in-Err-TooLong-clause-follows g c = content_fetched _ _ _ _ (Err TooLong) (search rules)

pub returns-clause-follows : goal.returns-clause-follows
returns-clause-follows g c = content_fetched _ _ _ _ (Err Memory) (search rules)
