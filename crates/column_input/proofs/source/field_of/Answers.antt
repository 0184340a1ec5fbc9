use Rattle.column_input.proofs.Fields.{field-or}
use Rattle.column_input.proofs.source.field_of.Goals as goal

pub returns-in-Some : goal.returns-in-Some
returns-in-Some c = field-or _ c.args.place _ c.in-Some.ensures.value

pub returns-in-None : goal.returns-in-None
returns-in-None c = field-or _ c.args.place _ c.in-None.ensures.value
