use Rattle.column_input.proofs.Ahead.{each-record}
use Rattle.column_input.proofs.laws.each_record_is_read.Goals as goal

pub returns : goal.returns
returns c = each-record
