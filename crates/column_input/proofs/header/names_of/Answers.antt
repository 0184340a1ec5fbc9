use Rattle.std.proofs.Common.{arith, rules}
use Rattle.csv.specs.Records.{fields_of}
use Rattle.column_input.proofs.Naming.{names-again, names-end, names-more}
use Rattle.column_input.proofs.header.names_of.Goals as goal

pub returns-then-is_among : goal.returns-then-is_among
returns-then-is_among c = names-again c.names.names (fields_of c.args.header.now) c.names.place (omega arith) (search rules) (search rules) c.names.invariant.1

pub names-preserved : goal.names-preserved
names-preserved c = names-more c.names.names c.push.new.self (fields_of c.args.header.now) c.names.place _ (omega arith) (search rules) (search rules) c.names.invariant

pub returns : goal.returns
returns c = names-end c.names.names (fields_of c.args.header.now) c.names.place (omega arith) (search rules) c.names.invariant
