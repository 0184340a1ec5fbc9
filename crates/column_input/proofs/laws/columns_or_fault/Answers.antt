use Rattle.column_input.proofs.TableLaws.{columns-exactly, fault-exactly, gives-either, told-first, told-table}
use Rattle.column_input.proofs.laws.columns_or_fault.Goals as goal

pub returns-clause-table : goal.returns-clause-table
returns-clause-table c records columns = (told-table records columns, columns-exactly records columns _ (gives-either records))

pub returns-clause-first : goal.returns-clause-first
returns-clause-first c records fault = (told-first records fault, fault-exactly records fault _ (gives-either records))
