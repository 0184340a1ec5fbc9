use Rattle.column_input.specs.Records.{records_of}
use Rattle.column_input.proofs.Answered.{first-given, gives-first, gives-table, table-given}
use Rattle.column_input.proofs.reading.read_columns.Goals as goal

pub returns-clause-tabulates : goal.returns-clause-tabulates
returns-clause-tabulates c = gives-table (records_of c.args.bytes.now) c.columns_ahead.result (rw c.open.ensures.records at c.columns_ahead.ensures)

pub returns-clause-accepts : goal.returns-clause-accepts
returns-clause-accepts c columns t =
    table-given (records_of c.args.bytes.now) columns c.columns_ahead.result t (rw c.open.ensures.records at c.columns_ahead.ensures)

pub returns-clause-first : goal.returns-clause-first
returns-clause-first c = gives-first (records_of c.args.bytes.now) c.columns_ahead.result (rw c.open.ensures.records at c.columns_ahead.ensures)

pub returns-clause-refuses : goal.returns-clause-refuses
returns-clause-refuses c fault f =
    first-given (records_of c.args.bytes.now) fault c.columns_ahead.result f (rw c.open.ensures.records at c.columns_ahead.ensures)
