use Rattle.std.proofs.lemmas.Result.{err_from_is_err_and}
use Rattle.csv.specs.Records.{fields_of}
use Rattle.column_input.specs.Reader.{ahead}
use Rattle.column_input.proofs.Tabling.{keeps-all, keeps-fault, keeps-more, keeps-none}
use Rattle.column_input.proofs.rows.read_rows.Goals as goal

pub rows-init : goal.rows-init
rows-init c = (c.requires.reading, keeps-none c.args.width c.in_ok-columns.columns.items (ahead c.args.reader.now) c.in_ok-columns.ensures)

pub rows-preserved : goal.rows-preserved
rows-preserved c =
    let next = rw c.if-branch.true at c.in_ok-next_record.ensures.records in (
      c.in_ok-next_record.ensures.reading c.if-branch.true,
      keeps-more c.args.width c.rows.row c.rows.columns.items c.add_row.new.columns.items (fields_of c.next_record.new.fields) (ahead c.rows.reader)
          (ahead c.next_record.new.reader) (ahead c.args.reader.now) next c.in_ok-add_row.ensures.checked c.in_ok-add_row.ensures.added c.rows.invariant.1,
    )

pub returns-in_err-add_row : goal.returns-in_err-add_row
returns-in_err-add_row c =
    let next = rw c.if-branch.true at c.in_ok-next_record.ensures.records in
    let p = err_from_is_err_and c.from_residual-in_err-add_row.result c.from_residual-in_err-add_row.ensures.1 in
    rw (p.1, p.2) (keeps-fault c.args.width c.rows.row c.rows.columns.items (fields_of c.next_record.new.fields) (ahead c.rows.reader)
    (ahead c.next_record.new.reader) (ahead c.args.reader.now) c.in_err-add_row.field-0.0 next c.in_err-add_row.ensures.checked c.rows.invariant.1)

pub returns : goal.returns
returns c =
    let next = rw c.if-branch.false at c.in_ok-next_record.ensures.records in
    keeps-all c.args.width c.rows.row c.from_vec.result (ahead c.rows.reader) (ahead c.args.reader.now) next (rw c.from_vec.ensures c.rows.invariant.1)
