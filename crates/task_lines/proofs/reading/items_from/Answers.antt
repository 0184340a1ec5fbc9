use Rattle.task_lines.proofs.Vocabulary.{sym, ◌∙◌, arith, err_from_is_err_and}
use Rattle.task_lines.proofs.Items.{one_item, row_fails_or, rows_end, rows_stop, steps_counted, one_less}
use Rattle.task_lines.proofs.reading.items_from.Goals as goal

pub returns-in_err-next_item : goal.returns-in_err-next_item
returns-in_err-next_item c =
    let p = err_from_is_err_and c.from_residual.result c.from_residual.ensures.1 in
    rw (p.1, p.2, c.rows.invariant.read)
    (row_fails_or c.args.last c.rows.scope c.rows.rows c.in-Some.words c.rows.items _ c.in-Some.ensures.row c.in_err-next_item.ensures.what)

pub rows-preserved : goal.rows-preserved
rows-preserved c =
    let next = one_item c.args.last c.rows.scope c.next_item.new.scope c.rows.rows c.in-Some.words c.rows.items c.in_ok-next_item.field-0
    c.in-Some.ensures.row c.in_ok-next_item.ensures.what c.in_ok-next_item.ensures.line c.in_ok-next_item.ensures.scope in
    let less = one_less c.rows.rows c.in-Some.words c.in-Some.ensures.row in
    let count = steps_counted c.rows.scope c.in_ok-next_item.field-0.what in
    rw (c.in_ok-push.ensures.ok, c.next_row.ensures.rest) (record {
      read = c.rows.invariant.read ∙ next;
      steps = rw c.in_ok-next_item.ensures.scope (omega (arith, less, count, c.rows.invariant.steps));
    })

pub returns-in_err-must_be_closed : goal.returns-in_err-must_be_closed
returns-in_err-must_be_closed c =
    let p = err_from_is_err_and c.from_residual-in_err-must_be_closed.result c.from_residual-in_err-must_be_closed.ensures.1 in
    rw (p.1, p.2, c.rows.invariant.read, c.in_err-must_be_closed.ensures.1)
    (rows_stop c.args.last c.rows.scope c.rows.rows c.rows.items (sym c.in_default.ensures.row) c.in_err-must_be_closed.ensures.0)

pub returns : goal.returns
returns c =
    c.rows.invariant.read ∙ rows_end c.args.last c.rows.scope c.rows.rows c.rows.items (sym c.in_default.ensures.row) c.in_ok-must_be_closed.ensures
