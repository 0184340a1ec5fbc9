use Rattle.task_lines.proofs.Items.{steps_counted}
use Rattle.task_reader.proofs.Vocabulary.{◌≡◌, sym, ◌∙◌, arith, err_from_is_err_and, after}
use Rattle.task_reader.proofs.WalkLemmas.{short-turn, names-fault-or, names-next, names-done}
use Rattle.task_reader.proofs.names.names_known.Goals as goal

pub returns-in_err-item_known : goal.returns-in_err-item_known
returns-in_err-item_known c =
    let p = err_from_is_err_and c.from_residual.result c.from_residual.ensures.1 in
    rw (p.1, p.2, ← c.items.invariant.same) (names-fault-or c.args.items.now c.args.items.now c.args.kinds.now c.items.scope c.items.at c.index-items-at.result _ c.requires.names (omega arith) c.index-items-at.is (rw (← c.split_at.ensures.back) c.in_err-item_known.ensures.known))

pub items-preserved : goal.items-preserved
items-preserved c =
    let items = c.args.items.now in
    let item = c.index-items-at.result in
    let passed : c.item_known.new.scope ≡ after c.items.scope item.what = c.in_ok-item_known.ensures.scope in
    let turn = short-turn items c.items.at item (omega arith) c.index-items-at.is c.items.invariant.short in
    record {
      short = turn.1;
      steps = rw passed (omega (arith, steps_counted c.items.scope item.what));
      same = rw passed (sym (names-next items items c.args.kinds.now c.items.scope c.items.at item _ c.requires.names (omega arith) c.index-items-at.is (rw (← c.split_at.ensures.back) c.in_ok-item_known.ensures.known)) ∙ c.items.invariant.same);
    }

pub returns : goal.returns
returns c = sym c.items.invariant.same ∙ names-done c.args.items.now c.args.items.now c.items.scope c.items.at (omega arith)
