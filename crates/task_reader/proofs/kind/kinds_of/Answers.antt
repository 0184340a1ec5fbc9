use Rattle.task_reader.proofs.Vocabulary.{◌≡◌, ◌+◌, ◌++◌, drop, arith, ap, ◌∙◌, kinds_from, kind_at}
use Rattle.task_reader.proofs.WalkLemmas.{short-turn}
use Rattle.task_reader.proofs.GatherLemmas.{gather-turn, gather-end, kinds-step, kinds-none}
use Rattle.task_reader.proofs.kind.kinds_of.Goals as goal

pub items-preserved : goal.items-preserved
items-preserved c =
    let items = c.args.items.now in
    let item = c.index-items-at.result in
    let kinds = c.args.kinds.now in
    let turn = short-turn items c.items.at item (omega arith) c.index-items-at.is c.items.invariant.short in
    let grows : c.add_kind.new.to ≡ c.items.read ++ kind_at kinds item (drop (c.items.at + 1) items) =
    c.in_ok-add_kind.ensures ∙ ap (λ r. c.items.read ++ kind_at kinds item r) c.split_at.ensures.back in
    record {
      short = turn.1;
      same = gather-turn items c.items.at item c.items.read _ _ (kinds_from kinds items) (kinds_from kinds) (kinds_from kinds) (omega arith) c.index-items-at.is grows (kinds-step kinds item.line item.what (drop (c.items.at + 1) items)) c.items.invariant.same;
    }

pub returns : goal.returns
returns c =
    let kinds = c.args.kinds.now in
    gather-end c.args.items.now c.items.at c.items.read (kinds_from kinds c.args.items.now) (kinds_from kinds) (omega arith) (kinds-none kinds) c.items.invariant.same
