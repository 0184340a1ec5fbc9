use Rattle.task_reader.proofs.Vocabulary.{◌≡◌, ℕ, ◌+◌, ◌++◌, [], List, drop, arith, sym, ap, ◌∙◌, roots_from, root_at, root_name_at}
use Rattle.task_reader.proofs.GatherLemmas.{gather-turn, gather-end, roots-step, roots-none, roots-room}
use Rattle.task_reader.proofs.root.roots_of.Goals as goal

pub items-preserved : goal.items-preserved
items-preserved c =
    let items = c.args.items.now in
    let item = c.index-items-at.result in
    let at = c.items.at in
    let kinds = c.args.kinds.now in
    let none : List (List ℕ) = [] in
    let named : c.add_root_name.new.names ≡ c.items.earlier ++ root_name_at item = c.in_ok-add_root_name.ensures in
    let grows : c.add_root.new.to ≡ c.items.roots ++ root_at kinds c.items.earlier item =
    c.in_ok-add_root.ensures ∙ ap (λ e. c.items.roots ++ root_at kinds e item) c.as_slice.ensures in
    record {
      room = omega (arith, roots-room items at item c.items.earlier c.add_root_name.new.names (omega arith) c.index-items-at.is named, c.items.invariant.room);
      same = gather-turn items at item c.items.roots _ _ (roots_from kinds none items) (roots_from kinds c.items.earlier) (roots_from kinds c.add_root_name.new.names) (omega arith) c.index-items-at.is grows
          (roots-step kinds c.items.earlier item.line item.what (drop (at + 1) items) ∙ ap (λ e. root_at kinds c.items.earlier item ++ roots_from kinds e (drop (at + 1) items)) (sym named)) c.items.invariant.same;
    }

pub returns : goal.returns
returns c =
    let kinds = c.args.kinds.now in
    let none : List (List ℕ) = [] in
    gather-end c.args.items.now c.items.at c.items.roots (roots_from kinds none c.args.items.now) (roots_from kinds c.items.earlier) (omega arith) (roots-none kinds c.items.earlier) c.items.invariant.same
