use Rattle.task_reader.proofs.Vocabulary.{◌≡◌, ◌+◌, ◌++◌, drop, arith, sym, ap, ◌∙◌, states_from, state_at}
use Rattle.task_reader.proofs.WalkLemmas.{short-turn}
use Rattle.task_reader.proofs.GatherLemmas.{gather-turn, gather-stop, gather-end, states-step, states-stop, states-none}
use Rattle.task_reader.proofs.state.states_of.Goals as goal

pub returns-then-not-is_inside : goal.returns-then-not-is_inside
returns-then-not-is_inside c =
    let items = c.args.items.now in
    let item = c.index-items-at.result in
    let p = c.args.p.now in
    gather-stop items c.items.at item c.items.states (states_from p items) (states_from p) (omega arith) c.index-items-at.is
    (states-stop p item.line item.what (drop (c.items.at + 1) items) (sym c.is_inside.ensures ∙ c.if-not-is_inside.true)) c.items.invariant.same

pub items-preserved : goal.items-preserved
items-preserved c =
    let items = c.args.items.now in
    let item = c.index-items-at.result in
    let p = c.args.p.now in
    let turn = short-turn items c.items.at item (omega arith) c.index-items-at.is c.items.invariant.short in
    let grows : c.add_state.new.states ≡ c.items.states ++ state_at p item (drop (c.items.at + 1) items) =
    c.in_ok-add_state.ensures ∙ ap (λ r. c.items.states ++ state_at p item r) c.split_at.ensures.back in
    record {
      short = turn.1;
      same = gather-turn items c.items.at item c.items.states _ _ (states_from p items) (states_from p) (states_from p) (omega arith) c.index-items-at.is grows (states-step p item.line item.what (drop (c.items.at + 1) items) (sym c.is_inside.ensures ∙ c.if-not-is_inside.false)) c.items.invariant.same;
    }

pub returns : goal.returns
returns c =
    let p = c.args.p.now in
    gather-end c.args.items.now c.items.at c.items.states (states_from p c.args.items.now) (states_from p) (omega arith) (states-none p) c.items.invariant.same
