use Rattle.task_reader.proofs.Vocabulary.{◌≡◌, ◌++◌, ◌∷◌, [], drop, ◌+◌, arith, ◌∙◌, ap, Instr, Line, steps_to, instr_of, code_from}
use Rattle.task_reader.proofs.GatherLemmas.{gather-turn, gather-stop, gather-end, code-step, code-stop, code-none, room-turn}
use Rattle.task_reader.proofs.state.code_of.Goals as goal

pub returns-in_default : goal.returns-in_default
returns-in_default c =
    let items = c.args.items.now in
    let item = c.index-items-at.result in
    let p = c.args.p.now in
    gather-stop items c.lines.at item c.lines.code (code_from p 0 items) (code_from p c.lines.at) (omega arith) c.index-items-at.is
    (code-stop p c.lines.at item.line item.what (drop (c.lines.at + 1) items) (λ step e. c.in_default.not-Step step e)) c.lines.invariant.same

pub lines-preserved : goal.lines-preserved
lines-preserved c =
    let items = c.args.items.now in
    let item = c.index-items-at.result in
    let p = c.args.p.now in
    let at = c.lines.at in
    let line_of : Instr → Line = λ i. record { line = item.line; instr = i } in
    let instr_is : c.in_ok-instr.instr ≡ instr_of p (λ name. at + 1 + steps_to name (drop (at + 1) items)) c.in-Step.step =
    c.in_ok-instr.ensures ∙ ap (λ r. instr_of p (λ name. at + 1 + steps_to name r) c.in-Step.step) c.split_at.ensures.back in
    let grows : c.push.new.self ≡ c.lines.code ++ line_of (instr_of p (λ name. at + 1 + steps_to name (drop (at + 1) items)) c.in-Step.step) ∷ [] =
    c.in_ok-push.ensures.ok ∙ ap (λ i. c.lines.code ++ line_of i ∷ []) instr_is in
    record {
      room = omega (arith, room-turn items c.lines.at item c.in-Step.step (omega arith) c.index-items-at.is c.in-Step.is, c.lines.invariant.room);
      same = gather-turn items at item c.lines.code _ _ (code_from p 0 items) (code_from p at) (code_from p (at + 1)) (omega arith) c.index-items-at.is grows (code-step p at item c.in-Step.step (drop (at + 1) items) c.in-Step.is) c.lines.invariant.same;
    }

pub returns : goal.returns
returns c =
    let p = c.args.p.now in
    gather-end c.args.items.now c.lines.at c.lines.code (code_from p 0 c.args.items.now) (code_from p c.lines.at) (omega arith) (code-none p c.lines.at) c.lines.invariant.same
