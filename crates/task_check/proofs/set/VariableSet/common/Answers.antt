use Rattle.std.proofs.Common.{◌≡◌, length, rules, arith}
use Rattle.task_check.proofs.Masks.{in_words-and}
use Rattle.task_check.proofs.set.VariableSet.common.Goals as goal

pub returns : goal.returns
returns c =
    let one : length c.args.self.words ≡ 4 = search rules in
    let other : length c.args.other.words ≡ 4 = search rules in
    in_words-and c.args.self.words c.args.other.words c.words.words one other c.words.invariant.long
    (λ k h. c.words.invariant.done k (omega arith))
