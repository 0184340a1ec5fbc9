use Rattle.std.proofs.Common.{◌≡◌, length, rules}
use Rattle.task_check.proofs.Masks.{in_words-with}
use Rattle.task_check.proofs.set.VariableSet.with.Goals as goal

pub returns : goal.returns
returns c =
    let long : length c.args.self.words ≡ 4 = search rules in
    in_words-with c.args.self.words c.args.position long c.requires
