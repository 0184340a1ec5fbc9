use Rattle.std.proofs.Common.{◌≡◌, ◌+◌, take, arith}
use Rattle.frame_code.specs.Words.{number_count, future_count}
use Rattle.frame_code.proofs.Variables.{count-most, counts-before}
use Rattle.frame_code.proofs.places.KindVariables.future_place.Goals as goal

pub overflow_add-result : goal.overflow_add-result
overflow_add-result c = omega (arith, c.numbers.ensures.count, count-most c.args.self.now, c.requires.few)

pub overflow_sub-result : goal.overflow_sub-result
overflow_sub-result c =
    let h : number_count (take c.args.x c.args.self.now) + future_count (take c.args.x c.args.self.now) ≡ c.args.x
    = counts-before c.args.self.now c.args.x (omega (arith, c.requires.within)) in omega (arith, c.number_place-numbers_before.ensures)

pub overflow_add-result-2 : goal.overflow_add-result-2
overflow_add-result-2 c = omega (arith, c.numbers.ensures.count, count-most c.args.self.now, c.requires.few, c.requires.within)

pub returns : goal.returns
returns c =
    let h : number_count (take c.args.x c.args.self.now) + future_count (take c.args.x c.args.self.now) ≡ c.args.x
    = counts-before c.args.self.now c.args.x (omega (arith, c.requires.within)) in
    omega (arith, c.numbers.ensures.count, c.number_place-numbers_before.ensures)
