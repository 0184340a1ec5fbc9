use Rattle.std.proofs.Common.{◌≡◌, ◌∙◌, ap, arith}
use Rattle.frame_code.specs.Words.{number_count}
use Rattle.frame_code.specs.Code.{LayoutOf}
use Rattle.frame_code.proofs.Variables.{count-most}
use Rattle.frame_code.proofs.places.KindVariables.numbers.Goals as goal

pub returns-clause-few : goal.returns-clause-few
returns-clause-few c =
    let is : c.numbers.result ≡ number_count c.args.self.now
    = c.numbers.ensures ∙ (ap (λ (l : LayoutOf). l.numbers) c.self.invariant ∙ ap number_count c.self.view_is) in
    omega (arith, is, count-most c.args.self.now)
