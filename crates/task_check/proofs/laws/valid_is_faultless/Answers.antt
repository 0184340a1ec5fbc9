use Rattle.task_check.proofs.Sound.{valid-faultless, faultless-valid}
use Rattle.task_check.proofs.laws.valid_is_faultless.Goals as goal

pub returns : goal.returns
returns c = λ p formed. (λ valid. valid-faultless p formed valid, λ none. faultless-valid p formed none)
