use Rattle.task_meaning.proofs.Grows.{Stays-at, AllStay-at}
use Rattle.task_meaning.proofs.Worths.{later-worths, worths-stay}
use Rattle.task_meaning.proofs.worth_laws.worths_stay.Goals as goal

pub returns-clause-later : goal.returns-clause-later
returns-clause-later c = later-worths

pub returns-clause-fuel : goal.returns-clause-fuel
returns-clause-fuel c p d n m accepted t v e = Stays-at _ _ (AllStay-at _ _ t (worths-stay p d n m e accepted)) v
