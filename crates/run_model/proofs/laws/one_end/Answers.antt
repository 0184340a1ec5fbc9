use Rattle.std.proofs.Common.{sym, ◌∙◌, subst}
use Rattle.run_model.proofs.StandsStill.{IsQuiet, quiet_runs_meet}
use Rattle.run_model.specs.Step.{asked}
use Rattle.run_model.proofs.laws.one_end.Goals as goal

pub returns : goal.returns
returns c p columns plan one other first second =
    sym first.reached ∙ quiet_runs_meet p columns plan.units first.taken second.taken (asked p plan)
    (subst IsQuiet (sym first.reached) (record { idle = first.idle; empty = first.quiet }))
    (subst IsQuiet (sym second.reached) (record { idle = second.idle; empty = second.quiet })) ∙ second.reached
