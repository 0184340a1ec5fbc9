use Rattle.std.proofs.Common.{Some, subst}
use Rattle.task_check.specs.Faults.{IsFirst, HasFault}
use Rattle.task_check.proofs.Sound.{faultless-valid, valid-faultless}
use Rattle.task_check.proofs.program.check.Goals as goal

pub seal-requires-clause-valid : goal.seal-requires-clause-valid
seal-requires-clause-valid c = faultless-valid c.args.program c.requires (subst (IsFirst (HasFault c.args.program)) c.in-None.is c.in_ok-program_fault.ensures)

pub returns-in-Some-clause-first : goal.returns-in-Some-clause-first
returns-in-Some-clause-first c = (c.in-Some.field-0.position, subst (IsFirst (HasFault c.args.program)) c.in-Some.is c.in_ok-program_fault.ensures)

pub returns-in-Some-clause-refused : goal.returns-in-Some-clause-refused
returns-in-Some-clause-refused c =
    let first : IsFirst (HasFault c.args.program) (Some c.in-Some.field-0) = subst (IsFirst (HasFault c.args.program)) c.in-Some.is c.in_ok-program_fault.ensures in
    λ valid. valid-faultless c.args.program c.requires valid c.in-Some.field-0 first.0
