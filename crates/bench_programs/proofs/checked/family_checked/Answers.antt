use Rattle.std.proofs.Common.{◌≡◌, sym, subst}
use Rattle.task_syntax.specs.Form.{IsWellFormed}
use Rattle.task_syntax.specs.Valid.{IsValid}
use Rattle.task_check.specs.Faults.{Refuses}
use Rattle.bench_programs.specs.Programs.{family_program}
use Rattle.bench_programs.proofs.WellFormed.{family-formed}
use Rattle.bench_programs.proofs.Valid.{family-valid}
use Rattle.bench_programs.proofs.checked.family_checked.Goals as goal

pub check-requires : goal.check-requires
check-requires c = let same : c.in_ok-program.program ≡ family_program c.args.family c.args.number = c.in_ok-program.ensures in
    subst IsWellFormed (sym same) (family-formed c.args.family c.args.number c.ranges.number.fits)

-- a fault would say that the program is not valid
pub unreachable-requires : goal.unreachable-requires
unreachable-requires c = let same : c.in_ok-program.program ≡ family_program c.args.family c.args.number = c.in_ok-program.ensures in
    let refused = subst (Refuses c.in_ok-program.program) c.in-Err-Fault.field-0-is c.in-Err-Fault.ensures.refused in
    refused (subst IsValid (sym same) (family-valid c.args.family c.args.number))
