use Rattle.std.proofs.Common.{Some, Err, ap, subst}
use Rattle.task_reader.specs.declared.error.ReadError.{ReadError}
use Rattle.task_reader.specs.Read.{Answers}
use Rattle.sample_programs.proofs.spelled_by.Goals as goal

pub returns-in-Ok-clause-found : goal.returns-in-Ok-clause-found
returns-in-Ok-clause-found c p spelled = ap Some (c.in-Ok.ensures.accepts p spelled)

pub returns-in-Err-Fault-clause-found : goal.returns-in-Err-Fault-clause-found
returns-in-Err-Fault-clause-found c p spelled =
    absurd (subst (λ (e : ReadError). Answers p (Err e)) c.in-Err-Fault.field-0-is (c.in-Err-Fault.ensures.accepts p spelled))
