use Rattle.task_reader.proofs.ReadLaws.{program-answers, error-answers, program-never, error-tells}
use Rattle.task_reader.proofs.reading.read_program.Goals as goal

pub returns-in-Ok-clause-accepts : goal.returns-in-Ok-clause-accepts
returns-in-Ok-clause-accepts c = program-answers c.args.text.now c.in-Ok.program c.in-Ok.ensures

pub returns-in-Err-clause-accepts : goal.returns-in-Err-clause-accepts
returns-in-Err-clause-accepts c = λ p s. rw c.error_of.ensures (error-answers c.args.text.now c.in-Err.error c.in-Err.ensures p s)

pub returns-in-Ok-clause-refuses : goal.returns-in-Ok-clause-refuses
returns-in-Ok-clause-refuses c = λ fault first. program-never c.args.text.now c.in-Ok.program c.in-Ok.ensures fault first

pub returns-in-Err-clause-refuses : goal.returns-in-Err-clause-refuses
returns-in-Err-clause-refuses c = λ fault first. rw c.error_of.ensures (error-tells c.args.text.now c.in-Err.error c.in-Err.ensures fault first)
