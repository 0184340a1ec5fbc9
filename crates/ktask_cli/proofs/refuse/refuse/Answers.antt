use Rattle.std.proofs.Common.{rules, append_assoc, ◌∙◌, ap, refl}
use Rattle.ktask_cli.specs.Stop.{status_of}
use Rattle.ktask_cli.proofs.Told.{made_told, told}
use Rattle.ktask_cli.proofs.refuse.refuse.Goals as goal

pub returns-in-CannotRead : goal.returns-in-CannotRead
returns-in-CannotRead g c = rw c.in-CannotRead.is (made_told c.format-line.result _ _ _ c.status-status.result _ _ (c.status-status.ensures ∙ ap status_of c.in-CannotRead.is) (search rules) c.tell_made.ensures.made c.tell_made.ensures.unmade)

pub returns-in-TooLong : goal.returns-in-TooLong
returns-in-TooLong g c = rw c.in-TooLong.is (made_told c.format-line-in-TooLong.result _ _ _ c.status-status.result _ _ (c.status-status.ensures ∙ ap status_of c.in-TooLong.is) (simp append_assoc (search rules)) c.tell_made-in-TooLong.ensures.made c.tell_made-in-TooLong.ensures.unmade)

pub returns-in-ProgramFault : goal.returns-in-ProgramFault
returns-in-ProgramFault g c = rw c.in-ProgramFault.is (told _ _ _ _ _ _ _ (c.status-status.ensures ∙ ap status_of c.in-ProgramFault.is) (c.as_bytes.ensures ∙ c.fault_line.ensures) c.tell.ensures.status c.tell.ensures.line)

pub returns-in-CheckFault : goal.returns-in-CheckFault
returns-in-CheckFault g c = rw c.in-CheckFault.is (told _ _ _ _ _ _ _ (c.status-status.ensures ∙ ap status_of c.in-CheckFault.is) (c.as_bytes-in-CheckFault.ensures ∙ c.check_line.ensures) c.tell-in-CheckFault.ensures.status c.tell-in-CheckFault.ensures.line)

pub returns-in-WordsRefused : goal.returns-in-WordsRefused
returns-in-WordsRefused g c = rw c.in-WordsRefused.is (told _ _ _ _ _ _ _ (c.status-status.ensures ∙ ap status_of c.in-WordsRefused.is) refl c.tell-in-WordsRefused.ensures.status c.tell-in-WordsRefused.ensures.line)

pub returns-in-ColumnsFault : goal.returns-in-ColumnsFault
returns-in-ColumnsFault g c = rw c.in-ColumnsFault.is (told _ _ _ _ _ _ _ (c.status-status.ensures ∙ ap status_of c.in-ColumnsFault.is) (c.as_bytes-in-ColumnsFault.ensures ∙ c.columns_line.ensures) c.tell-in-ColumnsFault.ensures.status c.tell-in-ColumnsFault.ensures.line)
