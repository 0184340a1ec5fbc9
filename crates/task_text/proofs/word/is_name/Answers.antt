use Rattle.task_text.proofs.Naming.{is_name-formed, is_name-unformed}
use Rattle.std.proofs.Common.{sym, ◌∙◌}
use Rattle.task_text.proofs.word.is_name.Goals as goal

pub returns-then-has_name_form-clause-value : goal.returns-then-has_name_form-clause-value
returns-then-has_name_form-clause-value c = is_name-formed c.args.word.now c.is_reserved.result (sym c.has_name_form.ensures.value ∙ c.if-has_name_form.true) c.is_reserved.ensures

pub returns-else-has_name_form-clause-value : goal.returns-else-has_name_form-clause-value
returns-else-has_name_form-clause-value c = is_name-unformed c.args.word.now (sym c.has_name_form.ensures.value ∙ c.if-has_name_form.false)
