use Rattle.std.proofs.Common.{rules, sym, ◌∙◌}
use Rattle.report_rows.proofs.CutsChecked.{leads_here, leads_on}
use Rattle.report_rows.proofs.leads.+leads.Goals as goal

pub returns-then-is_refusal : goal.returns-then-is_refusal
returns-then-is_refusal t c = λ _. leads_here c.args.tasks.now c.args.tag c.args.task c.cause_of-cause.result c.cause_of-cause.ensures (c.is_refusal.ensures (search rules))

pub returns : goal.returns
returns t c = λ h. leads_on c.args.tasks.now c.args.tag c.args.task c.in-By.other (sym c.cause_of-cause.ensures ∙ c.in-By.is) (c.finishes_before.ensures (search rules)) (c.leads.ensures h)
