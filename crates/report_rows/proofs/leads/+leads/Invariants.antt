use Rattle.report_rows.proofs.leads.+leads.Given as goal

abbrev pub decreases-leads : goal.decreases-leads
decreases-leads l = l.most
