use Rattle.run_report.specs.CanReport.{IsTold}
use Rattle.report_rows.specs.Given.{seen_of}
use Rattle.report_rows.proofs.MembersChecked.{EachBelow}
use Rattle.report_rows.proofs.reportable.are_told.Given as goal

abbrev pub invariant-roots : goal.invariant-roots
invariant-roots l = EachBelow l.at l.end.roots.now (IsTold l.checked (seen_of l.end))
