use Rattle.std.proofs.Common.{◌++◌}
use Rattle.run_report.specs.Lines.{text_of}
use Rattle.run_report.specs.Report.{report_of}
use Rattle.ktask_cli.proofs.Offered.{written_offered}
use Rattle.ktask_cli.proofs.report.report.Goals as goal

pub returns : goal.returns
returns g c =
    let ran = c.args.ran.now in
    rw (← c.status_of_ends-due.ensures) (written_offered g.E.Sink.seen _ _ (c.args.front.now ++ text_of (report_of ran.checked ran.end c.args.trace))
    c.status_written.result c.status_of_ends-due.result _ _ c.write_both-written.result
    c.write_both-written.ensures c.status_written.ensures.whole c.status_written.ensures.fault)
