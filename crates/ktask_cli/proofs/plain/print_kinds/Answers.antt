use Rattle.std.proofs.Common.{◌≡◌, Ok, Err, None, refl, inr}
use Rattle.run_report.specs.CheckLines.{check_lines}
use Rattle.run_report.specs.Lines.{text_of}
use Rattle.ktask_cli.specs.Ready.{valid_under}
use Rattle.ktask_cli.proofs.Offered.{offered}
use Rattle.ktask_cli.proofs.Plans.{judges, stops}
use Rattle.ktask_cli.proofs.plain.print_kinds.Goals as goal

pub returns-in-Ok : goal.returns-in-Ok
returns-in-Ok g c = record {
  reached = Ok (text_of (check_lines c.in-Ok.checked));
  follows = judges (valid_under c.args.name.now) (λ q result. result ≡ Ok (text_of (check_lines q))) _ _ _ _ c.in-Ok.ensures (inr refl);
  ended = record {
    no_run = refl;
    offered = offered g.E.Sink.seen _ _ (text_of (check_lines c.in-Ok.checked)) c.status_written.result 0 None _ _ c.write_check-written.result
        c.write_check-written.ensures.ok c.write_check-written.ensures.err c.write_check-written.ensures.cause c.status_written.ensures.whole c.status_written.ensures.fault;
  };
}

pub returns-in-Err : goal.returns-in-Err
returns-in-Err g c = record {
  reached = Err c.in-Err.stop;
  follows = stops (valid_under c.args.name.now) (λ q result. result ≡ Ok (text_of (check_lines q))) _ _ _ c.in-Err.ensures;
  ended = record { no_run = refl; out = refl; told = c.refuse.ensures };
}
