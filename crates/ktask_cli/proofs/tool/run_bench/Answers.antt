use Rattle.std.proofs.Common.{◌≡◌, ◌∙◌, ◌++◌, ℕ, false, List, inl, Some, refl, subst}
use Rattle.bench_programs.specs.Programs.{family_program}
use Rattle.record_core.specs.EndSeen.{EndSeen}
use Rattle.task_syntax.specs.declared.program.Program.{Program}
use Rattle.run_report.specs.Lines.{text_of}
use Rattle.run_report.specs.Report.{report_of}
use Rattle.tool_words.specs.declared.choice.BenchWords.{BenchWords}
use Rattle.ktask_cli.specs.Order.{bench_line, bench_order, order_text}
use Rattle.ktask_cli.specs.RunStatus.{status_of_ends}
use Rattle.ktask_cli.specs.Outcome.{Answer, Writes}
use Rattle.ktask_cli.proofs.Offered.{writes_as}
use Rattle.ktask_cli.proofs.RunEnded.{can_be_reported}
use Rattle.ktask_cli.proofs.tool.run_bench.Goals as goal

pub report-requires : goal.report-requires
report-requires g c =
    rw c.in-Ok.ensures.made (can_be_reported (bench_order c.args.bench.now) c.in-Ok.ran.end c.in-Ok.ensures.run)

-- the line that was offered is that of the order, and so is the program
offered_as : (bench : BenchWords) (front : List ℕ) (p : Program) (e : EndSeen) (a : Answer) → front ≡ bench_line bench → p ≡ family_program bench.family bench.number
    → Writes (front ++ text_of (report_of p e false)) (status_of_ends e.roots) a → Writes (order_text (bench_order bench) e) (status_of_ends e.roots) a
offered_as bench front p e a same made w =
    subst (λ q. Writes (bench_line bench ++ text_of (report_of q e false)) (status_of_ends e.roots) a) made
    (subst (λ f. Writes (f ++ text_of (report_of p e false)) (status_of_ends e.roots) a) same w)

pub returns-in-Ok : goal.returns-in-Ok
returns-in-Ok g c =
    let end = c.in-Ok.ran.end in
    let offered = offered_as c.args.bench.now c.as_bytes.result.now c.in-Ok.ran.checked end _ (c.as_bytes.ensures ∙ c.bench_line.ensures) c.in-Ok.ensures.made c.report.ensures in
    inl (record {
      end = end;
      finished = refl;
      ran = record {
        run = c.in-Ok.ensures.run;
        offered = writes_as (order_text (bench_order c.args.bench.now) end) (status_of_ends end.roots) _ (Some end) offered;
      };
    })
