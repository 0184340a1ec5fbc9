-- What is run, and how; and which end a run of it has.
use Rattle.std.specs.Prelude.{ℕ, Bool, false, List, [], ◌++◌, codes, decimal}
use Rattle.bench_programs.specs.Family.{word_of}
use Rattle.bench_programs.specs.Programs.{family_program}
use Rattle.task_syntax.specs.Columns.{no_columns}
use Rattle.task_syntax.specs.Form.{IsWellFormed}
use Rattle.task_syntax.specs.declared.columns.Columns.{Columns}
use Rattle.task_syntax.specs.declared.program.Program.{Program}
use Rattle.record_core.specs.EndSeen.{EndSeen, RunPlan}
use Rattle.record_core.specs.EndSound.{EndSound, EndComplete}
use Rattle.record_core.specs.EndCounts.{EndCounts}
use Rattle.record_core.specs.EndFaithful.{EndFaithful}
use Rattle.run_model.specs.End.{EndsAs}
use Rattle.run_report.specs.Lines.{text_of}
use Rattle.run_report.specs.Report.{report_of}
use Rattle.tool_words.specs.Choice.{RunWords}
use Rattle.tool_words.specs.declared.choice.BenchWords.{BenchWords}

-- the program, its columns, the plan of its run, whether the trace is written, and what stands before the report
pub record Order : Type 0 where
  pub program : Program
  pub columns : Columns
  pub plan : RunPlan
  pub trace : Bool
  pub head : List ℕ

-- a program with its columns is run under the plan that the words choose, and nothing stands before its report
abbrev pub order_of : RunWords → Program × Columns → Order
order_of run input =
    record { program = input.0; columns = input.1; plan = run.plan; trace = run.trace; head = [] }

-- the plan of a program of a family: 1,024 superblocks of 512 units, and at most 1,000,000 activations
abbrev pub bench_plan : RunPlan
bench_plan = record { superblocks = 1024; units = 512; limit = 1000000 }

-- `bench FAMILY N`, with its line end
abbrev pub bench_line : BenchWords → List ℕ
bench_line bench = codes "bench " ++ word_of bench.family ++ codes " " ++ decimal bench.number ++ codes "\n"

-- the program of a family is run without columns, and a line that tells which it is stands before its report
abbrev pub bench_order : BenchWords → Order
bench_order bench = record {
  program = family_program bench.family bench.number;
  columns = no_columns;
  plan = bench_plan;
  trace = false;
  head = bench_line bench;
}

-- the program is well formed; the end is sound and faithful, it is that of the run on one thread, it is complete where the
-- meaning has counts within the plan, and it counts as the meaning does wherever nothing was refused
pub record IsRunOf (o : Order) (e : EndSeen) : Type 0 where
  pub formed : IsWellFormed o.program
  pub sound : EndSound o.program o.columns o.plan e
  pub faithful : EndFaithful o.program e
  pub answers : EndsAs o.program o.columns o.plan e
  pub complete : EndComplete o.program o.columns o.plan e
  pub counts : EndCounts o.program o.columns e

-- what is written of an end
abbrev pub order_text : Order → EndSeen → List ℕ
order_text o e = o.head ++ text_of (report_of o.program e o.trace)
