-- Worked runs: values, traps, cuts by null and by the limit, at a root and below it.
use Rattle.std.specs.Prelude.{Some, None, List, [], ◌∷◌}
use Rattle.task_syntax.specs.declared.value.Value.TheVariants.{Number, Trapped}
use Rattle.task_syntax.specs.declared.value.Trap.TheVariants.{Overflow}
use Rattle.task_syntax.specs.Columns.{no_columns}
use Rattle.record_core.specs.Journal.{unfinished}
use Rattle.record_core.specs.declared.rows.ActivationRow.{ActivationRow}
use Rattle.record_core.specs.declared.rows.TaskRow.{TaskRow}
use Rattle.record_core.specs.declared.rows.Cause.TheVariants.{Clear}
use Rattle.record_core.specs.declared.rows.RootEnd.TheVariants.{Value, Cut}
use Rattle.record_core.specs.declared.rows.CutTag.TheVariants.{Null, Limit}
use Rattle.record_core.specs.declared.rows.CutFrom.TheVariants.{Host, Root, Task}
use Rattle.run_model.specs.WorkedRuns.{IsTracedSo, EndsSo, summary, plan, starts, finishes}
use Rattle.run_model.specs.ExamplePrograms.{fib_two, fib_four, fib_retrying, wide, skips, overflows, twice, prices, chain, chain_hundred, grid_two, three, nine, beside, drops, retries, empty, price_table}

abbrev pub fib_two_rows : List ActivationRow
fib_two_rows =
    starts 1 None 1
    ∷ starts 2 None 2
    ∷ starts 3 None 4
    ∷ starts 4 (Some 2) 6
    ∷ starts 1 (Some 4) 9
    ∷ starts 4 (Some 3) 7 ∷ []

abbrev pub fib_two_tasks : List TaskRow
fib_two_tasks =
    finishes 10 Clear
    ∷ finishes 3 Clear
    ∷ finishes 5 Clear
    ∷ finishes 8 Clear
    ∷ unfinished
    ∷ unfinished ∷ []

abbrev pub three_rows : List ActivationRow
three_rows =
    starts 1 None 1
    ∷ starts 2 None 7
    ∷ starts 3 None 5
    ∷ starts 4 None 3 ∷ []

abbrev pub three_tasks : List TaskRow
three_tasks =
    finishes 2 Clear
    ∷ finishes 8 Clear
    ∷ finishes 6 Clear
    ∷ finishes 4 Clear ∷ []

pub record ExampleRuns : Type 0 where
  pub fib_two_traced : IsTracedSo fib_two no_columns (plan 256 512 1000000) (summary (Value (Number 1) ∷ []) 6 4 0 (1 ∷ 0 ∷ 0 ∷ 0 ∷ []) None []) fib_two_rows fib_two_tasks
  pub three_traced : IsTracedSo three no_columns (plan 256 512 1000000) (summary (Value (Number 0) ∷ []) 4 4 0 (1 ∷ 0 ∷ 0 ∷ 0 ∷ []) None []) three_rows three_tasks
  pub fib_two_within : EndsSo fib_two no_columns (plan 256 512 6)
      (summary (Value (Number 1) ∷ []) 6 4 0 (1 ∷ 0 ∷ 0 ∷ 0 ∷ []) None [])
  pub fib_two_limited : EndsSo fib_two no_columns (plan 256 512 5)
      (summary (Cut Limit (Task 1) ∷ []) 5 4 0 (1 ∷ 0 ∷ 0 ∷ 0 ∷ []) None [])
  pub fib_four_null : EndsSo fib_four no_columns (plan 1 8 1000000)
      (summary (Cut Null (Task 1) ∷ []) 10 8 2 (1 ∷ 0 ∷ 0 ∷ 0 ∷ []) (Some 0) ((0, 8) ∷ []))
  pub fib_retrying_limited : EndsSo fib_retrying no_columns (plan 1 8 13)
      (summary (Cut Limit (Task 1) ∷ []) 13 8 4 (1 ∷ 0 ∷ 0 ∷ 0 ∷ []) (Some 0) ((0, 8) ∷ []))
  pub wide_skipped : EndsSo wide no_columns (plan 1 8 1000000)
      (summary (Value (Number 1) ∷ Cut Null Host ∷ Cut Null (Root 1) ∷ []) 1 1 1 (1 ∷ 0 ∷ 0 ∷ 0 ∷ []) (Some 1) ((0, 1) ∷ []))
  pub skips_in_order : EndsSo skips no_columns (plan 1 8 1000000)
      (summary (Value (Number 1) ∷ Cut Null Host ∷ Cut Null Host ∷ Cut Null (Root 2) ∷ Cut Null (Root 1) ∷ []) 1 1 2 (1 ∷ 0 ∷ 0 ∷ 0 ∷ []) (Some 1) ((0, 1) ∷ []))
  pub overflows_trapped : EndsSo overflows no_columns (plan 256 512 1000000)
      (summary (Value (Trapped Overflow) ∷ Value (Trapped Overflow) ∷ []) 2 2 0 (2 ∷ 0 ∷ 0 ∷ 0 ∷ []) None [])
  pub twice_gathered : EndsSo twice no_columns (plan 256 512 1000000)
      (summary (Value (Number 7) ∷ []) 5 3 0 (1 ∷ 0 ∷ 0 ∷ 0 ∷ []) None [])
  pub prices_summed : EndsSo prices price_table (plan 256 512 1000000)
      (summary (Value (Number 150) ∷ []) 23 14 0 (1 ∷ 0 ∷ 0 ∷ 0 ∷ []) None [])
  pub chain_chained : EndsSo chain no_columns (plan 1 8 1000000)
      (summary (Value (Number 15) ∷ []) 16 6 0 (1 ∷ 0 ∷ 0 ∷ 0 ∷ []) None [])
  pub chain_hundred_chained : EndsSo chain_hundred no_columns (plan 1 8 1000000)
      (summary (Value (Number 5050) ∷ []) 301 101 0 (1 ∷ 0 ∷ 0 ∷ 0 ∷ []) None [])
  pub grid_summed : EndsSo grid_two no_columns (plan 1024 512 1000000)
      (summary (Value (Number 16) ∷ []) 46 26 0 (1 ∷ 0 ∷ 0 ∷ 0 ∷ []) None [])
  pub nine_null : EndsSo nine no_columns (plan 1 8 8)
      (summary (Value (Number 1) ∷ Value (Number 1) ∷ Value (Number 1) ∷ Value (Number 1) ∷ Value (Number 1) ∷ Value (Number 1) ∷ Value (Number 1) ∷ Value (Number 1) ∷ Cut Null Host ∷ []) 8 8 1 (8 ∷ 0 ∷ 0 ∷ 0 ∷ []) (Some 0) ((0, 8) ∷ []))
  pub nine_limited : EndsSo nine no_columns (plan 2 8 8)
      (summary (Value (Number 1) ∷ Value (Number 1) ∷ Value (Number 1) ∷ Value (Number 1) ∷ Value (Number 1) ∷ Value (Number 1) ∷ Value (Number 1) ∷ Value (Number 1) ∷ Cut Limit Host ∷ []) 8 8 0 (8 ∷ 0 ∷ 0 ∷ 0 ∷ []) None [])
  pub beside_null : EndsSo beside no_columns (plan 2 8 100)
      (summary (Value (Number 1) ∷ Value (Number 3) ∷ Value (Number 1) ∷ Value (Number 1) ∷ Value (Number 1) ∷ Value (Number 1) ∷ Value (Number 1) ∷ Value (Number 1) ∷ Value (Number 1) ∷ Cut Null Host ∷ []) 9 9 1 (8 ∷ 1 ∷ 0 ∷ 0 ∷ []) (Some 0) ((0, 8) ∷ (1, 1) ∷ []))
  pub drops_done : EndsSo drops no_columns (plan 1 8 100)
      (summary (Value (Number 1) ∷ Value (Number 1) ∷ Value (Number 1) ∷ Value (Number 1) ∷ Value (Number 1) ∷ Value (Number 1) ∷ Value (Number 0) ∷ []) 10 9 0 (7 ∷ 0 ∷ 0 ∷ 0 ∷ []) None [])
  pub retries_done : EndsSo retries no_columns (plan 1 8 100)
      (summary (Value (Number 1) ∷ Value (Number 1) ∷ Value (Number 1) ∷ Value (Number 1) ∷ Value (Number 1) ∷ Value (Number 1) ∷ Value (Number 0) ∷ []) 10 9 1 (7 ∷ 0 ∷ 0 ∷ 0 ∷ []) (Some 0) ((0, 8) ∷ []))
  pub empty_done : EndsSo empty no_columns (plan 256 512 1000000)
      (summary ([]) 0 0 0 (0 ∷ 0 ∷ 0 ∷ 0 ∷ []) None [])
