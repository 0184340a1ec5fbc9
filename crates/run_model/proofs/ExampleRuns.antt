-- The worked runs, computed.
use Rattle.std.proofs.Common.{refl}
use Rattle.task_syntax.specs.Columns.{no_columns}
use Rattle.run_model.specs.WorkedRuns.{plan}
use Rattle.run_model.specs.ExamplePrograms.{fib_two, fib_four, fib_retrying, wide, skips, overflows, twice, prices, chain, chain_hundred, grid_two, three, nine, beside, drops, retries, empty, price_table}
use Rattle.run_model.specs.ExampleRuns.{ExampleRuns, fib_two_rows, fib_two_tasks, three_rows, three_tasks}
use Rattle.run_model.proofs.WorkedLooks.{traced, told}

-- each is over after so many steps
pub example_runs : ExampleRuns
example_runs = record {
  fib_two_traced = traced fib_two no_columns (plan 256 512 1000000) 60 _ fib_two_rows fib_two_tasks refl;
  three_traced = traced three no_columns (plan 256 512 1000000) 40 _ three_rows three_tasks refl;
  fib_two_within = told fib_two no_columns (plan 256 512 6) 60 _ refl;
  fib_two_limited = told fib_two no_columns (plan 256 512 5) 60 _ refl;
  fib_four_null = told fib_four no_columns (plan 1 8 1000000) 200 _ refl;
  fib_retrying_limited = told fib_retrying no_columns (plan 1 8 13) 300 _ refl;
  wide_skipped = told wide no_columns (plan 1 8 1000000) 20 _ refl;
  skips_in_order = told skips no_columns (plan 1 8 1000000) 20 _ refl;
  overflows_trapped = told overflows no_columns (plan 256 512 1000000) 20 _ refl;
  twice_gathered = told twice no_columns (plan 256 512 1000000) 40 _ refl;
  prices_summed = told prices price_table (plan 256 512 1000000) 300 _ refl;
  chain_chained = told chain no_columns (plan 1 8 1000000) 100 _ refl;
  chain_hundred_chained = told chain_hundred no_columns (plan 1 8 1000000) 3000 _ refl;
  grid_summed = told grid_two no_columns (plan 1024 512 1000000) 1000 _ refl;
  nine_null = told nine no_columns (plan 1 8 8) 40 _ refl;
  nine_limited = told nine no_columns (plan 2 8 8) 40 _ refl;
  beside_null = told beside no_columns (plan 2 8 100) 40 _ refl;
  drops_done = told drops no_columns (plan 1 8 100) 60 _ refl;
  retries_done = told retries no_columns (plan 1 8 100) 60 _ refl;
  empty_done = told empty no_columns (plan 256 512 1000000) 5 _ refl;
}
