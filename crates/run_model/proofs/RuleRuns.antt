-- The runs of the rules, computed.
use Rattle.std.proofs.Common.{refl}
use Rattle.task_syntax.specs.Columns.{no_columns}
use Rattle.run_model.specs.WorkedRuns.{plan}
use Rattle.run_model.specs.RulePrograms.{gives_up, gathers, keeps, cut, first_null, two_superblocks, waiters, overwrites, full_at_limit, behind, priorities, low_retry}
use Rattle.run_model.specs.RuleRuns.{RuleRuns, gives_up_rows, gives_up_tasks, gathers_rows, gathers_tasks, keeps_rows, keeps_tasks, cut_rows, cut_tasks, first_null_rows, first_null_tasks, two_superblocks_rows, two_superblocks_tasks, waiters_rows, waiters_tasks, overwrites_rows, overwrites_tasks, full_at_limit_rows, full_at_limit_tasks, behind_rows, behind_tasks, priorities_rows, priorities_tasks, low_retry_rows, low_retry_tasks}
use Rattle.run_model.proofs.WorkedLooks.{traced}

-- each is over after so many steps
pub rule_runs : RuleRuns
rule_runs = record {
  gives_up_ends = traced gives_up no_columns (plan 1 8 14) 100 _ gives_up_rows gives_up_tasks refl;
  gathers_ends = traced gathers no_columns (plan 2 8 5) 100 _ gathers_rows gathers_tasks refl;
  keeps_ends = traced keeps no_columns (plan 1 8 9) 100 _ keeps_rows keeps_tasks refl;
  cut_ends = traced cut no_columns (plan 8 16 2) 100 _ cut_rows cut_tasks refl;
  first_null_ends = traced first_null no_columns (plan 1 8 3) 100 _ first_null_rows first_null_tasks refl;
  two_superblocks_ends = traced two_superblocks no_columns (plan 2 8 5) 100 _ two_superblocks_rows two_superblocks_tasks refl;
  waiters_ends = traced waiters no_columns (plan 2 8 3) 100 _ waiters_rows waiters_tasks refl;
  overwrites_ends = traced overwrites no_columns (plan 1 8 16) 100 _ overwrites_rows overwrites_tasks refl;
  full_at_limit_ends = traced full_at_limit no_columns (plan 1 8 2) 100 _ full_at_limit_rows full_at_limit_tasks refl;
  behind_ends = traced behind no_columns (plan 2 8 2) 100 _ behind_rows behind_tasks refl;
  priorities_ends = traced priorities no_columns (plan 5 8 2) 100 _ priorities_rows priorities_tasks refl;
  low_retry_ends = traced low_retry no_columns (plan 1 8 14) 100 _ low_retry_rows low_retry_tasks refl;
}
