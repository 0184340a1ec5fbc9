-- The rules of the run that no other law sees, each by a worked run with all its rows: which superblock and bit is given,
-- what is asked first, who waits where, what goes first, what is kept and what is given up.
use Rattle.std.specs.Prelude.{Some, None, List, [], ◌∷◌}
use Rattle.task_syntax.specs.declared.value.Value.TheVariants.{Number}
use Rattle.task_syntax.specs.Columns.{no_columns}
use Rattle.record_core.specs.Journal.{unfinished}
use Rattle.record_core.specs.declared.rows.ActivationRow.{ActivationRow}
use Rattle.record_core.specs.declared.rows.TaskRow.{TaskRow}
use Rattle.record_core.specs.declared.rows.Cause.TheVariants.{Clear, By}
use Rattle.record_core.specs.declared.rows.Cause.TheVariants as cause
use Rattle.record_core.specs.declared.rows.RootEnd.TheVariants.{Value, Cut}
use Rattle.record_core.specs.declared.rows.CutTag.TheVariants.{Null, Limit}
use Rattle.record_core.specs.declared.rows.CutFrom.TheVariants.{Task}
use Rattle.run_model.specs.WorkedRuns.{IsTracedSo, summary, plan, starts, finishes}
use Rattle.run_model.specs.RulePrograms.{gives_up, gathers, keeps, cut, first_null, two_superblocks, waiters, overwrites, full_at_limit, behind, priorities, low_retry}

abbrev pub gives_up_rows : List ActivationRow
gives_up_rows =
    starts 1 None 1
    ∷ starts 2 None 2
    ∷ starts 1 None 3
    ∷ starts 4 None 4
    ∷ starts 2 None 5
    ∷ starts 6 None 6
    ∷ starts 1 None 7
    ∷ starts 8 None 9
    ∷ starts 4 None 11
    ∷ starts 10 None 13
    ∷ starts 2 None 15
    ∷ starts 12 None 17
    ∷ starts 6 None 19
    ∷ starts 14 None 21 ∷ []

abbrev pub gives_up_tasks : List TaskRow
gives_up_tasks =
    finishes 8 cause.Limit
    ∷ finishes 16 cause.Limit
    ∷ unfinished
    ∷ finishes 12 cause.Limit
    ∷ unfinished
    ∷ finishes 20 cause.Limit
    ∷ unfinished
    ∷ finishes 10 cause.Null
    ∷ unfinished
    ∷ finishes 14 cause.Limit
    ∷ unfinished
    ∷ finishes 18 cause.Limit
    ∷ unfinished
    ∷ finishes 22 cause.Limit ∷ []

abbrev pub gathers_rows : List ActivationRow
gathers_rows =
    starts 1 None 1
    ∷ starts 2 None 3
    ∷ starts 3 (Some 2) 7
    ∷ starts 4 None 5
    ∷ starts 5 (Some 4) 9 ∷ []

abbrev pub gathers_tasks : List TaskRow
gathers_tasks =
    finishes 2 Clear
    ∷ finishes 4 Clear
    ∷ finishes 8 cause.Limit
    ∷ finishes 6 cause.Limit
    ∷ finishes 10 (By 4) ∷ []

abbrev pub keeps_rows : List ActivationRow
keeps_rows =
    starts 1 None 1
    ∷ starts 2 None 3
    ∷ starts 3 (Some 2) 7
    ∷ starts 4 None 5
    ∷ starts 5 (Some 4) 10
    ∷ starts 6 None 8
    ∷ starts 7 (Some 6) 16
    ∷ starts 3 (Some 2) 12
    ∷ starts 9 None 14 ∷ []

abbrev pub keeps_tasks : List TaskRow
keeps_tasks =
    finishes 2 Clear
    ∷ finishes 4 Clear
    ∷ finishes 13 Clear
    ∷ finishes 6 Clear
    ∷ finishes 11 cause.Limit
    ∷ finishes 9 cause.Null
    ∷ finishes 17 (By 6)
    ∷ unfinished
    ∷ finishes 15 cause.Limit ∷ []

abbrev pub cut_rows : List ActivationRow
cut_rows =
    starts 1 None 1
    ∷ starts 2 (Some 1) 3 ∷ []

abbrev pub cut_tasks : List TaskRow
cut_tasks =
    finishes 2 cause.Limit
    ∷ finishes 4 (By 1) ∷ []

abbrev pub first_null_rows : List ActivationRow
first_null_rows =
    starts 1 None 1
    ∷ starts 2 None 3
    ∷ starts 3 None 5 ∷ []

abbrev pub first_null_tasks : List TaskRow
first_null_tasks =
    finishes 2 cause.Null
    ∷ finishes 4 cause.Null
    ∷ finishes 6 cause.Limit ∷ []

abbrev pub two_superblocks_rows : List ActivationRow
two_superblocks_rows =
    starts 1 None 1
    ∷ starts 2 None 3
    ∷ starts 3 None 5
    ∷ starts 4 (Some 2) 9
    ∷ starts 5 None 7 ∷ []

abbrev pub two_superblocks_tasks : List TaskRow
two_superblocks_tasks =
    finishes 2 Clear
    ∷ finishes 4 cause.Null
    ∷ finishes 6 cause.Null
    ∷ finishes 10 (By 2)
    ∷ finishes 8 cause.Limit ∷ []

abbrev pub waiters_rows : List ActivationRow
waiters_rows =
    starts 1 None 1
    ∷ starts 2 (Some 1) 5
    ∷ starts 3 (Some 1) 3 ∷ []

abbrev pub waiters_tasks : List TaskRow
waiters_tasks =
    finishes 2 Clear
    ∷ finishes 6 Clear
    ∷ finishes 4 Clear ∷ []

abbrev pub overwrites_rows : List ActivationRow
overwrites_rows =
    starts 1 None 1
    ∷ starts 2 None 2
    ∷ starts 1 None 3
    ∷ starts 4 None 5
    ∷ starts 2 None 6
    ∷ starts 6 None 8
    ∷ starts 7 None 9
    ∷ starts 4 None 10
    ∷ starts 9 None 12
    ∷ starts 10 None 13
    ∷ starts 6 None 15
    ∷ starts 12 None 17
    ∷ starts 7 None 19
    ∷ starts 14 None 21
    ∷ starts 15 None 23
    ∷ starts 9 None 25 ∷ []

abbrev pub overwrites_tasks : List TaskRow
overwrites_tasks =
    finishes 4 Clear
    ∷ finishes 7 Clear
    ∷ unfinished
    ∷ finishes 11 Clear
    ∷ unfinished
    ∷ finishes 16 cause.Null
    ∷ finishes 20 cause.Limit
    ∷ unfinished
    ∷ finishes 26 cause.Limit
    ∷ finishes 14 cause.Null
    ∷ unfinished
    ∷ finishes 18 cause.Limit
    ∷ unfinished
    ∷ finishes 22 cause.Limit
    ∷ finishes 24 cause.Limit
    ∷ unfinished ∷ []

abbrev pub full_at_limit_rows : List ActivationRow
full_at_limit_rows =
    starts 1 None 1
    ∷ starts 2 None 3 ∷ []

abbrev pub full_at_limit_tasks : List TaskRow
full_at_limit_tasks =
    finishes 2 cause.Null
    ∷ finishes 4 cause.Limit ∷ []

abbrev pub behind_rows : List ActivationRow
behind_rows =
    starts 1 None 1
    ∷ starts 2 (Some 1) 3 ∷ []

abbrev pub behind_tasks : List TaskRow
behind_tasks =
    finishes 2 Clear
    ∷ finishes 4 Clear ∷ []

abbrev pub priorities_rows : List ActivationRow
priorities_rows =
    starts 1 None 3
    ∷ starts 2 None 1 ∷ []

abbrev pub priorities_tasks : List TaskRow
priorities_tasks =
    finishes 4 Clear
    ∷ finishes 2 Clear ∷ []

abbrev pub low_retry_rows : List ActivationRow
low_retry_rows =
    starts 1 None 1
    ∷ starts 2 None 3
    ∷ starts 3 None 5
    ∷ starts 4 None 7
    ∷ starts 5 None 9
    ∷ starts 6 None 11
    ∷ starts 7 None 12
    ∷ starts 8 None 14
    ∷ starts 9 None 16
    ∷ starts 10 None 18
    ∷ starts 11 None 20
    ∷ starts 12 None 22
    ∷ starts 6 None 26
    ∷ starts 14 None 24 ∷ []

abbrev pub low_retry_tasks : List TaskRow
low_retry_tasks =
    finishes 2 Clear
    ∷ finishes 4 Clear
    ∷ finishes 6 Clear
    ∷ finishes 8 Clear
    ∷ finishes 10 Clear
    ∷ finishes 27 cause.Limit
    ∷ finishes 13 cause.Null
    ∷ finishes 15 cause.Limit
    ∷ finishes 17 cause.Limit
    ∷ finishes 19 cause.Limit
    ∷ finishes 21 cause.Limit
    ∷ finishes 23 cause.Limit
    ∷ unfinished
    ∷ finishes 25 cause.Limit ∷ []

pub record RuleRuns : Type 0 where
  -- at `again` the futures that the state does not hold are given up, so their blocks are free
  pub gives_up_ends : IsTracedSo gives_up no_columns (plan 1 8 14) (summary (Cut Limit (Task 1) ∷ []) 14 8 1 (1 ∷ 0 ∷ 0 ∷ 0 ∷ []) (Some 0) ((0, 8) ∷ [])) gives_up_rows gives_up_tasks
  -- an aggregate goes on behind each of its members, repeated ones too
  pub gathers_ends : IsTracedSo gathers no_columns (plan 2 8 5) (summary (Value (Number 1) ∷ []) 5 5 0 (1 ∷ 0 ∷ 0 ∷ 0 ∷ []) None []) gathers_rows gathers_tasks
  -- a block stays in use while a future names its ended task
  pub keeps_ends : IsTracedSo keeps no_columns (plan 1 8 9) (summary (Value (Number 4) ∷ []) 9 8 1 (1 ∷ 0 ∷ 0 ∷ 0 ∷ []) (Some 0) ((0, 8) ∷ [])) keeps_rows keeps_tasks
  -- what is behind a cut task starts, and is cut by it at once
  pub cut_ends : IsTracedSo cut no_columns (plan 8 16 2) (summary (Cut Limit (Task 1) ∷ Cut Limit (Task 2) ∷ []) 2 2 0 (2 ∷ 0 ∷ 0 ∷ 0 ∷ []) None []) cut_rows cut_tasks
  -- the first null answer is kept, and no later one
  pub first_null_ends : IsTracedSo first_null no_columns (plan 1 8 3) (summary (Cut Null (Task 1) ∷ []) 3 3 2 (0 ∷ 1 ∷ 0 ∷ 0 ∷ []) (Some 0) ((1, 2) ∷ [])) first_null_rows first_null_tasks
  -- the first superblock with room gives the block
  pub two_superblocks_ends : IsTracedSo two_superblocks no_columns (plan 2 8 5) (summary (Value (Number 0) ∷ []) 5 5 2 (0 ∷ 1 ∷ 0 ∷ 0 ∷ []) (Some 1) ((1, 4) ∷ (0, 1) ∷ [])) two_superblocks_rows two_superblocks_tasks
  -- of the waiters the last to come is ready first
  pub waiters_ends : IsTracedSo waiters no_columns (plan 2 8 3) (summary (Value (Number 3) ∷ Value (Number 3) ∷ Value (Number 3) ∷ []) 3 3 0 (3 ∷ 0 ∷ 0 ∷ 0 ∷ []) None []) waiters_rows waiters_tasks
  -- the future that a spawn overwrites keeps its block until the new task is there
  pub overwrites_ends : IsTracedSo overwrites no_columns (plan 1 8 16) (summary (Value (Number 0) ∷ []) 16 10 2 (1 ∷ 0 ∷ 0 ∷ 0 ∷ []) (Some 0) ((0, 8) ∷ [])) overwrites_rows overwrites_tasks
  -- with a full pool at the limit the answer is null
  pub full_at_limit_ends : IsTracedSo full_at_limit no_columns (plan 1 8 2) (summary (Cut Null (Task 1) ∷ []) 2 2 1 (0 ∷ 1 ∷ 0 ∷ 0 ∷ []) (Some 0) ((1, 2) ∷ [])) full_at_limit_rows full_at_limit_tasks
  -- a row has the predecessor, also where that has ended
  pub behind_ends : IsTracedSo behind no_columns (plan 2 8 2) (summary (Value (Number 3) ∷ Value (Number 3) ∷ []) 2 2 0 (2 ∷ 0 ∷ 0 ∷ 0 ∷ []) None []) behind_rows behind_tasks
  -- a higher priority goes first
  pub priorities_ends : IsTracedSo priorities no_columns (plan 5 8 2) (summary (Value (Number 10) ∷ Value (Number 10) ∷ []) 2 2 0 (2 ∷ 0 ∷ 0 ∷ 0 ∷ []) None []) priorities_rows priorities_tasks
  -- a retry waits with priority low, behind none
  pub low_retry_ends : IsTracedSo low_retry no_columns (plan 1 8 14) (summary (Value (Number 0) ∷ []) 14 13 3 (1 ∷ 0 ∷ 0 ∷ 0 ∷ []) (Some 0) ((0, 8) ∷ [])) low_retry_rows low_retry_tasks
