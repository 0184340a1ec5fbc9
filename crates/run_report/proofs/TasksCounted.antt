-- Tasks counted row by row.
use Rattle.std.proofs.Common.{◌≡◌, ℕ, suc, ◌+◌, ◌≤◌, arith, true, false, nat_eq, cond, List, length, drop, Some, slice_get, ◌∙◌, ap}
use Rattle.std.proofs.lemmas.List.{drop_all}
use Rattle.record_core.specs.Journal.{tasks_from}
use Rattle.record_core.specs.declared.rows.ActivationRow.{ActivationRow}
use Rattle.run_report.proofs.WrittenInParts.{drop_at}

-- the row at a place counts once, where it is the first of its task
pub counted_step : (rows : List ActivationRow) (at : ℕ) (row : ActivationRow) → slice_get rows at ≡ Some row
    → tasks_from (suc at) (drop at rows) ≡ cond (nat_eq row.task (at + 1)) 1 0 + tasks_from (suc (at + 1)) (drop (at + 1) rows)
counted_step rows at row is =
    let same : suc at ≡ at + 1 = omega arith in
    ap (tasks_from (suc at)) (drop_at at rows row is) ∙ ap (λ n. cond (nat_eq row.task n) 1 0 + tasks_from (suc n) (drop (at + 1) rows)) same

-- a row counts at most once
pub one_at_most : (m n : ℕ) → cond (nat_eq m n) 1 0 ≤ 1
one_at_most m n = elim (nat_eq m n) as (λ b. cond b 1 0 ≤ 1) [ true ↦ omega arith | false ↦ omega arith ]

-- behind the last row nothing is counted
pub counted_end : (rows : List ActivationRow) (at : ℕ) → length rows ≤ at → tasks_from (suc at) (drop at rows) ≡ 0
counted_end rows at past = ap (tasks_from (suc at)) (drop_all at rows past)
