-- The words of a path along causes, one after the other.
use Rattle.std.proofs.Common.{◌≡◌, ℕ, suc, ◌+◌, ◌-◌, ◌<◌, arith, List, ◌++◌, map, Option, Some, sym, ◌∙◌, ap}
use Rattle.std.specs.Prelude.{codes, decimal}
use Rattle.record_core.specs.Numbers.{by_number}
use Rattle.record_core.specs.Journal.{cause_of, cause_in}
use Rattle.record_core.specs.declared.rows.Cause.{Cause}
use Rattle.record_core.specs.declared.rows.Cause.TheVariants.{Clear, Null, Limit, By}
use Rattle.record_core.specs.declared.rows.TaskRow.{TaskRow}
use Rattle.run_report.specs.Lines.{spaced}
use Rattle.run_report.specs.Report.{cause_path, path_after, cut_by}

-- the words of the path from a task on, at most so many
abbrev pub path_text : ℕ → List TaskRow → ℕ → List ℕ
path_text most tasks t = spaced (map decimal (cause_path most tasks t))

-- the words that follow a task which was cut by another, or by none
abbrev pub text_after : ℕ → List TaskRow → Option ℕ → List ℕ
text_after most tasks o = spaced (map decimal (path_after o (cause_path most tasks)))

-- the task that a task was cut by, from its row
pub cut_of : (tasks : List TaskRow) (t : ℕ) (task : TaskRow) (o : Option ℕ) → by_number tasks t ≡ Some task → o ≡ cut_by task.cause → o ≡ cut_by (cause_of tasks t)
cut_of tasks t task o is next = next ∙ sym (ap (λ x. cut_by (cause_in x)) is)

-- the first word of a path, and what follows it
pub path_begins : (tasks : List TaskRow) (count at t : ℕ) (o : Option ℕ) → at < count → o ≡ cut_by (cause_of tasks t)
    → path_text (count - at) tasks t ≡ (codes " " ++ decimal t) ++ text_after (count - (at + 1)) tasks o
path_begins tasks count at t o within next =
    let more : count - at ≡ suc (count - (at + 1)) = omega (arith, within) in
    ap (λ n. path_text n tasks t) more ∙ ap (λ x. (codes " " ++ decimal t) ++ text_after (count - (at + 1)) tasks x) (sym next)

-- a cause that names a task
pub by_task : (tasks : List TaskRow) (t u : ℕ) → Some u ≡ cut_by (cause_of tasks t) → cause_of tasks t ≡ By u
by_task tasks t u next = named (cause_of tasks t) next where
  named : (c : Cause) → Some u ≡ cut_by c → c ≡ By u
  named Clear e = cc
  named Null e = cc
  named Limit e = cc
  named (By v) e = let same : v ≡ u = cc in ap By same
