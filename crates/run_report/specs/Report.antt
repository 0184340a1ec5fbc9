-- The report of an ended run, line by line.
use Rattle.std.specs.Prelude.{ℕ, zero, suc, Bool, cond, nat_eq, Option, Some, None, List, [], ◌∷◌, ◌++◌, map, codes, decimal, length, slice_get}
use Rattle.task_syntax.specs.declared.value.Trap.{Trap}
use Rattle.task_syntax.specs.declared.value.Trap.TheVariants.{Overflow, Divide, NoRow}
use Rattle.task_syntax.specs.declared.value.Value.{Value}
use Rattle.task_syntax.specs.declared.value.Value.TheVariants.{Number, Trapped}
use Rattle.task_syntax.specs.declared.program.Root.{Root}
use Rattle.task_syntax.specs.declared.program.Program.{Program}
use Rattle.kt_words.specs.Capacity.{capacity}
use Rattle.kt_words.specs.declared.super_word.SuperWord.{SuperWord}
use Rattle.record_core.specs.Numbers.{by_number}
use Rattle.record_core.specs.Journal.{task_count, cause_of}
use Rattle.record_core.specs.EndSeen.{EndSeen}
use Rattle.record_core.specs.declared.rows.ActivationRow.{ActivationRow}
use Rattle.record_core.specs.declared.rows.TaskRow.{TaskRow}
use Rattle.record_core.specs.declared.rows.Cause.{Cause}
use Rattle.record_core.specs.declared.rows.Cause.TheVariants as cause
use Rattle.record_core.specs.declared.rows.CutTag.{CutTag}
use Rattle.record_core.specs.declared.rows.CutTag.TheVariants.{Null, Limit}
use Rattle.record_core.specs.declared.rows.CutFrom.{CutFrom}
use Rattle.record_core.specs.declared.rows.CutFrom.TheVariants as from
use Rattle.record_core.specs.declared.rows.RootEnd.{RootEnd}
use Rattle.record_core.specs.declared.rows.RootEnd.TheVariants as end
use Rattle.run_report.specs.Lines.{Word, Words, lines_of_each}

-- ---- roots: `root NAME V`

abbrev pub trap_word : Trap → Word
trap_word Overflow = codes "overflow"
trap_word Divide = codes "divide"
trap_word NoRow = codes "norow"

abbrev pub value_words : Value → Words
value_words (Number n) = decimal n ∷ []
value_words (Trapped trap) = codes "trap" ∷ trap_word trap ∷ []

abbrev pub cut_word : CutTag → Word
cut_word Null = codes "null"
cut_word Limit = codes "limit"

abbrev pub end_words : RootEnd → Words
end_words (end.Value value) = value_words value
end_words (end.Cut tag from) = cut_word tag ∷ []

abbrev pub name_in : Option Root → Word
name_in None = []
name_in (Some root) = root.name

-- the name of the root at a position
abbrev pub root_name : Program → ℕ → Word
root_name p at = name_in (slice_get p.roots at)

abbrev pub root_words : Word → RootEnd → Words
root_words name e = codes "root" ∷ name ∷ end_words e

abbrev pub root_lines_of : Program → ℕ → RootEnd → List Words
root_lines_of p at e = root_words (root_name p at) e ∷ []

-- a line for each root
abbrev pub root_lines : Program → EndSeen → List Words
root_lines p e = lines_of_each (root_lines_of p) 0 e.roots

-- ---- counts

abbrev pub count_words : Word → ℕ → Words
count_words word count = word ∷ decimal count ∷ []

abbrev pub held_words : List ℕ → Words
held_words held = codes "held" ∷ map decimal held

-- what was accepted, how many answers were null, and the blocks that are held, by class
abbrev pub count_lines : EndSeen → List Words
count_lines e =
    count_words (codes "activations") (length e.rows)
    ∷ count_words (codes "tasks") (task_count e.rows)
    ∷ count_words (codes "nulls") e.nulls
    ∷ held_words e.held
    ∷ []

-- ---- causes: `cause NAME V` and from where

-- the task that a cause names
abbrev pub cut_by : Cause → Option ℕ
cut_by cause.Clear = None
cut_by cause.Null = None
cut_by cause.Limit = None
cut_by (cause.By u) = Some u

abbrev pub path_after : Option ℕ → (ℕ → List ℕ) → List ℕ
path_after None path = []
path_after (Some u) path = path u

-- The tasks from t on, each the cause of the one before it, to the one that was refused itself; at most so many.
abbrev pub cause_path : ℕ → List TaskRow → ℕ → List ℕ
cause_path zero tasks t = []
cause_path (suc most) tasks t = t ∷ path_after (cut_by (cause_of tasks t)) (cause_path most tasks)

-- the host, an earlier root, or the tasks that the causes lead along
abbrev pub from_words : Program → EndSeen → CutFrom → Words
from_words p e from.Host = codes "host" ∷ []
from_words p e (from.Root at) = codes "root" ∷ root_name p at ∷ []
from_words p e (from.Task t) = map decimal (cause_path (length e.rows) e.tasks t)

abbrev pub cut_words : Program → EndSeen → Word → CutTag → CutFrom → Words
cut_words p e name tag from = codes "cause" ∷ name ∷ cut_word tag ∷ from_words p e from

abbrev pub cause_lines_of : Program → EndSeen → ℕ → RootEnd → List Words
cause_lines_of p e at (end.Value value) = []
cause_lines_of p e at (end.Cut tag from) = cut_words p e (root_name p at) tag from ∷ []

-- a line for each root that is cut
abbrev pub cause_lines : Program → EndSeen → List Words
cause_lines p e = lines_of_each (cause_lines_of p e) 0 e.roots

-- ---- evidence, where an answer was null

-- `superblock I class D N of M`
abbrev pub superblock_words : ℕ → ℕ → SuperWord → Words
superblock_words units at word =
    codes "superblock" ∷ decimal at ∷ codes "class" ∷ decimal word.class ∷ decimal word.count ∷ codes "of" ∷ decimal (capacity units word.class) ∷ []

abbrev pub superblock_lines_of : ℕ → ℕ → SuperWord → List Words
superblock_lines_of units at word = superblock_words units at word ∷ []

abbrev pub evidence_words : ℕ → Words
evidence_words class = codes "evidence" ∷ codes "class" ∷ decimal class ∷ []

abbrev pub superblock_lines : EndSeen → List Words
superblock_lines e = lines_of_each (superblock_lines_of e.units) 0 e.evidence

-- the class, and then a line for each superblock
abbrev pub evidence_of_class : EndSeen → Option ℕ → List Words
evidence_of_class e None = []
evidence_of_class e (Some class) = evidence_words class ∷ superblock_lines e

abbrev pub evidence_lines : EndSeen → List Words
evidence_lines e = cond (nat_eq e.nulls 0) [] (evidence_of_class e e.evidence_class)

-- ---- trace

abbrev pub number_or_dash : Option ℕ → Word
number_or_dash None = codes "-"
number_or_dash (Some n) = decimal n

-- `activation N task T after P start S`
abbrev pub activation_words : ℕ → ActivationRow → Words
activation_words n row =
    codes "activation" ∷ decimal n ∷ codes "task" ∷ decimal row.task ∷ codes "after" ∷ number_or_dash row.after ∷ codes "start" ∷ number_or_dash row.start ∷ []

abbrev pub activation_lines_of : ℕ → ActivationRow → List Words
activation_lines_of n row = activation_words n row ∷ []

abbrev pub cause_word : Cause → Word
cause_word cause.Clear = codes "-"
cause_word cause.Null = codes "null"
cause_word cause.Limit = codes "limit"
cause_word (cause.By u) = decimal u

-- `task T finish F cause C`
abbrev pub task_words : ℕ → TaskRow → Words
task_words t task = codes "task" ∷ decimal t ∷ codes "finish" ∷ number_or_dash task.finish ∷ codes "cause" ∷ cause_word task.cause ∷ []

abbrev pub task_lines_in : ℕ → Option TaskRow → List Words
task_lines_in t None = []
task_lines_in t (Some task) = task_words t task ∷ []

-- a line where the activation is the first of its task
abbrev pub task_lines_of : List TaskRow → ℕ → ActivationRow → List Words
task_lines_of tasks n row = cond (nat_eq row.task n) (task_lines_in n (by_number tasks n)) []

abbrev pub activation_lines : EndSeen → List Words
activation_lines e = lines_of_each activation_lines_of 1 e.rows

abbrev pub task_lines : EndSeen → List Words
task_lines e = lines_of_each (task_lines_of e.tasks) 1 e.rows

-- a line for each activation, and then one for each task
abbrev pub trace_lines : EndSeen → List Words
trace_lines e = activation_lines e ++ task_lines e

-- ---- the whole

abbrev pub report_of : Program → EndSeen → Bool → List Words
report_of p e trace =
    root_lines p e ++ (count_lines e ++ (cause_lines p e ++ (evidence_lines e ++ cond trace (trace_lines e) [])))
