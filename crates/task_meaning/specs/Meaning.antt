-- The meaning of a task: a spawn is a call that is made at once, and a future is the value of that call.
-- It is a function of fuel. One fuel is used up for each call and each respawn that goes on below another.
use Rattle.std.specs.Prelude.{◌≡◌, ℕ, zero, suc, ◌+◌, ◌-◌, cond, Option, Some, None, List, [], ◌∷◌, length}
use Rattle.task_syntax.specs.declared.value.Value.{Value}
use Rattle.task_syntax.specs.declared.value.Value.TheVariants.{Number}
use Rattle.task_syntax.specs.declared.instr.Instr.{Instr}
use Rattle.task_syntax.specs.declared.instr.Instr.TheVariants.{Set, Math, If, Goto, Label, Cell, Rows, Spawn, All, Copy, Drop, Get, Again, Done}
use Rattle.task_syntax.specs.declared.instr.Line.{Line}
use Rattle.task_syntax.specs.declared.program.Program.{Program}
use Rattle.task_syntax.specs.declared.columns.Columns.{Columns}
use Rattle.task_meaning.specs.Meant.{Counts, Meant, counted, nothing, gives, adding, with_value, with_number, future_at, behind, behind_all}
use Rattle.task_meaning.specs.Frame.{Place, Call, code_at, entry, enter, jump, go_on, set_number, set_future, operand, spawned}
use Rattle.task_syntax.specs.Columns.{rows_of}
use Rattle.task_meaning.specs.Arithmetic.{computed, compares, cell_at}

-- what the child of a spawn means, where `less` is what places mean with one fuel less
abbrev pub child_of : Program → (Place → Meant) → Option ℕ → Call → List (Option Value) → Meant
child_of p less waits call futures = behind waits futures (adding (counted 1 1) (less (entry p call)))

-- what an aggregate of these members means
abbrev pub aggregate_of : List ℕ → List (Option Value) → Meant
aggregate_of members futures = behind_all members futures (adding (counted 1 (length members)) (gives (Number 0)))

-- the counts of a child, and then what follows with its value in the variable
abbrev pub with_child : Meant → (Place → Meant) → Place → ℕ → Meant
with_child child next q to = adding child.counts (next (set_future q to child.value))

-- What an instruction means at a place, where `less` is what places mean with one fuel less,
-- and `next k` what they mean where the k lines behind this one are passed over.
abbrev pub instr_means : Program → Columns → (Place → Meant) → (ℕ → Place → Meant) → Instr → Place → Meant
instr_means p c less next (Set to value) q = next 0 (set_number q to (operand q.numbers value))
instr_means p c less next (Math op to left right) q =
    with_number (computed op (operand q.numbers left) (operand q.numbers right)) (λ n. next 0 (set_number q to n))
instr_means p c less next (If relation left right target) q =
    cond (compares relation (operand q.numbers left) (operand q.numbers right)) (next (target - (q.at + 1)) (jump q target)) (next 0 (go_on q))
instr_means p c less next (Goto target) q = next (target - (q.at + 1)) (jump q target)
instr_means p c less next (Label name) q = next 0 (go_on q)
instr_means p c less next (Cell to column row) q = with_number (cell_at c column (operand q.numbers row)) (λ n. next 0 (set_number q to n))
instr_means p c less next (Rows to column) q = next 0 (set_number q to (rows_of c column))
instr_means p c less next (Spawn to kind arguments waits priority retry) q =
    with_child (child_of p less waits (spawned q kind arguments) q.futures) (next 0) q to
instr_means p c less next (All to members priority retry) q = with_child (aggregate_of members q.futures) (next 0) q to
instr_means p c less next (Copy to source) q = next 0 (set_future q to (future_at q.futures source))
instr_means p c less next (Drop future) q = next 0 (set_future q future None)
instr_means p c less next (Get to future) q =
    with_value (future_at q.futures future) (λ v. with_number v (λ n. next 0 (set_number q to n)))
instr_means p c less next (Again target waits priority) q = behind waits q.futures (adding (counted 0 1) (less (enter p q target)))
instr_means p c less next (Done value) q = gives (Number (operand q.numbers value))

-- what follows at a place where these lines are left, of which the first `skip` are passed over
abbrev pub lines_mean : Program → Columns → (Place → Meant) → List Line → ℕ → Place → Meant
lines_mean p c less [] skip q = nothing
lines_mean p c less (line ∷ more) (suc skip) q = lines_mean p c less more skip q
lines_mean p c less (line ∷ more) zero q = instr_means p c less (lines_mean p c less more) line.instr q

-- what follows from a place to the end of its task
abbrev pub rest : Program → Columns → ℕ → Place → Meant
rest p c zero q = nothing
rest p c (suc n) q = lines_mean p c (rest p c n) (code_at p q.kind q.state) q.at q

-- what a call means
abbrev pub mean : Program → Columns → ℕ → Call → Meant
mean p c n call = adding (counted 1 1) (rest p c n (entry p call))

-- some fuel gives the value, or the counts, from a place
abbrev pub Gives : Program → Columns → Place → Value → Type 0
Gives p c q v = (n : ℕ) × ((rest p c n q).value ≡ Some v)

abbrev pub GivesCounts : Program → Columns → Place → Counts → Type 0
GivesCounts p c q counts = (n : ℕ) × ((rest p c n q).counts ≡ Some counts)

-- some fuel gives the value, or the counts, of a call
abbrev pub CallGives : Program → Columns → Call → Value → Type 0
CallGives p c call v = (n : ℕ) × ((mean p c n call).value ≡ Some v)

abbrev pub CallCounts : Program → Columns → Call → Counts → Type 0
CallCounts p c call counts = (n : ℕ) × ((mean p c n call).counts ≡ Some counts)
