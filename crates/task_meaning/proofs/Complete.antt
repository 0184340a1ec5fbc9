-- Where counts are given, a value is.
use Rattle.std.specs.Prelude.{◌≡◌, ℕ, zero, suc, ◌+◌, Bool, true, false, cond, Option, Some, None, List, [], ◌∷◌, length}
use Rattle.std.proofs.Common.{refl}
use Rattle.task_syntax.specs.declared.value.Value.{Value}
use Rattle.task_syntax.specs.declared.value.Value.TheVariants.{Number, Trapped}
use Rattle.task_syntax.specs.declared.instr.Instr.{Instr}
use Rattle.task_syntax.specs.declared.instr.Instr.TheVariants.{Set, Math, If, Goto, Label, Cell, Rows, Spawn, All, Copy, Drop, Get, Again, Done}
use Rattle.task_syntax.specs.declared.instr.Line.{Line}
use Rattle.task_syntax.specs.declared.program.Program.{Program}
use Rattle.task_syntax.specs.declared.columns.Columns.{Columns}
use Rattle.task_meaning.specs.Meant.{Counts, Meant, counted, plus, nothing, gives, adding, with_value, with_number, future_at, behind, behind_all}
use Rattle.task_meaning.specs.Frame.{Place, Call, code_at, entry, enter, set_future, operand, spawned}
use Rattle.task_meaning.specs.Arithmetic.{computed, compares, cell_at}
use Rattle.task_meaning.specs.Meaning.{child_of, aggregate_of, instr_means, lines_mean, rest, mean}

-- where counts are given, a value is
abbrev pub IsComplete : Meant → Type 0
IsComplete m = (k : Counts) → m.counts ≡ Some k → (v : Value) × (m.value ≡ Some v)

-- nothing is complete
pub complete-nothing : IsComplete nothing
complete-nothing k e = absurd (cc e)

-- a value at once is complete
pub complete-gives : (v : Value) → IsComplete (gives v)
complete-gives v k e = (v, refl)

-- both parts of a sum are given where the sum is
pub plus_given : (a b : Option Counts) (k : Counts) → plus a b ≡ Some k
    → (i : Counts) × (j : Counts) × (a ≡ Some i) × (b ≡ Some j) × (k ≡ record { tasks = i.tasks + j.tasks; activations = i.activations + j.activations })
plus_given None b k e = absurd (cc e)
plus_given (Some i) None k e = absurd (cc e)
plus_given (Some i) (Some j) k e = (i, j, refl, refl, cc e)

-- more counts leave it complete
pub complete-adding : (more : Option Counts) (m : Meant) → IsComplete m → IsComplete (adding more m)
complete-adding more m h k e = let (i, j, a, b, s) = plus_given more m.counts k e in h j b

complete_with_value : (o : Option Value) (go : Value → Meant) → ((v : Value) → IsComplete (go v)) → IsComplete (with_value o go)
complete_with_value None go h = complete-nothing
complete_with_value (Some v) go h = h v

complete_with_number : (v : Value) (go : ℕ → Meant) → ((n : ℕ) → IsComplete (go n)) → IsComplete (with_number v go)
complete_with_number (Number n) go h = h n
complete_with_number (Trapped t) go h = complete-gives (Trapped t)

-- what is complete is so behind a future
pub complete-behind : (waits : Option ℕ) (futures : List (Option Value)) (m : Meant) → IsComplete m → IsComplete (behind waits futures m)
complete-behind None futures m h = h
complete-behind (Some x) futures m h = complete_with_value (future_at futures x) (λ v. m) (λ v. h)

-- what is complete is so behind several futures
pub complete-behind_all : (members : List ℕ) (futures : List (Option Value)) (m : Meant) → IsComplete m → IsComplete (behind_all members futures m)
complete-behind_all [] futures m h = h
complete-behind_all (x ∷ more) futures m h = complete-behind (Some x) futures (behind_all more futures m) (complete-behind_all more futures m h)

complete_cond : (b : Bool) (m more : Meant) → IsComplete m → IsComplete more → IsComplete (cond b m more)
complete_cond true m more h k = h
complete_cond false m more h k = k

complete_instr : (p : Program) (c : Columns) (less : Place → Meant) (next : ℕ → Place → Meant)
    → ((q : Place) → IsComplete (less q)) → ((skip : ℕ) (q : Place) → IsComplete (next skip q)) → (instr : Instr) (q : Place) → IsComplete (instr_means p c less next instr q)
complete_instr p c less next l h (Set to value) q = h 0 _
complete_instr p c less next l h (Math op to left right) q = complete_with_number (computed op (operand q.numbers left) (operand q.numbers right)) _ (λ n. h 0 _)
complete_instr p c less next l h (If relation left right target) q = complete_cond (compares relation (operand q.numbers left) (operand q.numbers right)) _ _ (h _ _) (h _ _)
complete_instr p c less next l h (Goto target) q = h _ _
complete_instr p c less next l h (Label name) q = h 0 _
complete_instr p c less next l h (Cell to column row) q = complete_with_number (cell_at c column (operand q.numbers row)) _ (λ n. h 0 _)
complete_instr p c less next l h (Rows to column) q = h 0 _
complete_instr p c less next l h (Spawn to kind arguments waits priority retry) q =
    let child : Meant = child_of p less waits (spawned q kind arguments) q.futures in
    complete-adding child.counts (next 0 (set_future q to child.value)) (h 0 _)
complete_instr p c less next l h (All to members priority retry) q =
    let child : Meant = aggregate_of members q.futures in
    complete-adding child.counts (next 0 (set_future q to child.value)) (h 0 _)
complete_instr p c less next l h (Copy to source) q = h 0 _
complete_instr p c less next l h (Drop future) q = h 0 _
complete_instr p c less next l h (Get to future) q = complete_with_value (future_at q.futures future) _ (λ v. complete_with_number v _ (λ n. h 0 _))
complete_instr p c less next l h (Again target waits priority) q =
    complete-behind waits q.futures (adding (counted 0 1) (less (enter p q target))) (complete-adding (counted 0 1) (less (enter p q target)) (l _))
complete_instr p c less next l h (Done value) q = complete-gives _

complete_lines : (p : Program) (c : Columns) (less : Place → Meant) → ((q : Place) → IsComplete (less q))
    → (lines : List Line) (skip : ℕ) (q : Place) → IsComplete (lines_mean p c less lines skip q)
complete_lines p c less l [] skip q = complete-nothing
complete_lines p c less l (line ∷ more) (suc skip) q = complete_lines p c less l more skip q
complete_lines p c less l (line ∷ more) zero q = complete_instr p c less (lines_mean p c less more) l (complete_lines p c less l more) line.instr q

-- what follows from a place is complete
pub complete-rest : (p : Program) (c : Columns) (n : ℕ) (q : Place) → IsComplete (rest p c n q)
complete-rest p c zero q = complete-nothing
complete-rest p c (suc n) q = complete_lines p c (rest p c n) (complete-rest p c n) (code_at p q.kind q.state) q.at q

-- what a call means is complete
pub complete-mean : (p : Program) (c : Columns) (n : ℕ) (call : Call) → IsComplete (mean p c n call)
complete-mean p c n call = complete-adding (counted 1 1) (rest p c n (entry p call)) (complete-rest p c n (entry p call))

-- what the child of a spawn means is complete
pub complete-child : (p : Program) (c : Columns) (n : ℕ) (waits : Option ℕ) (call : Call) (futures : List (Option Value)) → IsComplete (child_of p (rest p c n) waits call futures)
complete-child p c n waits call futures = complete-behind waits futures (mean p c n call) (complete-mean p c n call)

-- what an aggregate means is complete
pub complete-aggregate : (members : List ℕ) (futures : List (Option Value)) → IsComplete (aggregate_of members futures)
complete-aggregate members futures =
    let one : Meant = adding (counted 1 (length members)) (gives (Number 0)) in
    complete-behind_all members futures one (complete-adding (counted 1 (length members)) (gives (Number 0)) (complete-gives (Number 0)))
