-- More fuel gives the same value and the same counts.
use Rattle.std.specs.Prelude.{ℕ, zero, suc, ◌+◌, ◌-◌, ◌≤◌, Bool, true, false, cond, Option, None, List, [], ◌∷◌, map, length}
use Rattle.std.proofs.Common.{arith}
use Rattle.task_syntax.specs.declared.value.Value.{Value}
use Rattle.task_syntax.specs.declared.value.Value.TheVariants.{Number}
use Rattle.task_syntax.specs.declared.instr.Instr.{Instr}
use Rattle.task_syntax.specs.declared.instr.Instr.TheVariants.{Set, Math, If, Goto, Label, Cell, Rows, Spawn, All, Copy, Drop, Get, Again, Done}
use Rattle.task_syntax.specs.declared.instr.Line.{Line}
use Rattle.task_syntax.specs.declared.program.Program.{Program}
use Rattle.task_syntax.specs.declared.columns.Columns.{Columns}
use Rattle.task_meaning.specs.Meant.{Meant, counted, gives, adding, future_at}
use Rattle.task_meaning.specs.Frame.{Place, Call, code_at, holds_at, variables_of, padded, entry, operand, spawned, number_passed}
use Rattle.task_meaning.specs.Arithmetic.{computed, compares, cell_at}
use Rattle.task_meaning.specs.Meaning.{child_of, aggregate_of, instr_means, lines_mean, rest, mean}
use Rattle.task_meaning.proofs.Grows.{AllStay, AllStay-refl, AllStay-at, AllStay-set, AllStay-padded, AllStay-kept_from, AllStay-passed, Within, Within-refl, Within-nothing, Within-adding, Within-counted, Within-with_value, Within-with_number, Within-behind, Within-behind_all, place_of, Grows}

cond_within : (b : Bool) (m more x y : Meant) → Within m more → Within x y → Within (cond b m x) (cond b more y)
cond_within true m more x y h k = h
cond_within false m more x y h k = k

-- a call grows with its arguments
pub entry-grows : (p : Program) (less less' : Place → Meant) → Grows less less' → (kind : ℕ) (numbers : List ℕ) (fs gs : List (Option Value)) → AllStay fs gs
    → Within (less (entry p (record { kind = kind; numbers = numbers; futures = fs }))) (less' (entry p (record { kind = kind; numbers = numbers; futures = gs })))
entry-grows p less less' grows kind numbers fs gs h =
    grows kind 0 0 (padded (variables_of p kind) 0 numbers) _ _
    (AllStay-kept_from 0 (holds_at p kind 0) _ _ (AllStay-padded (variables_of p kind) None fs gs h))

instr-grows : (p : Program) (c : Columns) (less less' : Place → Meant) (next next' : ℕ → Place → Meant)
    → Grows less less' → ((skip : ℕ) → Grows (next skip) (next' skip)) → (instr : Instr) → Grows (instr_means p c less next instr) (instr_means p c less' next' instr)
instr-grows p c less less' next next' grows nexts (Set to value) kind state at numbers fs gs h = nexts 0 _ _ _ _ fs gs h
instr-grows p c less less' next next' grows nexts (Math op to left right) kind state at numbers fs gs h =
    Within-with_number (computed op (operand numbers left) (operand numbers right)) _ _ (λ n. nexts 0 _ _ _ _ fs gs h)
instr-grows p c less less' next next' grows nexts (If relation left right target) kind state at numbers fs gs h =
    cond_within (compares relation (operand numbers left) (operand numbers right)) _ _ _ _ (nexts (target - (at + 1)) _ _ _ _ fs gs h) (nexts 0 _ _ _ _ fs gs h)
instr-grows p c less less' next next' grows nexts (Goto target) kind state at numbers fs gs h = nexts (target - (at + 1)) _ _ _ _ fs gs h
instr-grows p c less less' next next' grows nexts (Label name) kind state at numbers fs gs h = nexts 0 _ _ _ _ fs gs h
instr-grows p c less less' next next' grows nexts (Cell to column row) kind state at numbers fs gs h =
    Within-with_number (cell_at c column (operand numbers row)) _ _ (λ n. nexts 0 _ _ _ _ fs gs h)
instr-grows p c less less' next next' grows nexts (Rows to column) kind state at numbers fs gs h = nexts 0 _ _ _ _ fs gs h
instr-grows p c less less' next next' grows nexts (Spawn to callee arguments waits priority retry) kind state at numbers fs gs h =
    let child : Within (child_of p less waits (spawned (place_of kind state at numbers fs) callee arguments) fs)
    (child_of p less' waits (spawned (place_of kind state at numbers gs) callee arguments) gs)
    = Within-behind waits fs gs _ _ h (Within-counted 1 1 _ _
    (entry-grows p less less' grows callee (map (number_passed numbers) arguments) _ _ (AllStay-passed fs gs arguments h))) in
    Within-adding _ _ _ _ child.counts (nexts 0 _ _ _ _ _ _ (AllStay-set fs gs to _ _ h child.value))
instr-grows p c less less' next next' grows nexts (All to members priority retry) kind state at numbers fs gs h =
    let child : Within (aggregate_of members fs) (aggregate_of members gs)
    = Within-behind_all members fs gs _ _ h (Within-refl (adding (counted 1 (length members)) (gives (Number 0)))) in
    Within-adding _ _ _ _ child.counts (nexts 0 _ _ _ _ _ _ (AllStay-set fs gs to _ _ h child.value))
instr-grows p c less less' next next' grows nexts (Copy to source) kind state at numbers fs gs h =
    nexts 0 _ _ _ _ _ _ (AllStay-set fs gs to _ _ h (AllStay-at fs gs source h))
instr-grows p c less less' next next' grows nexts (Drop future) kind state at numbers fs gs h =
    nexts 0 _ _ _ _ _ _ (AllStay-set fs gs future None None h tt)
instr-grows p c less less' next next' grows nexts (Get to future) kind state at numbers fs gs h =
    Within-with_value (future_at fs future) (future_at gs future) _ _ (AllStay-at fs gs future h)
    (λ v. Within-with_number v _ _ (λ n. nexts 0 _ _ _ _ fs gs h))
instr-grows p c less less' next next' grows nexts (Again target waits priority) kind state at numbers fs gs h =
    Within-behind waits fs gs _ _ h (Within-counted 0 1 _ _ (grows kind target 0 numbers _ _ (AllStay-kept_from 0 (holds_at p kind target) fs gs h)))
instr-grows p c less less' next next' grows nexts (Done value) kind state at numbers fs gs h = Within-refl _

lines-grow : (p : Program) (c : Columns) (less less' : Place → Meant) → Grows less less'
    → (lines : List Line) (skip : ℕ) → Grows (lines_mean p c less lines skip) (lines_mean p c less' lines skip)
lines-grow p c less less' grows [] skip kind state at numbers fs gs h = Within-nothing _
lines-grow p c less less' grows (line ∷ more) (suc skip) kind state at numbers fs gs h = lines-grow p c less less' grows more skip kind state at numbers fs gs h
lines-grow p c less less' grows (line ∷ more) zero kind state at numbers fs gs h =
    instr-grows p c less less' (lines_mean p c less more) (lines_mean p c less' more) grows (lines-grow p c less less' grows more) line.instr kind state at numbers fs gs h

-- more fuel, and more futures with values, keep what a place gives
pub rest-grows : (p : Program) (c : Columns) (n m : ℕ) → n ≤ m → Grows (rest p c n) (rest p c m)
rest-grows p c zero m e kind state at numbers fs gs h = Within-nothing _
rest-grows p c (suc n) zero e kind state at numbers fs gs h = absurd (omega (arith, e))
rest-grows p c (suc n) (suc m) e kind state at numbers fs gs h =
    lines-grow p c (rest p c n) (rest p c m) (rest-grows p c n m (omega (arith, e))) (code_at p kind state) at kind state at numbers fs gs h

-- more fuel keeps what a place gives
pub rest-within : (p : Program) (c : Columns) (n m : ℕ) (q : Place) → n ≤ m → Within (rest p c n q) (rest p c m q)
rest-within p c n m q e = rest-grows p c n m e q.kind q.state q.at q.numbers q.futures q.futures (AllStay-refl q.futures)

-- more fuel keeps what a call gives
pub mean-within : (p : Program) (c : Columns) (n m : ℕ) (call : Call) → n ≤ m → Within (mean p c n call) (mean p c m call)
mean-within p c n m call e = Within-counted 1 1 _ _ (rest-within p c n m (entry p call) e)
