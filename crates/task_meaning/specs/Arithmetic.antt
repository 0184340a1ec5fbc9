-- What the operations, the comparisons and the reads of columns give.
use Rattle.std.specs.Prelude.{ℕ, ◌+◌, ◌-◌, ◌*◌, ◌/◌, ◌%◌, ◌^◌, Bool, cond, not, nat_lt, nat_le, nat_eq, Option, Some, None, List, [], ◌∷◌, length, slice_get}
use Rattle.task_syntax.specs.Columns.{cell_of}
use Rattle.task_syntax.specs.declared.value.Value.{Value}
use Rattle.task_syntax.specs.declared.value.Value.TheVariants.{Number, Trapped}
use Rattle.task_syntax.specs.declared.value.Trap.{Trap}
use Rattle.task_syntax.specs.declared.value.Trap.TheVariants.{Overflow, Divide, NoRow}
use Rattle.task_syntax.specs.declared.instr.MathOp.{MathOp}
use Rattle.task_syntax.specs.declared.instr.MathOp.TheVariants.{Add, Sub, Mul, Div, Rem}
use Rattle.task_syntax.specs.declared.instr.Relation.{Relation}
use Rattle.task_syntax.specs.declared.instr.Relation.TheVariants.{Less, AtMost, Equal, Differs}
use Rattle.task_syntax.specs.declared.columns.Columns.{Columns}

-- the number, where it passes the test, else the trap
abbrev pub number_if : Bool → ℕ → Trap → Value
number_if fits n t = cond fits (Number n) (Trapped t)

-- an operation on two numbers; what is above the 64-bit numbers or below 0 overflows
abbrev pub computed : MathOp → ℕ → ℕ → Value
computed Add a b = number_if (nat_lt (a + b) (2 ^ 64)) (a + b) Overflow
computed Sub a b = number_if (nat_le b a) (a - b) Overflow
computed Mul a b = number_if (nat_lt (a * b) (2 ^ 64)) (a * b) Overflow
computed Div a b = number_if (not (nat_eq b 0)) (a / b) Divide
computed Rem a b = number_if (not (nat_eq b 0)) (a % b) Divide

-- the comparison holds
abbrev pub compares : Relation → ℕ → ℕ → Bool
compares Less a b = nat_lt a b
compares AtMost a b = nat_le a b
compares Equal a b = nat_eq a b
compares Differs a b = not (nat_eq a b)

abbrev pub number_or : Trap → Option ℕ → Value
number_or t None = Trapped t
number_or t (Some n) = Number n

-- the cell of a column in a row, counted from 0
abbrev pub cell_at : Columns → List ℕ → ℕ → Value
cell_at c name row = number_or NoRow (cell_of c name row)
