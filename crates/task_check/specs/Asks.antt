-- The futures that a line names and asks something of, from left to right.
use Rattle.std.specs.Prelude.{ℕ, suc, Bool, true, cond, Option, Some, None, List, [], ◌∷◌, ◌++◌}
use Rattle.std.specs.Option.{option_to_list}
use Rattle.task_syntax.specs.Facts.{has}
use Rattle.task_syntax.specs.declared.instr.Argument.{Argument}
use Rattle.task_syntax.specs.declared.instr.Argument.TheVariants as argument
use Rattle.task_syntax.specs.declared.program.RootArgument.{RootArgument}
use Rattle.task_syntax.specs.declared.program.RootArgument.TheVariants as root_argument
use Rattle.task_syntax.specs.declared.instr.Instr.{Instr}
use Rattle.task_syntax.specs.declared.instr.Instr.TheVariants.{Spawn, All, Copy, Drop, Get, Again}

-- the future, or the root, that an argument passes
abbrev pub future_in : Argument → Option ℕ
future_in (argument.Number a) = None
future_in (argument.Future x) = Some x

abbrev pub root_in : RootArgument → Option ℕ
root_in (root_argument.Number n) = None
root_in (root_argument.Root r) = Some r

-- what the arguments at the picked positions pass, where the first of them has position `at`
abbrev pub passed : {A : Type 0} → (A → Option ℕ) → (ℕ → Bool) → ℕ → List A → List ℕ
passed future_of picks at [] = []
passed future_of picks at (a ∷ more) = option_to_list (cond (picks at) (future_of a) None) ++ passed future_of picks (suc at) more

-- what is passed for the arguments that an entry state settles
abbrev pub passed_settled : {A : Type 0} → (A → Option ℕ) → List ℕ → List A → List ℕ
passed_settled future_of settled arguments = passed future_of (λ at. has at settled) 0 arguments

-- the futures that are to be held
abbrev pub asks_held : Instr → List ℕ
asks_held (Spawn to callee arguments behind priority retry) = passed future_in (λ _. true) 0 arguments ++ option_to_list behind
asks_held (All to members priority retry) = members
asks_held (Copy to source) = source ∷ []
asks_held (Drop future) = future ∷ []
asks_held (Get to future) = future ∷ []
asks_held (Again target behind priority) = option_to_list behind
asks_held _ = []

-- the futures that are to be settled
abbrev pub asks_settled : Instr → List ℕ
asks_settled (Get to future) = future ∷ []
asks_settled _ = []
