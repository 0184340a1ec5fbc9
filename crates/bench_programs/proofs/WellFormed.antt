-- The programs of the families are well formed.
use Rattle.std.proofs.Common.{◌≡◌, ℕ, ◌<◌, ◌^◌, ◌≤◌, zero, suc, List, length, refl, [], ◌∷◌, arith, subst}
use Rattle.task_syntax.specs.Form.{IsWellFormed, IsFormedRoot, IsFormedRootArgument}
use Rattle.task_syntax.specs.Places.{Each, EachAt}
use Rattle.task_syntax.specs.declared.program.Program.{Program}
use Rattle.task_syntax.specs.declared.program.RootArgument.{RootArgument}
use Rattle.task_syntax.specs.declared.program.RootArgument.TheVariants.{Number}
use Rattle.task_syntax.specs.declared.program.Root.{Root}
use Rattle.task_syntax.proofs.Differ.{each-nil, each-cons}
use Rattle.bench_programs.specs.declared.family.Family.{Family}
use Rattle.bench_programs.specs.declared.family.Family.TheVariants.{Fib, Grid, Chain}
use Rattle.bench_programs.specs.Programs.{family_program, fib_program, grid_program, chain_program, root_on}
use Rattle.bench_programs.proofs.FormedTests.{program-formed}

-- a program with one root has it at the first place
only-root : (P : ℕ → Root → Type 0) (root : Root) → P 0 root → EachAt (root ∷ []) P
only-root P root p zero x e = let same : root ≡ x = cc in subst (P 0) same p
only-root P root p (suc at) x e = cc

-- numbers that fit 64 bits are well-formed arguments of a root
one-number : (n : ℕ) → n < 2 ^ 64 → Each (Number n ∷ []) (IsFormedRootArgument 0)
one-number n small = each-cons (IsFormedRootArgument 0) (Number n) [] small (each-nil (IsFormedRootArgument 0))

two-numbers : (n m : ℕ) → n < 2 ^ 64 → m < 2 ^ 64 → Each (Number n ∷ Number m ∷ []) (IsFormedRootArgument 0)
two-numbers n m small fits = each-cons (IsFormedRootArgument 0) (Number n) (Number m ∷ []) small (one-number m fits)

-- a root without predecessor is well formed, where its kind is there and its arguments are well formed
root-formed : (p : Program) (line kind : ℕ) (arguments : List RootArgument) → kind < length p.kinds → length arguments ≤ 16
    → Each arguments (IsFormedRootArgument 0) → EachAt (root_on line kind arguments ∷ []) (IsFormedRoot p)
root-formed p line kind arguments known few formed = only-root (IsFormedRoot p) (root_on line kind arguments)
    (record { name = refl; kind = known; arguments_fit = few; arguments = formed; behind = tt })

-- for each number that fits 64 bits the program is well formed
pub family-formed : (family : Family) (n : ℕ) → n < 2 ^ 64 → IsWellFormed (family_program family n)
family-formed Fib n small = program-formed (fib_program n) refl
    (root-formed (fib_program n) 20 0 (Number n ∷ []) (omega arith) (omega arith) (one-number n small))
family-formed Grid n small = program-formed (grid_program n) refl
    (root-formed (grid_program n) 25 0 (Number n ∷ []) (omega arith) (omega arith) (one-number n small))
family-formed Chain n small = program-formed (chain_program n) refl
    (root-formed (chain_program n) 20 1 (Number n ∷ Number 0 ∷ []) (omega arith) (omega arith) (two-numbers n 0 small (omega arith)))
