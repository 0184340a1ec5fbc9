-- The programs of the families are valid.
use Rattle.std.proofs.Common.{◌≡◌, ℕ, true, Some, zero, suc, [], ◌∷◌, slice_get, refl, sym, subst}
use Rattle.std.specs.List.{list_all}
use Rattle.task_syntax.specs.Places.{Each}
use Rattle.task_syntax.specs.Valid.{IsValid, IsSoundKind, IsSoundRoot, IsBehind, sort_of_root}
use Rattle.task_syntax.specs.declared.program.RootArgument.TheVariants.{Number}
use Rattle.task_syntax.specs.declared.program.Kind.{Kind}
use Rattle.task_syntax.specs.declared.program.Root.{Root}
use Rattle.task_syntax.specs.declared.program.Program.{Program}
use Rattle.bench_programs.specs.declared.family.Family.{Family}
use Rattle.bench_programs.specs.declared.family.Family.TheVariants.{Fib, Grid, Chain}
use Rattle.bench_programs.specs.Programs.{family_program, fib_program, grid_program, chain_program, fib_kind, grid_kind, chain_kind, root_on}
use Rattle.bench_programs.proofs.ListTests.{each-from}
use Rattle.bench_programs.proofs.ValidTests.{kind_sound, kind-sound, agrees, agrees-from, settles_nothing, settles-nothing}

-- a program of sound kinds with one root, which passes its kind what that takes
one-root : (p : Program) (root : Root) (kind : Kind) → p.roots ≡ root ∷ [] → slice_get p.kinds root.kind ≡ Some kind
    → agrees sort_of_root kind root.arguments ≡ true → settles_nothing kind ≡ true → list_all (kind_sound p) p.kinds ≡ true → IsValid p
one-root p root kind only known agreed nothing sound = record {
  kinds = each-from (kind_sound p) (IsSoundKind p) p.kinds (kind-sound p) sound;
  roots = subst (λ roots. Each roots (IsSoundRoot p)) (sym only) first;
} where
  root-sound : IsSoundRoot p root
  root-sound = record {
    agrees = λ k e. let same : kind ≡ k = cc in
        agrees-from sort_of_root k root.arguments (subst (λ of. agrees sort_of_root of root.arguments ≡ true) same agreed);
    settled = λ k e. let same : kind ≡ k = cc in
        settles-nothing k root.arguments (IsBehind root.behind) (subst (λ of. settles_nothing of ≡ true) same nothing);
  }

  first : Each (root ∷ []) (IsSoundRoot p)
  first zero x e = let same : root ≡ x = cc in subst (IsSoundRoot p) same root-sound
  first (suc at) x e = cc

-- for each number the program is valid
pub family-valid : (family : Family) (n : ℕ) → IsValid (family_program family n)
family-valid Fib n = one-root (fib_program n) (root_on 20 0 (Number n ∷ [])) fib_kind refl refl refl refl refl
family-valid Grid n = one-root (grid_program n) (root_on 25 0 (Number n ∷ [])) grid_kind refl refl refl refl refl
family-valid Chain n = one-root (chain_program n) (root_on 20 1 (Number n ∷ Number 0 ∷ [])) chain_kind refl refl refl refl refl
