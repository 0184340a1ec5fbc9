-- What comes of one line.
use Rattle.std.proofs.Common.{◌≡◌, ℕ, ◌+◌, List, refl, sym, ap, subst}
use Rattle.task_syntax.specs.declared.value.Value.{Value}
use Rattle.task_syntax.specs.declared.value.Value.TheVariants.{Number}
use Rattle.task_syntax.specs.declared.program.Kind.{Kind}
use Rattle.task_meaning.specs.Frame.{set_number}
use Rattle.task_meaning.specs.Acts.{Steps}
use Rattle.frame_code.specs.Line.{IsPut, standing}
use Rattle.frame_code.specs.declared.line.Step.TheVariants.{Goes}

-- a number is set, and the task goes on
pub put-goes : (kind : Kind) (v : Value) (at to n : ℕ) (old new : List ℕ) → v ≡ Number n → standing kind new (at + 1) ≡ set_number (standing kind old at) to n
    → IsPut kind v at to old (Goes (at + 1)) new
put-goes kind v at to n old new e s = subst (λ u. IsPut kind u at to old (Goes (at + 1)) new) (sym e) (refl, ap Steps (sym s))
