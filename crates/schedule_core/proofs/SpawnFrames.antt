-- What is passed to a new task is held by its spawner, and the first frame names nothing else.
use Rattle.std.proofs.Common.{◌≡◌, ◌∙◌, inl, inr, ℕ, zero, suc, ◌+◌, ◌<◌, ◌^◌, Bool, true, false, cond, Option, Some, None, List, [], ◌∷◌, map, length, sym, ap, subst, arith}
use Rattle.std.specs.Prelude.{IfSome, replicate, slice_get}
use Rattle.std.proofs.lemmas.Option.{none-some}
use Rattle.record_core.specs.Counting.{At, Has}
use Rattle.record_core.proofs.TotalFacts.{none_there}
use Rattle.task_syntax.specs.Facts.{has}
use Rattle.task_syntax.specs.Form.{IsWellFormed}
use Rattle.task_syntax.specs.declared.instr.Argument.{Argument}
use Rattle.task_syntax.specs.declared.instr.Argument.TheVariants as argument
use Rattle.task_syntax.specs.declared.program.Variable.{Variable}
use Rattle.task_syntax.specs.declared.program.Program.{Program}
use Rattle.task_meaning.specs.Frame.{CallOf, variables_of, holds_at, padded, kept_from, future_passed, entry}
use Rattle.task_meaning.specs.Meant.{future_at}
use Rattle.frame_code.specs.Entries.{future_of, BodyMaySpawn, BodyPasses, AgreesWith, MayEnterWith}
use Rattle.frame_code.specs.Names.{present, names_of}
use Rattle.frame_code.specs.Words.{BodyOf, OfKind, OfMembers, variables_at, variable_list}
use Rattle.frame_code.specs.declared.act.SpawnRequest.{SpawnRequest}
use Rattle.frame_code.specs.declared.entries.Passed.{Passed}
use Rattle.frame_code.specs.declared.entries.Passed.TheVariants as passed
use Rattle.frame_code.proofs.HeldActs.{item-within}
use Rattle.table_core.proofs.ListFacts.{map_at, at_map, append_cases, same_some}

-- what options have is one of them
pub present-some : (os : List (Option ℕ)) (w : ℕ) → Has w (present os) → Has (Some w) os
present-some [] w there = absurd (none_there w there.1)
present-some (None ∷ os) w there = let t = present-some os w there in (suc t.0, t.1)
present-some (Some x ∷ os) w (zero, at) = (0, ap (λ (y : ℕ). Some (Some y)) (same_some x w at))
present-some (Some x ∷ os) w (suc k, at) = let t = present-some os w (k, at) in (suc t.0, t.1)

-- and what one of them has, they have
pub some-present : (os : List (Option ℕ)) (w : ℕ) → Has (Some w) os → Has w (present os)
some-present [] w there = absurd (none_there (Some w) there.1)
some-present (None ∷ os) w (zero, at) = absurd (none-some w (same_some None (Some w) at))
some-present (None ∷ os) w (suc k, at) = some-present os w (k, at)
some-present (Some x ∷ os) w (zero, at) = (0, same_some (Some x) (Some w) at)
some-present (Some x ∷ os) w (suc k, at) = let t = some-present os w (k, at) in (suc t.0, t.1)

-- what a variable names is one of the options
pub future-some : (fs : List (Option ℕ)) (x w : ℕ) → future_at fs x ≡ Some w → Has (Some w) fs
future-some [] x w is = absurd (none-some w is)
future-some (f ∷ fs) zero w is = (0, ap (λ (o : Option ℕ). Some o) is)
future-some (f ∷ fs) (suc x) w is = let t = future-some fs x w is in (suc t.0, t.1)

-- what is kept was there
kept-some : (at : ℕ) (held : List ℕ) (fs : List (Option ℕ)) (w : ℕ) → Has (Some w) (kept_from at held fs) → Has (Some w) fs
kept-some at held [] w there = absurd (none_there (Some w) there.1)
kept-some at held (f ∷ fs) w (zero, here) = by (has at held) (same_some (cond (has at held) f None) (Some w) here)
  where
    by : (b : Bool) → cond b f None ≡ Some w → Has (Some w) (f ∷ fs)
    by true is = (0, ap (λ (o : Option ℕ). Some o) is)
    by false is = absurd (none-some w is)
kept-some at held (f ∷ fs) w (suc k, there) = let t = kept-some (at + 1) held fs w (k, there) in (suc t.0, t.1)

abbrev no_unit : Option ℕ
no_unit = None

-- nothing is named where options without anything were added
none-added : (n w : ℕ) → Has (Some w) (replicate n no_unit) → ⊥
none-added zero w there = none_there (Some w) there.1
none-added (suc n) w (zero, at) = none-some w (same_some None (Some w) at)
none-added (suc n) w (suc k, at) = none-added n w (k, at)

-- what the first frame of a call names was passed in the call
pub entry-names : (p : Program) (call : CallOf ℕ) (w : ℕ) → Has w (names_of (OfKind (entry p call))) → Has (Some w) call.futures
entry-names p call w there =
    let t = kept-some 0 (holds_at p call.kind 0) (padded (variables_of p call.kind) None call.futures) w (present-some _ w there) in
    elim (append_cases call.futures _ t.0 (Some w) t.1) [
      | inl here ↦ here
      | inr none ↦ absurd (none-added _ w none)
    ]

-- what is passed to a new task is named by the frame of its spawner
pub passed-named : (p : Program) (request : SpawnRequest) (b : BodyOf ℕ) (given : List Passed) → BodyMaySpawn p request b → BodyPasses p request b given
    → (k u : ℕ) → At (map future_of given) k (Some u) → Has u (names_of b)
passed-named p request (OfMembers units next) given may passes k u there = absurd may
passed-named p request (OfKind q) given may passes k u there =
    let at = map_at (future_passed q.futures) may.0 k (Some u) (subst (λ (l : List (Option ℕ)). At l k (Some u)) (passes may.0 may.1).1 there) in by at.0 at.2
  where
    by : (a : Argument) → future_passed q.futures a ≡ Some u → Has u (present q.futures)
    by (argument.Number n) is = absurd (none-some u is)
    by (argument.Future x) is = some-present q.futures u (future-some q.futures x u is)

-- it may enter its kind
pub may-enter : (p : Program) (kind : ℕ) (given : List Passed) → IsWellFormed p → kind < length p.kinds → AgreesWith p kind given
    → ((k u : ℕ) → At (map future_of given) k (Some u) → u + 1 < 2 ^ 64) → MayEnterWith p kind given
may-enter p kind given formed fits agrees small =
    let there = item-within p.kinds kind fits in
    let are : variables_at p kind ≡ there.0.variables = ap variable_list there.1 in
    let agree = agrees there.0 there.1 in
    record {
      few = omega (arith, agree.0, (formed.kinds kind there.0 there.1).arguments_are_variables, ap length are);
      sorts = λ at a v there_a there_v. agree.1 at a v there_a (ap (λ (vs : List Variable). slice_get vs at) (sym are) ∙ there_v);
      units = λ at a there_a. by at a there_a;
    }
  where
    by : (at : ℕ) (a : Passed) → slice_get given at ≡ Some a → IfSome (future_of a) (λ unit. unit + 1 < 2 ^ 64)
    by at (passed.Number n) there = tt
    by at (passed.Future u) there = small at u (at_map future_of given at (passed.Future u) there)
