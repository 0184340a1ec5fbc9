-- What asking for a root does to the list of roots, and when the roots that a root names have tasks.
use Rattle.std.proofs.Common.{◌≡◌, ℕ, ◌+◌, ◌<◌, Option, Some, None, List, [], ◌∷◌, ◌++◌, length, IfSome, refl, sym, ◌∙◌, ap, subst, arith}
use Rattle.std.proofs.lemmas.Option.{slice_get_within}
use Rattle.task_syntax.specs.declared.program.Program.{Program}
use Rattle.task_syntax.specs.declared.program.Root.{Root as RootLine}
use Rattle.record_core.specs.EndSeen.{RunPlan}
use Rattle.record_core.specs.Numbers.{HasTask}
use Rattle.plain_state.specs.declared.record.Outcome.{Outcome}
use Rattle.plain_state.specs.declared.record.RootState.{RootState}
use Rattle.plain_state.specs.Store.{HasUnit}
use Rattle.plain_state.specs.Engine.{EngineState, null_counted_if, with_root}
use Rattle.plain_state.specs.Moves.{behind_at, behind_ended, behind_record}
use Rattle.plain_state.specs.Laws.{AsksRoot, skips, has_null, has_limit, has_task}
use Rattle.plain_engine.specs.Asking.{IsKnown}
use Rattle.plain_engine.specs.Roots.{MayAskRoot, RootIs}

pub snoc_length : {A : Type 0} (xs : List A) (x : A) → length (xs ++ x ∷ []) ≡ length xs + 1
snoc_length [] x = refl
snoc_length (y ∷ xs) x = omega (arith, snoc_length xs x)

-- to count a null answer leaves the roots
null_roots : (kept : Option ℕ) (class : ℕ) (e : EngineState) → (null_counted_if kept class e).roots ≡ e.roots
null_roots None class e = refl
null_roots (Some k) class e = refl

-- one more root was asked for
pub asked_more : (p : Program) (plan : RunPlan) (e : EngineState) (line : RootLine) (s : EngineState) → AsksRoot p plan e line s → length s.roots ≡ length e.roots + 1
asked_more p plan e line s (skips at tag is) = snoc_length e.roots _
asked_more p plan e line s (has_null none full) = snoc_length _ _ ∙ ap (λ roots. length roots + 1) (null_roots e.evidence_class _ e)
asked_more p plan e line s (has_limit block pool none gives full) = snoc_length e.roots _
asked_more p plan e line s (has_task block pool first none gives left frame says) = snoc_length e.roots _

-- before it is added, the roots are those that were there
pub still_many : (p : Program) (plan : RunPlan) (old new : EngineState) (line : RootLine) (state : RootState) → RootIs p old line new state → length new.roots ≡ length old.roots
still_many p plan old new line state is = omega (arith, asked_more p plan old line (with_root new state) (is plan), snoc_length new.roots state)

-- fewer than 16 roots were asked for
pub few_roots : (p : Program) (e : EngineState) (line : RootLine) → MayAskRoot p e line → length e.roots < 16
few_roots p e line may = omega (arith, slice_get_within p.roots (length e.roots) line may.there, may.may.formed.roots_fit)

-- what it is behind has a record
pub known_within : (e : EngineState) (unit : Option ℕ) → IsKnown e unit → IfSome unit (HasUnit e.store)
known_within e None known = known
known_within e (Some unit) (known, there, task) = slice_get_within e.store.records unit known there

task_behind : (P : ℕ → Type 0) (task unit : ℕ) (outcome : Option Outcome) → P task → IfSome (behind_ended task unit outcome).task P
task_behind P task unit None holds = holds
task_behind P task unit (Some outcome) holds = holds

-- and its task was accepted
pub known_after : (e : EngineState) (unit : Option ℕ) → IsKnown e unit → IfSome (behind_at e.store unit).task (HasTask e.journal.rows)
known_after e None known = known
known_after e (Some unit) (known, there, task) =
    subst (λ found. IfSome (behind_record unit found).task (HasTask e.journal.rows)) (sym there) (task_behind (HasTask e.journal.rows) known.task unit known.outcome task)
