-- A root that is refused a block or a number.
use Rattle.std.proofs.Common.{◌≡◌, ℕ, sym, subst}
use Rattle.task_syntax.specs.declared.program.Program.{Program}
use Rattle.task_syntax.specs.declared.program.Root.{Root as RootLine}
use Rattle.record_core.specs.EndSeen.{RunPlan}
use Rattle.record_core.specs.EndSound.{kind_class}
use Rattle.record_core.specs.declared.rows.CutTag.{CutTag}
use Rattle.record_core.specs.declared.rows.CutTag.TheVariants.{Null, Limit}
use Rattle.plain_state.specs.declared.record.RootState.TheVariants as root
use Rattle.plain_state.specs.Engine.{EngineState, with_root}
use Rattle.plain_state.specs.Laws.{AsksRoot, has_limit, has_null}
use Rattle.plain_engine.specs.Asking.{IsRefused}
use Rattle.plain_engine.specs.Roots.{NamesTasks}

refused_class : (p : Program) (e new : EngineState) (line : RootLine) (tag : CutTag) → NamesTasks e line → IsRefused e (kind_class p line.kind) tag new → (plan : RunPlan)
    → AsksRoot p plan e line (with_root new (root.Refused tag))
refused_class p e new line Null none (full, is) plan = subst (λ s. AsksRoot p plan e line (with_root s (root.Refused Null))) (sym is) (has_null none full)
refused_class p e new line Limit none limit plan =
    subst (λ s. AsksRoot p plan e line (with_root s (root.Refused Limit))) (sym limit.after_is) (has_limit limit.block limit.pool none limit.gives limit.none)

-- this comes of asking for it
pub root_is_refused : (p : Program) (e new : EngineState) (line : RootLine) (class : ℕ) (tag : CutTag) → class ≡ kind_class p line.kind → NamesTasks e line → IsRefused e class tag new → (plan : RunPlan)
    → AsksRoot p plan e line (with_root new (root.Refused tag))
root_is_refused p e new line class tag class_is none refused plan = refused_class p e new line tag none (subst (λ k. IsRefused e k tag new) class_is refused) plan
