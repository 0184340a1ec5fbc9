use Rattle.std.proofs.Common.{◌≡◌, map, take}
use Rattle.task_syntax.specs.declared.program.Kind.{Kind}
use Rattle.frame_code.specs.Code.{layout_of}
use Rattle.frame_code.proofs.code.layouts_of.Given as goal

abbrev pub invariant-kinds : goal.invariant-kinds
invariant-kinds l = l.layouts.items ≡ map (λ (kind : Kind). layout_of kind.variables) (take l.kind-index l.kinds)
