use Rattle.std.proofs.Common.{sym, ◌∙◌, ap}
use Rattle.std.specs.List.{flat_map}
use Rattle.record_core.specs.RootEnds.{root_passed}
use Rattle.plain_state.specs.Laws.{first_without_task}
use Rattle.plain_engine.proofs.Lists.{first_of, first_behind}
use Rattle.plain_engine.proofs.engine.Engine.first_taskless.Goals as goal

-- src/roots.rt:143:13
pub returns-in-Some : goal.returns-in-Some
returns-in-Some c = first_of c.args.self.now.roots c.args.root.now c.in-Some.found
    (ap (λ arguments. first_without_task c.args.self.now.roots (flat_map root_passed arguments)) (sym c.as_slice.ensures) ∙ (sym c.first_passed.ensures ∙ c.in-Some.is))

-- src/roots.rt:139:5
pub returns : goal.returns
returns c = c.taskless.ensures ∙ first_behind c.args.self.now.roots c.args.root.now c.in_ok-root.field-0
    (ap (λ arguments. first_without_task c.args.self.now.roots (flat_map root_passed arguments)) (sym c.as_slice.ensures) ∙ (sym c.first_passed.ensures ∙ c.in_default.is)) c.in_ok-root.was
