use Rattle.std.proofs.Common.{◌≤◌, length}
use Rattle.plain_state.specs.Laws.{root_after}
use Rattle.plain_engine.specs.Roots.{ArgumentsHaveTasks, IsPassedTo}
use Rattle.std.proofs.Common.{IfSome, sym, ◌∙◌, ap, subst}
use Rattle.record_core.specs.Numbers.{HasTask}
use Rattle.plain_state.specs.declared.record.Behind.{Behind}
use Rattle.plain_state.specs.Store.{HasUnit}
use Rattle.plain_state.specs.Moves.{behind_at}
use Rattle.plain_engine.proofs.StepLaws.{root_may_be_asked}
use Rattle.plain_engine.proofs.RootFacts.{known_after, known_within}
use Rattle.frame_code.specs.Entries.{IsEntryOf, MayEnterWith}
use Rattle.plain_engine.proofs.RootEntered.{may_enter}
use Rattle.plain_state.specs.Engine.{EngineState}
use Rattle.plain_engine.specs.Asking.{IsAnswer}
use Rattle.plain_engine.proofs.SpawnedRoot.{may_arrive, may_make, root_has_task}
use Rattle.plain_engine.proofs.RefusedRoot.{root_is_refused}
use Rattle.plain_engine.proofs.RootArguments.{arguments_have, behind_known, few_arguments, kind_fits}
use Rattle.plain_engine.proofs.engine.Engine.spawn_root.Goals as goal

-- src/roots.rt:58:13
pub class_of-class-requires : goal.class_of-class-requires
class_of-class-requires c = kind_fits c.args.checked.now c.args.self.now c.args.root.now c.requires.asked

-- src/roots.rt:59:13
pub behind-behind-requires : goal.behind-behind-requires
behind-behind-requires c = subst (λ unit. IfSome unit (HasUnit c.args.self.now.store)) (sym c.unit_behind.ensures) (known_within c.args.self.now (root_after c.args.self.now.roots c.args.root.now) (behind_known c.args.checked.now c.args.self.now c.args.root.now c.requires.asked))

-- src/roots.rt:60:15
pub ask-requires-clause-after : goal.ask-requires-clause-after
ask-requires-clause-after c = subst (λ (b : Behind). IfSome b.task (HasTask c.args.self.now.journal.rows)) (sym (c.behind-behind.ensures ∙ ap (behind_at c.args.self.now.store) c.unit_behind.ensures)) (known_after c.args.self.now (root_after c.args.self.now.roots c.args.root.now) (behind_known c.args.checked.now c.args.self.now c.args.root.now c.requires.asked))

-- src/roots.rt:60:15
pub ask-requires-clause-null : goal.ask-requires-clause-null
ask-requires-clause-null c = λ full. (root_may_be_asked c.args.checked.now c.requires.asked.plan c.args.self.now (length c.args.self.now.roots) c.args.root.now c.requires.asked.may c.requires.asked.asked c.requires.asked.there).0

-- src/roots.rt:62:30
pub passed_to-passed-requires-clause-tasks : goal.passed_to-passed-requires-clause-tasks
passed_to-passed-requires-clause-tasks c =
    let given = subst (λ answer. IsAnswer c.args.self.now c.class_of-class.result c.behind-behind.result.task answer c.ask.new.self) c.in-Given.is c.ask.ensures in
    subst (λ (e : EngineState). ArgumentsHaveTasks e.roots c.args.root.now) (sym given.after_is) (arguments_have c.args.checked.now c.args.self.now c.args.root.now c.requires.asked c.requires.tasks)

-- src/roots.rt:62:30
pub passed_to-passed-requires-clause-few : goal.passed_to-passed-requires-clause-few
passed_to-passed-requires-clause-few c = few_arguments c.args.checked.now c.args.self.now c.args.root.now c.requires.asked

-- src/roots.rt:63:29
pub entry_frame-requires-clause-kind : goal.entry_frame-requires-clause-kind
entry_frame-requires-clause-kind c = kind_fits c.args.checked.now c.args.self.now c.args.root.now c.requires.asked

-- src/roots.rt:63:29
pub entry_frame-requires-clause-passed : goal.entry_frame-requires-clause-passed
entry_frame-requires-clause-passed c =
    let given = subst (λ answer. IsAnswer c.args.self.now c.class_of-class.result c.behind-behind.result.task answer c.ask.new.self) c.in-Given.is c.ask.ensures in
    let passes : IsPassedTo c.args.self.now.roots c.args.root.now c.passed_to-passed.result.items
    = subst (λ (e : EngineState). IsPassedTo e.roots c.args.root.now c.passed_to-passed.result.items) given.after_is c.passed_to-passed.ensures in
    let few : length c.args.self.now.store.records ≤ 524288 = subst (λ (e : EngineState). length e.store.records ≤ 524288) c.self.view_is c.keeps.ensures.units in
    subst (MayEnterWith c.args.checked.now c.args.root.now.kind) (sym c.as_slice.ensures.value)
    (may_enter c.args.checked.now c.args.self.now c.args.root.now c.requires.asked c.requires.tasks c.passed_to-passed.result.items passes few)

-- src/roots.rt:65:17
pub make-requires-clause-may : goal.make-requires-clause-may
make-requires-clause-may c =
    let given = subst (λ answer. IsAnswer c.args.self.now c.class_of-class.result c.behind-behind.result.task answer c.ask.new.self) c.in-Given.is c.ask.ensures in
    let passes : IsPassedTo c.args.self.now.roots c.args.root.now c.passed_to-passed.result.items
    = subst (λ (e : EngineState). IsPassedTo e.roots c.args.root.now c.passed_to-passed.result.items) given.after_is c.passed_to-passed.ensures in
    let enters : IsEntryOf c.args.checked.now c.args.root.now.kind c.passed_to-passed.result.items c.entry_frame.new.frame.items
    = subst (λ items. IsEntryOf c.args.checked.now c.args.root.now.kind items c.entry_frame.new.frame.items) c.as_slice.ensures.value c.entry_frame.ensures.entry in
    may_make c.args.checked.now c.args.self.now c.args.root.now c.requires.asked c.requires.tasks c.class_of-class.result c.class_of-class.ensures
    c.behind-behind.result (c.behind-behind.ensures ∙ ap (behind_at c.args.self.now.store) c.unit_behind.ensures) c.in-Given.block c.in-Given.number c.ask.new.self given c.passed_to-passed.result.items passes
    c.entry_frame.new.frame.items c.entry_frame.ensures.frame enters

-- src/roots.rt:66:17
pub arrive-requires : goal.arrive-requires
arrive-requires c =
    let given = subst (λ answer. IsAnswer c.args.self.now c.class_of-class.result c.behind-behind.result.task answer c.ask.new.self) c.in-Given.is c.ask.ensures in
    let passes : IsPassedTo c.args.self.now.roots c.args.root.now c.passed_to-passed.result.items
    = subst (λ (e : EngineState). IsPassedTo e.roots c.args.root.now c.passed_to-passed.result.items) given.after_is c.passed_to-passed.ensures in
    let enters : IsEntryOf c.args.checked.now c.args.root.now.kind c.passed_to-passed.result.items c.entry_frame.new.frame.items
    = subst (λ items. IsEntryOf c.args.checked.now c.args.root.now.kind items c.entry_frame.new.frame.items) c.as_slice.ensures.value c.entry_frame.ensures.entry in
    may_arrive c.args.checked.now c.args.self.now c.args.root.now c.requires.asked c.requires.tasks c.class_of-class.result c.class_of-class.ensures
    c.behind-behind.result (c.behind-behind.ensures ∙ ap (behind_at c.args.self.now.store) c.unit_behind.ensures) c.in-Given.block c.in-Given.number c.ask.new.self given c.passed_to-passed.result.items passes
    c.entry_frame.new.frame.items c.entry_frame.ensures.frame enters c.make.new.self c.make.ensures c.unit-unit.result c.unit-unit.ensures

-- src/roots.rt:52:5
pub returns-in-Given : goal.returns-in-Given
returns-in-Given c =
    let given = subst (λ answer. IsAnswer c.args.self.now c.class_of-class.result c.behind-behind.result.task answer c.ask.new.self) c.in-Given.is c.ask.ensures in
    let passes : IsPassedTo c.args.self.now.roots c.args.root.now c.passed_to-passed.result.items
    = subst (λ (e : EngineState). IsPassedTo e.roots c.args.root.now c.passed_to-passed.result.items) given.after_is c.passed_to-passed.ensures in
    let enters : IsEntryOf c.args.checked.now c.args.root.now.kind c.passed_to-passed.result.items c.entry_frame.new.frame.items
    = subst (λ items. IsEntryOf c.args.checked.now c.args.root.now.kind items c.entry_frame.new.frame.items) c.as_slice.ensures.value c.entry_frame.ensures.entry in
    root_has_task c.args.checked.now c.args.self.now c.args.root.now c.requires.asked c.requires.tasks c.class_of-class.result c.class_of-class.ensures
    c.behind-behind.result (c.behind-behind.ensures ∙ ap (behind_at c.args.self.now.store) c.unit_behind.ensures) c.in-Given.block c.in-Given.number c.ask.new.self given c.passed_to-passed.result.items passes
    c.entry_frame.new.frame.items c.entry_frame.ensures.frame enters c.make.new.self c.make.ensures c.unit-unit.result c.unit-unit.ensures c.arrive.new.self c.arrive.ensures

-- src/roots.rt:52:5
pub returns-in-Refused : goal.returns-in-Refused
returns-in-Refused c =
    root_is_refused c.args.checked.now c.args.self.now c.ask.new.self c.args.root.now c.class_of-class.result c.in-Refused.tag c.class_of-class.ensures c.requires.tasks
    (subst (λ answer. IsAnswer c.args.self.now c.class_of-class.result c.behind-behind.result.task answer c.ask.new.self) c.in-Refused.is c.ask.ensures)
