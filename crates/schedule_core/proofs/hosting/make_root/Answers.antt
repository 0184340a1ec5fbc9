use Rattle.std.proofs.Common.{◌∙◌, List, refl, subst, arith}
use Rattle.frame_code.specs.Entries.{IsEntryOf}
use Rattle.frame_code.specs.declared.entries.Passed.{Passed}
use Rattle.step_table.specs.Passes.{view}
use Rattle.schedule_core.specs.SeenTasks.{unit_behind}
use Rattle.schedule_core.proofs.HostedRoots.{one-few}
use Rattle.schedule_core.proofs.HostedTasks.{arguments-few, kind-within, arguments-have, behind-have, given-few, given-enters, may-place_task, may-drop_passed, may-drop_behind, hosts-task}
use Rattle.schedule_core.proofs.hosting.make_root.Goals as goal

pub pass_roots-passed-requires-clause-few : goal.pass_roots-passed-requires-clause-few
pass_roots-passed-requires-clause-few c =
    arguments-few c.args.shared.now.setup c.args.code.now c.args.root c.args.line.now c.requires.code c.program-program.ensures.formed c.program-program.ensures.valid c.requires.may.next.is_line c.as_slice.result.now c.as_slice.ensures

pub pass_roots-passed-requires-clause-named : goal.pass_roots-passed-requires-clause-named
pass_roots-passed-requires-clause-named c = let may = c.requires.may in
    arguments-have c.args.shared.now.setup c.args.code.now c.args.root c.args.line.now c.args.made (view c.args.pass.now) may.base may.asked may.next may.have may.begun c.requires.code c.program-program.ensures.formed c.program-program.ensures.valid c.as_slice.result.now c.as_slice.ensures

pub take_behind-behind-requires-clause-named : goal.take_behind-behind-requires-clause-named
take_behind-behind-requires-clause-named c = let may = c.requires.may in
    behind-have c.args.shared.now.setup c.args.code.now c.args.root c.args.line.now c.args.made (view c.args.pass.now) may.base may.asked may.next may.have may.begun c.requires.code c.program-program.ensures.formed c.program-program.ensures.valid c.as_slice.result.now c.as_slice.ensures c.pass_roots-passed.result.items (view c.pass_roots-passed.new.pass) c.pass_roots-passed.ensures.passed

pub take_behind-behind-requires-clause-room : goal.take_behind-behind-requires-clause-room
take_behind-behind-requires-clause-room c = let may = c.requires.may in
    let few = given-few c.args.shared.now.setup c.args.code.now c.args.root c.args.line.now c.args.made (view c.args.pass.now) may.base may.asked may.next may.have may.begun c.requires.code c.program-program.ensures.formed c.program-program.ensures.valid c.as_slice.result.now c.as_slice.ensures c.pass_roots-passed.result.items (view c.pass_roots-passed.new.pass) c.pass_roots-passed.ensures.passed in
    omega (arith, few, c.pass_roots-passed.ensures.pass.held_is, c.requires.room)

pub entry_frame-requires-clause-kind : goal.entry_frame-requires-clause-kind
entry_frame-requires-clause-kind c =
    kind-within c.args.shared.now.setup c.args.code.now c.args.root c.args.line.now c.requires.code c.program-program.ensures.formed c.program-program.ensures.valid c.requires.may.next.is_line

pub entry_frame-requires-clause-passed : goal.entry_frame-requires-clause-passed
entry_frame-requires-clause-passed c = let may = c.requires.may in
    given-enters c.args.shared.now.setup c.args.code.now c.args.root c.args.line.now c.args.made (view c.args.pass.now) may.base may.asked may.next may.have may.begun c.requires.code c.program-program.ensures.formed c.program-program.ensures.valid c.as_slice.result.now c.as_slice.ensures c.pass_roots-passed.result.items (view c.pass_roots-passed.new.pass) c.pass_roots-passed.ensures.passed c.as_slice-2.result.now c.as_slice-2.ensures.value

pub place_root-told-requires : goal.place_root-told-requires
place_root-told-requires c = let may = c.requires.may in
    let few = given-few c.args.shared.now.setup c.args.code.now c.args.root c.args.line.now c.args.made (view c.args.pass.now) may.base may.asked may.next may.have may.begun c.requires.code c.program-program.ensures.formed c.program-program.ensures.valid c.as_slice.result.now c.as_slice.ensures c.pass_roots-passed.result.items (view c.pass_roots-passed.new.pass) c.pass_roots-passed.ensures.passed in (
      c.take_behind-behind.ensures.pass.table ∙ c.pass_roots-passed.ensures.pass.table ∙ c.requires.table,
      (
        c.requires.code,
        (
          may-place_task c.args.shared.now.setup c.args.code.now c.args.root c.args.line.now c.args.made (view c.args.pass.now) may.base may.asked may.next may.have may.begun c.requires.code c.program-program.ensures.formed c.program-program.ensures.valid c.as_slice.result.now c.as_slice.ensures c.pass_roots-passed.result.items (view c.pass_roots-passed.new.pass) c.pass_roots-passed.ensures.passed (record { passed = c.pass_roots-passed.result; behind = c.take_behind-behind.result; first = c.entry_frame.new.frame }) (view c.take_behind-behind.new.pass) refl c.take_behind-behind.ensures.taken c.entry_frame.ensures.frame
              (subst (λ (l : List Passed). IsEntryOf c.args.code.now c.args.line.now.kind l c.entry_frame.new.frame.items) c.as_slice-2.ensures.value c.entry_frame.ensures.entry),
          omega (arith, few, one-few (unit_behind c.take_behind-behind.result), c.take_behind-behind.ensures.pass.held_is, c.pass_roots-passed.ensures.pass.held_is, c.requires.room),
        ),
      ),
    )

pub drop_passed-requires-clause-may : goal.drop_passed-requires-clause-may
drop_passed-requires-clause-may c = let may = c.requires.may in
    may-drop_passed c.args.shared.now.setup c.args.code.now c.args.root c.args.line.now c.args.made (view c.args.pass.now) may.base may.asked may.next may.have may.begun c.requires.code c.program-program.ensures.formed c.program-program.ensures.valid c.as_slice.result.now c.as_slice.ensures c.pass_roots-passed.result.items (view c.pass_roots-passed.new.pass) c.pass_roots-passed.ensures.passed (record { passed = c.pass_roots-passed.result; behind = c.take_behind-behind.result; first = c.entry_frame.new.frame }) (view c.take_behind-behind.new.pass) refl c.take_behind-behind.ensures.taken c.entry_frame.ensures.frame
    (subst (λ (l : List Passed). IsEntryOf c.args.code.now c.args.line.now.kind l c.entry_frame.new.frame.items) c.as_slice-2.ensures.value c.entry_frame.ensures.entry)
    c.place_root-told.result (view c.place_root-told.new.pass) c.place_root-told.ensures.placed c.as_slice-3.result.now c.as_slice-3.ensures.value

pub drop_behind-requires-clause-may : goal.drop_behind-requires-clause-may
drop_behind-requires-clause-may c = let may = c.requires.may in
    may-drop_behind c.args.shared.now.setup c.args.code.now c.args.root c.args.line.now c.args.made (view c.args.pass.now) may.base may.asked may.next may.have may.begun c.requires.code c.program-program.ensures.formed c.program-program.ensures.valid c.as_slice.result.now c.as_slice.ensures c.pass_roots-passed.result.items (view c.pass_roots-passed.new.pass) c.pass_roots-passed.ensures.passed (record { passed = c.pass_roots-passed.result; behind = c.take_behind-behind.result; first = c.entry_frame.new.frame }) (view c.take_behind-behind.new.pass) refl c.take_behind-behind.ensures.taken c.entry_frame.ensures.frame
    (subst (λ (l : List Passed). IsEntryOf c.args.code.now c.args.line.now.kind l c.entry_frame.new.frame.items) c.as_slice-2.ensures.value c.entry_frame.ensures.entry)
    c.place_root-told.result (view c.place_root-told.new.pass) c.place_root-told.ensures.placed c.as_slice-3.result.now c.as_slice-3.ensures.value (view c.drop_passed.new.pass) c.drop_passed.ensures.dropped

pub returns-clause-made : goal.returns-clause-made
returns-clause-made c base asked next have begun =
    hosts-task c.args.shared.now.setup c.args.code.now c.args.root c.args.line.now c.args.made (view c.args.pass.now) base asked next have begun c.requires.code c.program-program.ensures.formed c.program-program.ensures.valid c.as_slice.result.now c.as_slice.ensures c.pass_roots-passed.result.items (view c.pass_roots-passed.new.pass) c.pass_roots-passed.ensures.passed (record { passed = c.pass_roots-passed.result; behind = c.take_behind-behind.result; first = c.entry_frame.new.frame }) (view c.take_behind-behind.new.pass) refl c.take_behind-behind.ensures.taken c.entry_frame.ensures.frame
    (subst (λ (l : List Passed). IsEntryOf c.args.code.now c.args.line.now.kind l c.entry_frame.new.frame.items) c.as_slice-2.ensures.value c.entry_frame.ensures.entry)
    c.place_root-told.result (view c.place_root-told.new.pass) c.place_root-told.ensures.placed c.as_slice-3.result.now c.as_slice-3.ensures.value (view c.drop_passed.new.pass) c.drop_passed.ensures.dropped (view c.drop_behind.new.pass) c.drop_behind.ensures.dropped
