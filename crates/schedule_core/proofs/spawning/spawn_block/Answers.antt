use Rattle.std.proofs.Common.{◌≡◌, refl, subst, sym}
use Rattle.std.specs.Prelude.{IfSome, ◌<◌, ◌^◌}
use Rattle.task_syntax.specs.Form.{IsWellFormed}
use Rattle.task_syntax.specs.Valid.{IsValid}
use Rattle.task_syntax.specs.declared.program.Program.{Program}
use Rattle.frame_code.specs.Words.{body_of}
use Rattle.frame_code.specs.declared.act.SpawnRequest.{SpawnRequest}
use Rattle.table_core.specs.declared.setup.Setup.{Setup}
use Rattle.table_core.specs.declared.view.View.{View}
use Rattle.step_table.specs.declared.tokens.Block.{Block}
use Rattle.step_table.specs.Passes.{view}
use Rattle.schedule_core.specs.Spawning.{MaySpawnBlock, named_if}
use Rattle.schedule_core.specs.declared.running.Running.{Running}
use Rattle.schedule_core.specs.declared.new_tasks.Given.TheVariants as given
use Rattle.schedule_core.specs.declared.new_tasks.NewTask.{NewTask}
use Rattle.schedule_core.proofs.SpawnBlocks.{behind-small, made-spawned, may-enter_block, wants-spawn}
use Rattle.schedule_core.proofs.SpawnRequests.{IsSpawnable, spawnable-in}
use Rattle.schedule_core.proofs.spawning.spawn_block.Goals as goal

-- what follows of the request
facts : (g : Setup) (x : Running) (request : SpawnRequest) (b : Block) (v : View) (program : Program) → program ≡ g.checked → IsWellFormed program → IsValid program → MaySpawnBlock g x request b v
    → IsSpawnable program request (body_of program x.frame.items)
facts g x request b v program same formed valid may = spawnable-in g x request may.base program same formed valid may.may

pub passed_by-requires-clause-kind : goal.passed_by-requires-clause-kind
passed_by-requires-clause-kind c = (facts c.args.shared.now.setup c.args.running.now c.args.request.now c.args.block (view c.args.pass.now) c.args.code.now c.requires.code c.program-program.ensures.formed c.program-program.ensures.valid c.requires.may).kind_fits

pub passed_by-requires-clause-arguments : goal.passed_by-requires-clause-arguments
passed_by-requires-clause-arguments c = (facts c.args.shared.now.setup c.args.running.now c.args.request.now c.args.block (view c.args.pass.now) c.args.code.now c.requires.code c.program-program.ensures.formed c.program-program.ensures.valid c.requires.may).passes

pub entry_frame-requires-clause-kind : goal.entry_frame-requires-clause-kind
entry_frame-requires-clause-kind c = (facts c.args.shared.now.setup c.args.running.now c.args.request.now c.args.block (view c.args.pass.now) c.args.code.now c.requires.code c.program-program.ensures.formed c.program-program.ensures.valid c.requires.may).kind_fits

pub unit_of-requires-clause-sort : goal.unit_of-requires-clause-sort
unit_of-requires-clause-sort c = (facts c.args.shared.now.setup c.args.running.now c.args.request.now c.args.block (view c.args.pass.now) c.args.code.now c.requires.code c.program-program.ensures.formed c.program-program.ensures.valid c.requires.may).behind

pub entry_frame-requires-clause-passed : goal.entry_frame-requires-clause-passed
entry_frame-requires-clause-passed c =
    may-enter_block c.args.shared.now.setup c.args.running.now c.args.request.now c.args.block (view c.args.pass.now) c.args.code.now c.passed_by.new.passed c.as_slice.result.now c.requires.may c.requires.code
    c.program-program.ensures.formed c.program-program.ensures.valid c.passed_by.ensures.passed c.passed_by.ensures.agrees c.as_slice.ensures

pub unit_of-requires-clause-small : goal.unit_of-requires-clause-small
unit_of-requires-clause-small c =
    subst (λ (p : Program). IfSome (named_if p c.args.running.now.frame.items c.args.request.now.behind) (λ u. u < 2 ^ 32)) (sym c.requires.code)
    (behind-small c.args.shared.now.setup c.args.running.now c.args.request.now c.args.block (view c.args.pass.now) c.requires.may)

pub make_in_block-requires : goal.make_in_block-requires
make_in_block-requires c =
    let may = c.requires.may in
    let new : NewTask = record { given = given.Call c.args.request.now.kind c.passed_by.new.passed; first = c.entry_frame.new.frame; behind = c.unit_of.result; to = c.args.request.now.to; priority = c.args.request.now.priority } in
    let wants = wants-spawn c.args.shared.now.setup c.args.running.now c.args.request.now may.base c.args.code.now c.passed_by.new.passed c.unit_of.result new may.may c.requires.code
    c.passed_by.ensures.passed c.unit_of.ensures c.as_slice.result.now c.program-program.ensures.formed c.program-program.ensures.valid c.passed_by.ensures.agrees c.as_slice.ensures c.entry_frame.ensures.frame c.entry_frame.ensures.entry in
    (c.requires.table, (c.requires.code, (refl, (record { base = may.base; wants = wants; gives = may.gives; later = may.later }, c.requires.room))))

pub returns-clause-spawned : goal.returns-clause-spawned
returns-clause-spawned c base may gives later =
    let new : NewTask = record { given = given.Call c.args.request.now.kind c.passed_by.new.passed; first = c.entry_frame.new.frame; behind = c.unit_of.result; to = c.args.request.now.to; priority = c.args.request.now.priority } in
    let wants = wants-spawn c.args.shared.now.setup c.args.running.now c.args.request.now base c.args.code.now c.passed_by.new.passed c.unit_of.result new may c.requires.code
    c.passed_by.ensures.passed c.unit_of.ensures c.as_slice.result.now c.program-program.ensures.formed c.program-program.ensures.valid c.passed_by.ensures.agrees c.as_slice.ensures c.entry_frame.ensures.frame c.entry_frame.ensures.entry in
    let told = c.make_in_block.ensures.made base wants gives later in (
      made-spawned c.args.shared.now.setup c.args.running.now c.args.request.now base c.args.code.now c.passed_by.new.passed c.unit_of.result new may c.requires.code c.passed_by.ensures.passed c.unit_of.ensures
          wants c.make_in_block.result (view c.make_in_block.new.pass) told.0,
      told.1,
    )
