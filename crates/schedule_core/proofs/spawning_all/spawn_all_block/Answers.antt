use Rattle.std.proofs.Common.{◌≡◌, ◌∙◌, ◌+◌, ◌<◌, ℕ, Some, List, length, arith, ap, refl, sym, subst}
use Rattle.std.specs.Prelude.{slice_get, slice_index}
use Rattle.record_core.specs.Counting.{At}
use Rattle.memory_pool.specs.Answers.{Gives}
use Rattle.task_syntax.specs.declared.program.Program.{Program}
use Rattle.frame_code.specs.Entries.{IsFrameOfMembers}
use Rattle.frame_code.specs.Units.{AreFutures, units_of as units_in}
use Rattle.frame_code.specs.Words.{body_of}
use Rattle.table_core.proofs.ReferenceBound.{units-few}
use Rattle.step_table.specs.Passes.{view, block_of}
use Rattle.schedule_core.specs.NewTasks.{group_class}
use Rattle.schedule_core.specs.declared.new_tasks.Given.TheVariants as given
use Rattle.schedule_core.specs.declared.new_tasks.NewTask.{NewTask}
use Rattle.schedule_core.proofs.AllBlocks.{its-formed, units-long, unit-near, wants-all, made-all, first-at}
use Rattle.schedule_core.proofs.spawning_all.spawn_all_block.Goals as goal

pub units_named-members-requires-clause-few : goal.units_named-members-requires-clause-few
units_named-members-requires-clause-few c =
    let may = c.requires.may in
    omega (arith, ap length c.as_slice.ensures, (its-formed c.args.shared.now.setup c.args.running.now c.args.request.now may.base c.args.code.now _ may.may c.requires.code c.program-program.ensures.formed c.program-program.ensures.valid refl).few)

pub units_named-members-requires-clause-futures : goal.units_named-members-requires-clause-futures
units_named-members-requires-clause-futures c =
    let may = c.requires.may in let x = c.args.running.now in
    subst (λ (p : Program). AreFutures p x.frame.items c.as_slice.result.now) (sym c.requires.code)
    (subst (AreFutures c.args.shared.now.setup.checked x.frame.items) (sym c.as_slice.ensures)
    (its-formed c.args.shared.now.setup x c.args.request.now may.base c.args.code.now _ may.may c.requires.code c.program-program.ensures.formed c.program-program.ensures.valid refl).members)

pub members_frame-requires-clause-some : goal.members_frame-requires-clause-some
members_frame-requires-clause-some c =
    let may = c.requires.may in let g = c.args.shared.now.setup in let x = c.args.running.now in let request = c.args.request.now in let q = c.args.code.now in let units = c.units_named-members.result in
    let are = c.units_named-members.ensures ∙ ap (λ (l : List ℕ). units_in (body_of q x.frame.items) l) c.as_slice.ensures in
    let formed = c.program-program.ensures.formed in let valid = c.program-program.ensures.valid in
    omega (
      arith,
      ap length c.as_slice-2.ensures,
      units-long g x request may.base q units may.may c.requires.code formed valid are,
      (its-formed g x request may.base q units may.may c.requires.code formed valid are).some,
    )

pub members_frame-requires-clause-few : goal.members_frame-requires-clause-few
members_frame-requires-clause-few c =
    let may = c.requires.may in let g = c.args.shared.now.setup in let x = c.args.running.now in let request = c.args.request.now in let q = c.args.code.now in let units = c.units_named-members.result in
    let are = c.units_named-members.ensures ∙ ap (λ (l : List ℕ). units_in (body_of q x.frame.items) l) c.as_slice.ensures in
    let formed = c.program-program.ensures.formed in let valid = c.program-program.ensures.valid in
    omega (
      arith,
      ap length c.as_slice-2.ensures,
      units-long g x request may.base q units may.may c.requires.code formed valid are,
      (its-formed g x request may.base q units may.may c.requires.code formed valid are).few,
    )

pub members_frame-requires-clause-units : goal.members_frame-requires-clause-units
members_frame-requires-clause-units c =
    let may = c.requires.may in let g = c.args.shared.now.setup in let x = c.args.running.now in let request = c.args.request.now in let q = c.args.code.now in let units = c.units_named-members.result in
    let are = c.units_named-members.ensures ∙ ap (λ (l : List ℕ). units_in (body_of q x.frame.items) l) c.as_slice.ensures in
    let formed = c.program-program.ensures.formed in let valid = c.program-program.ensures.valid in
    subst (λ (l : List ℕ). (k u : ℕ) → slice_get l k ≡ Some u → u + 1 < 18446744073709551616) (sym c.as_slice-2.ensures)
    (λ k u at. omega (arith, units-few g.plan, unit-near g x request may.base q units may.may c.requires.code formed valid are may.near k u at))

pub bounds-as_slice-0 : goal.bounds-as_slice-0
bounds-as_slice-0 c =
    let may = c.requires.may in let g = c.args.shared.now.setup in let x = c.args.running.now in let request = c.args.request.now in let q = c.args.code.now in let units = c.units_named-members.result in
    let are = c.units_named-members.ensures ∙ ap (λ (l : List ℕ). units_in (body_of q x.frame.items) l) c.as_slice.ensures in
    let formed = c.program-program.ensures.formed in let valid = c.program-program.ensures.valid in
    omega (
      arith,
      ap length c.as_slice-3.ensures,
      units-long g x request may.base q units may.may c.requires.code formed valid are,
      (its-formed g x request may.base q units may.may c.requires.code formed valid are).some,
    )

pub overflow_cast-behind : goal.overflow_cast-behind
overflow_cast-behind c =
    let may = c.requires.may in let g = c.args.shared.now.setup in let x = c.args.running.now in let request = c.args.request.now in let q = c.args.code.now in let units = c.units_named-members.result in
    let are = c.units_named-members.ensures ∙ ap (λ (l : List ℕ). units_in (body_of q x.frame.items) l) c.as_slice.ensures in
    let formed = c.program-program.ensures.formed in let valid = c.program-program.ensures.valid in
    let long = units-long g x request may.base q units may.may c.requires.code formed valid are in
    let some = (its-formed g x request may.base q units may.may c.requires.code formed valid are).some in
    omega (
      arith,
      units-few g.plan,
      ap (λ (l : List ℕ). slice_index l 0) c.as_slice-3.ensures,
      unit-near g x request may.base q units may.may c.requires.code formed valid are may.near 0 (slice_index units 0) (first-at units (omega (arith, some, long))),
    )

pub make_in_block-requires : goal.make_in_block-requires
make_in_block-requires c =
    let may = c.requires.may in let g = c.args.shared.now.setup in let x = c.args.running.now in let request = c.args.request.now in let q = c.args.code.now in let units = c.units_named-members.result in
    let are = c.units_named-members.ensures ∙ ap (λ (l : List ℕ). units_in (body_of q x.frame.items) l) c.as_slice.ensures in
    let formed = c.program-program.ensures.formed in let valid = c.program-program.ensures.valid in
    let long = units-long g x request may.base q units may.may c.requires.code formed valid are in
    let some = (its-formed g x request may.base q units may.may c.requires.code formed valid are).some in
    let first = slice_index c.as_slice-3.result.now 0 in
    let there = subst (λ (l : List ℕ). At units 0 (slice_index l 0)) (sym c.as_slice-3.ensures) (first-at units (omega (arith, some, long))) in
    let new : NewTask = record { given = given.Members units; first = c.members_frame.new.frame; behind = Some first; to = request.to; priority = request.priority } in
    let frame = subst (λ (l : List ℕ). IsFrameOfMembers l c.members_frame.new.frame.items) c.as_slice-2.ensures c.members_frame.ensures in
    let wants = wants-all g x request may.base q units may.may c.requires.code formed valid are first new there frame in
    (c.requires.table, (c.requires.code, (refl, (record { base = may.base; wants = wants; gives = subst (λ (n : ℕ). Gives g.plan (group_class n) may.base (block_of c.args.block) (view c.args.pass.now)) (sym long) may.gives; later = may.later }, c.requires.room))))

pub returns-clause-spawned : goal.returns-clause-spawned
returns-clause-spawned c base may' gives later =
    let g = c.args.shared.now.setup in let x = c.args.running.now in let request = c.args.request.now in let q = c.args.code.now in let units = c.units_named-members.result in
    let are = c.units_named-members.ensures ∙ ap (λ (l : List ℕ). units_in (body_of q x.frame.items) l) c.as_slice.ensures in
    let formed = c.program-program.ensures.formed in let valid = c.program-program.ensures.valid in
    let long = units-long g x request base q units may' c.requires.code formed valid are in
    let some = (its-formed g x request base q units may' c.requires.code formed valid are).some in
    let first = slice_index c.as_slice-3.result.now 0 in
    let there = subst (λ (l : List ℕ). At units 0 (slice_index l 0)) (sym c.as_slice-3.ensures) (first-at units (omega (arith, some, long))) in
    let new : NewTask = record { given = given.Members units; first = c.members_frame.new.frame; behind = Some first; to = request.to; priority = request.priority } in
    let frame = subst (λ (l : List ℕ). IsFrameOfMembers l c.members_frame.new.frame.items) c.as_slice-2.ensures c.members_frame.ensures in
    let wants = wants-all g x request base q units may' c.requires.code formed valid are first new there frame in
    let told = c.make_in_block.ensures.made base wants (subst (λ (n : ℕ). Gives g.plan (group_class n) base (block_of c.args.block) (view c.args.pass.now)) (sym long) gives) later in
    (made-all g x request base q units may' c.requires.code formed valid are first new there frame c.make_in_block.result (view c.make_in_block.new.pass) told.0, told.1)
