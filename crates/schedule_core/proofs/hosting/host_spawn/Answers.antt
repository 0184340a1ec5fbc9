use Rattle.std.proofs.Common.{◌∙◌, refl, ap}
use Rattle.task_syntax.specs.declared.program.Program.{Program}
use Rattle.step_table.specs.Passes.{view}
use Rattle.schedule_core.proofs.RootBlocks.{read-next, read-roots, may-skip_read, skips-read, hosts-read}
use Rattle.schedule_core.proofs.hosting.host_spawn.Goals as goal

pub missing_root-requires-clause-roots : goal.missing_root-requires-clause-roots
missing_root-requires-clause-roots g c = let may = c.requires.may in
    read-roots c.args.shared.now.setup c.args.code.now c.args.root (view c.args.pass.now) c.as_slice.result.now c.index-as_slice-root.result c.requires.code c.program.ensures.formed
    (c.as_slice.ensures ∙ ap (λ (p : Program). p.roots) c.program.ensures.same) c.index-as_slice-root.is may.0 may.1 may.2

pub name-requires-clause-may : goal.name-requires-clause-may
name-requires-clause-may g c = let may = c.requires.may in
    may-skip_read c.args.shared.now.setup c.args.code.now c.args.root (view c.args.pass.now) c.as_slice.result.now c.index-as_slice-root.result c.requires.code c.program.ensures.formed
    (c.as_slice.ensures ∙ ap (λ (p : Program). p.roots) c.program.ensures.same) c.index-as_slice-root.is may.0 may.1 may.2 c.in-Some.missing (c.in-Some.ensures may.1 may.2.has_turn)

pub spawn_root-requires-clause-may : goal.spawn_root-requires-clause-may
spawn_root-requires-clause-may g c = let may = c.requires.may in record {
  asked = may.1;
  next = read-next c.args.shared.now.setup c.args.code.now c.args.root (view c.args.pass.now) c.as_slice.result.now c.index-as_slice-root.result c.requires.code c.program.ensures.formed
      (c.as_slice.ensures ∙ ap (λ (p : Program). p.roots) c.program.ensures.same) c.index-as_slice-root.is may.0 may.1 may.2;
  have = c.in-None.ensures may.1 may.2.has_turn;
}

pub returns-in-Some-clause-hosted : goal.returns-in-Some-clause-hosted
returns-in-Some-clause-hosted g c line asked next =
    skips-read c.args.shared.now.setup c.args.code.now c.args.root (view c.args.pass.now) c.as_slice.result.now c.index-as_slice-root.result c.requires.code c.program.ensures.formed
    (c.as_slice.ensures ∙ ap (λ (p : Program). p.roots) c.program.ensures.same) c.index-as_slice-root.is line asked next c.in-Some.missing c.args.pass.now c.name.new.pass refl (c.in-Some.ensures asked next.has_turn) c.name.ensures.view

pub returns-in-None-clause-hosted : goal.returns-in-None-clause-hosted
returns-in-None-clause-hosted g c line asked next =
    hosts-read c.args.shared.now.setup c.args.code.now c.args.root (view c.args.pass.now) c.as_slice.result.now c.index-as_slice-root.result c.requires.code c.program.ensures.formed
    (c.as_slice.ensures ∙ ap (λ (p : Program). p.roots) c.program.ensures.same) c.index-as_slice-root.is line asked next c.spawn_root.result (view c.spawn_root.new.pass)
    (c.spawn_root.ensures.hosted asked (read-next c.args.shared.now.setup c.args.code.now c.args.root (view c.args.pass.now) c.as_slice.result.now c.index-as_slice-root.result c.requires.code c.program.ensures.formed
    (c.as_slice.ensures ∙ ap (λ (p : Program). p.roots) c.program.ensures.same) c.index-as_slice-root.is line asked next) (c.in-None.ensures asked next.has_turn))
