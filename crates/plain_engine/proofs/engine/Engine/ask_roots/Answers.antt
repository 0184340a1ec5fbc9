use Rattle.std.proofs.Common.{◌≡◌, ◌+◌, Some, List, refl, ◌∙◌, ap, subst}
use Rattle.std.proofs.lemmas.Option.{slice_get_read}
use Rattle.std.specs.Prelude.{slice_get, length}
use Rattle.task_syntax.specs.declared.program.Root.{Root as RootLine}
use Rattle.plain_engine.proofs.StepLaws.{root_is_asked}
use Rattle.plain_engine.proofs.engine.Engine.ask_roots.Goals as goal

-- src/run.rt:21:9
pub roots-preserved : goal.roots-preserved
roots-preserved c =
    let items = c.as_slice-root-items.result.now in
    let there : slice_get c.args.checked.now.roots c.roots.root-index ≡ Some c.root-item.result
    = subst (λ (lines : List RootLine). slice_get lines c.roots.root-index ≡ Some c.root-item.result) c.roots.invariant.all
    (slice_get_read items (length items) c.roots.root-index c.root-item.result refl c.roots-test.true c.root-item.is) in
    record {
      all = c.roots.invariant.all;
      so_many = c.ask_root.ensures.more ∙ ap (λ n. n + 1) c.roots.invariant.so_many;
      now = let (plan, may, asked) = c.roots.invariant.now in
          (plan, may, root_is_asked c.args.checked.now plan c.roots.self c.ask_root.new.self c.roots.root-index c.root-item.result may asked there (c.ask_root.ensures.asked plan));
      then = λ plan may first. root_is_asked c.args.checked.now plan c.roots.self c.ask_root.new.self c.roots.root-index c.root-item.result may (c.roots.invariant.then plan may first) there (c.ask_root.ensures.asked plan);
    }
