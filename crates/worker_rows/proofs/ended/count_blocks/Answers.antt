use Rattle.std.proofs.Common.{ap, arith}
use Rattle.table_core.specs.declared.view.View.{View}
use Rattle.step_table.specs.Passes.{view}
use Rattle.worker_rows.proofs.LeadFacts.{same-then}
use Rattle.worker_rows.proofs.LeftFacts.{more-blocks}
use Rattle.worker_rows.proofs.ended.count_blocks.Goals as goal

pub superblocks-preserved : goal.superblocks-preserved
superblocks-preserved c =
    let now = c.look-word.new.pass in (
      same-then c.args.pass.now c.superblocks.pass now c.superblocks.invariant.0 c.look-word.ensures.pass,
      more-blocks c.superblocks.superblock c.superblocks.blocks c.from-blocks.result c.look-word.result (view c.args.pass.now) (view c.superblocks.pass) (view now) c.superblocks.invariant.1
          (ap (λ (v : View). v.seen) c.look-word.ensures.view) c.from-blocks.ensures,
      omega (arith, c.superblocks.invariant.2, c.from-blocks.ensures, c.look-word.ensures.word.count_fits),
    )
