use Rattle.std.specs.Prelude.{◌≤◌, ◌*◌}
use Rattle.step_table.specs.Passes.{view, IsSame}
use Rattle.worker_rows.specs.Left.{SeesBlocks}
use Rattle.worker_rows.proofs.ended.count_blocks.Given as goal

abbrev pub invariant-superblocks : goal.invariant-superblocks
invariant-superblocks l = IsSame l.fn.pass l.pass × SeesBlocks l.superblock l.blocks (view l.fn.pass) (view l.pass) × (l.blocks ≤ 65535 * l.superblock)
