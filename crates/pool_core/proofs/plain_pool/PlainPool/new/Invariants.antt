use Rattle.std.proofs.Common.{◌≡◌, replicate}
use Rattle.pool_core.specs.Superblocks.{unused}
use Rattle.pool_core.proofs.plain_pool.PlainPool.new.Given as goal

abbrev pub invariant-loop-place : goal.invariant-loop-place
invariant-loop-place l = l.superblocks.items ≡ replicate l._place (unused l.geometry.units)
