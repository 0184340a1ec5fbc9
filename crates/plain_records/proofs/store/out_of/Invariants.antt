use Rattle.std.proofs.Common.{◌≡◌, ◌*◌, ◌≤◌, length}
use Rattle.plain_records.specs.Allocated.{out_before}
use Rattle.plain_records.proofs.store.out_of.Given as goal

abbrev pub invariant-superblocks : goal.invariant-superblocks
invariant-superblocks l = (l.out ≡ out_before l.pool l.class l.superblock) × (l.out ≤ 512 * l.superblock) × (length l.pool.superblocks ≤ 1024)
