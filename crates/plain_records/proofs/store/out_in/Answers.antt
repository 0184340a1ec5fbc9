use Rattle.plain_records.proofs.Outs.{counted_here, not_counted_here}
use Rattle.plain_records.proofs.store.out_in.Goals as goal

-- src/store.rt:125:1
pub returns-then-class-clause-count : goal.returns-then-class-clause-count
returns-then-class-clause-count c =
    counted_here c.args.pool.now c.args.class c.args.superblock c.class.result c.count.result c.requires c.class.ensures.class c.if-class.true c.count.ensures.count

-- src/store.rt:125:1
pub returns-else-class-clause-count : goal.returns-else-class-clause-count
returns-else-class-clause-count c = not_counted_here c.args.pool.now c.args.class c.args.superblock c.class.result c.requires c.class.ensures.class c.if-class.false
