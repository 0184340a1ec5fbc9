use Rattle.std.proofs.Common.{None, ◌∙◌, arith}
use Rattle.plain_records.proofs.Blocks.{blocks_length, blocks_set, kept_out, kept_without}
use Rattle.plain_records.proofs.references.give_back.Goals as goal

pub index-kept-requires : goal.index-kept-requires
index-kept-requires c = omega (arith, c.requires.within, blocks_length c.args.classes.now.items, c.args.classes.now.ok.0)

pub index_mut-requires : goal.index_mut-requires
index_mut-requires c = omega (arith, c.requires.within, blocks_length c.args.classes.now.items, c.args.classes.now.ok.0)

pub release_kept-requires : goal.release_kept-requires
release_kept-requires c = kept_out c.args.pool.now c.args.classes.now.items c.args.unit c.index-kept.result.now c.requires c.index-kept.ensures

pub returns-clause-pool : goal.returns-clause-pool
returns-clause-pool c = c.release_kept.ensures ∙ kept_without c.args.pool.now c.args.classes.now.items c.args.unit c.index-kept.result.now c.requires.within c.index-kept.ensures

pub returns-clause-blocks : goal.returns-clause-blocks
returns-clause-blocks c = blocks_set c.args.classes.now.items c.args.unit None
