use Rattle.std.proofs.Common.{◌<◌, length, sym, subst, arith}
use Rattle.pool_core.specs.Pool.{PoolState}
use Rattle.pool_core.proofs.Units.{capacity_fills}
use Rattle.pool_core.proofs.Sound.{kept_read}
use Rattle.pool_core.proofs.plain_pool.PlainPool.word.Goals as goal

pub returns-clause-fits : goal.returns-clause-fits
returns-clause-fits c =
    let within = subst (λ (p : PoolState). c.args.superblock < length p.superblocks) (sym c.self.view_is) c.requires in
    let kept = kept_read c.self.inside.geometry.units c.self.inside.superblocks.items c.args.superblock c.index.result.now c.self.invariant.0 within c.index.ensures in
    let few = capacity_fills c.self.inside.geometry.units c.index.result.now.class c.self.invariant.0.unit_count kept.class_fits in
    rw c.word.ensures (record { count_fits = omega (arith, kept.within, few.2, few.4); class_fits = kept.class_fits; ever_fits = kept.ever_fits })
