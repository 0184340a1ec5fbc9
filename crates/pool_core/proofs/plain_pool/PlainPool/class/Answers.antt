use Rattle.std.proofs.Common.{◌<◌, length, sym, subst, arith}
use Rattle.pool_core.specs.Pool.{PoolState}
use Rattle.pool_core.proofs.Sound.{kept_read}
use Rattle.pool_core.proofs.plain_pool.PlainPool.class.Goals as goal

pub returns-clause-fits : goal.returns-clause-fits
returns-clause-fits c =
    let within = subst (λ (p : PoolState). c.args.superblock < length p.superblocks) (sym c.self.view_is) c.requires in
    let kept = kept_read c.self.inside.geometry.units c.self.inside.superblocks.items c.args.superblock c.index.result.now c.self.invariant.0 within c.index.ensures in
    omega (arith, c.class.ensures, kept.class_fits)
