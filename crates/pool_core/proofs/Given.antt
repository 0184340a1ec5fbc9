-- A pool after a block was given: it is sound, and one more block is out.
use Rattle.std.proofs.Common.{ℕ, ◌<◌, ◌≤◌, sym, subst, arith}
use Rattle.claim_core.proofs.Counted.{le-set_count}
use Rattle.kt_words.specs.Capacity.{capacity}
use Rattle.pool_core.specs.Blocks.{BlockState}
use Rattle.pool_core.specs.Pool.{PoolState, IsSound, Gives, Adds, with_superblock}
use Rattle.pool_core.specs.Superblocks.{given}
use Rattle.pool_core.proofs.Giving.{IsReady, ready_at, IsSound-given}
use Rattle.pool_core.proofs.Out.{Adds-given}

module _ (old new : PoolState) (class : ℕ) (block : BlockState) (sound : IsSound old) (fits : class ≤ 3) (gives : Gives old class block new) where
  abbrev ready : IsReady old class gives.place gives.was
  ready = ready_at old class gives.place gives.was sound fits gives.chosen

  -- its bit is below the capacity, since all below it are set
  bit_below : gives.bit < capacity old.units class
  bit_below = omega (arith, le-set_count gives.was.set gives.bit gives.lowest.below, ready.kept.counted, ready.below)

  pub gives_sound : IsSound new
  gives_sound = subst IsSound (sym gives.after) (IsSound-given old class gives.place gives.bit gives.was sound fits ready gives.lowest bit_below)

  pub gives_adds : Adds old block new
  gives_adds =
      subst (λ pool. Adds old block pool) (sym gives.after)
      (subst (λ given_block. Adds old given_block (with_superblock old gives.place (given gives.was class gives.bit))) (sym gives.block_is)
      (Adds-given old class gives.place gives.bit gives.was sound fits ready gives.lowest bit_below))
