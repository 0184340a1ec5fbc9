-- A block that the pool gives is given by the store.
use Rattle.std.proofs.Common.{ℕ, Option, Some, None, List, IfSome, refl}
use Rattle.pool_core.specs.Blocks.{BlockState}
use Rattle.pool_core.specs.Pool.{PoolState, Gives, Adds}
use Rattle.plain_state.specs.declared.record.Record.{Record}
use Rattle.plain_records.specs.Allocated.{Allocates}
use Rattle.plain_records.specs.Ready.{ReadyState}
use Rattle.plain_records.specs.StoreView.{store_of}

pub allocates : (pool : PoolState) (blocks : List (Option BlockState)) (records : List Record) (words : List ℕ) (ready : ReadyState) (class : ℕ) (given : Option BlockState) (new : PoolState)
    → IfSome given (λ block. Gives pool class block new) → IfSome given (λ block. Adds pool block new)
    → IfSome given (λ block. Allocates (store_of pool blocks records words ready) class block (store_of new blocks records words ready))
allocates pool blocks records words ready class None new gives adds = gives
allocates pool blocks records words ready class (Some block) new gives adds = record { pool = new; gives = gives; after = refl; out = adds.is_out }
