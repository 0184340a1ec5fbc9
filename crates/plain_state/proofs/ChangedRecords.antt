-- Records after one of them changed.
use Rattle.std.proofs.Common.{◌≡◌, ◌≢◌, ℕ, zero, suc, ◌*◌, ◌/◌, ◌%◌, Bool, true, false, cond, nat_eq, Option, Some, None, List, [], ◌∷◌, length, slice_get, slice_set, refl, sym, ◌∙◌, ap, eq-eqb}
use Rattle.std.proofs.lemmas.Bool.{eqb-true}
use Rattle.std.proofs.lemmas.Option.{none-some, same_Some}
use Rattle.kt_words.specs.Capacity.{block_units}
use Rattle.pool_core.specs.Blocks.{BlockState}
use Rattle.pool_core.specs.Superblocks.{SuperblockState, taken_back}
use Rattle.pool_core.specs.Pool.{PoolState}
use Rattle.record_core.specs.Numbers.{flat}
use Rattle.plain_state.specs.declared.record.Record.{Record}
use Rattle.plain_state.specs.Store.{StoreState, IsShaped, changed_in, changed_at, changed, less, is_last, taken_from, without_block, given_back_if, given_back, let_go}

-- a list after a write to one place
pub set_length : {A : Type 0} (xs : List A) (n : ℕ) (x : A) → length (slice_set xs n x) ≡ length xs
set_length [] n x = refl
set_length (y ∷ xs) zero x = refl
set_length (y ∷ xs) (suc n) x = ap suc (set_length xs n x)

-- what was written stands there
pub set_same : {A : Type 0} (xs : List A) (n : ℕ) (old x : A) → slice_get xs n ≡ Some old → slice_get (slice_set xs n x) n ≡ Some x
set_same [] n old x e = absurd (none-some old e)
set_same (y ∷ xs) zero old x e = refl
set_same (y ∷ xs) (suc n) old x e = set_same xs n old x e

-- the other places stay
pub set_other : {A : Type 0} (xs : List A) (n m : ℕ) (x : A) → m ≢ n → slice_get (slice_set xs n x) m ≡ slice_get xs m
set_other [] n m x differ = refl
set_other (y ∷ xs) zero zero x differ = absurd (differ refl)
set_other (y ∷ xs) zero (suc m) x differ = refl
set_other (y ∷ xs) (suc n) zero x differ = refl
set_other (y ∷ xs) (suc n) (suc m) x differ = set_other xs n m x (λ e. differ (ap suc e))

-- to write what stands there changes nothing
pub set_itself : {A : Type 0} (xs : List A) (n : ℕ) (x : A) → slice_get xs n ≡ Some x → slice_set xs n x ≡ xs
set_itself [] n x e = refl
set_itself (y ∷ xs) zero x e = ap (λ z. z ∷ xs) (sym (same_Some y x e))
set_itself (y ∷ xs) (suc n) x e = ap (λ zs. y ∷ zs) (set_itself xs n x e)

-- the record at the unit is changed
pub changed_is : (f : Record → Record) (unit : ℕ) (records : List Record) (k : Record) → slice_get records unit ≡ Some k
    → changed_at f unit records ≡ slice_set records unit (f k)
changed_is f unit records k there = ap (changed_in f unit records) there

-- so the changed record stands there
pub changed_same : (f : Record → Record) (unit : ℕ) (records : List Record) (k : Record) → slice_get records unit ≡ Some k
    → slice_get (changed_at f unit records) unit ≡ Some (f k)
changed_same f unit records k there = ap (λ rs. slice_get rs unit) (changed_is f unit records k there) ∙ set_same records unit k (f k) there

-- the others stay
pub changed_other : (f : Record → Record) (unit at : ℕ) (records : List Record) → at ≢ unit
    → slice_get (changed_at f unit records) at ≡ slice_get records at
changed_other f unit at records differ = by (slice_get records unit)
  where
    by : (o : Option Record) → slice_get (changed_in f unit records o) at ≡ slice_get records at
    by None = refl
    by (Some k) = set_other records unit at (f k) differ

-- there are as many records
pub changed_length : (f : Record → Record) (unit : ℕ) (records : List Record) → length (changed_at f unit records) ≡ length records
changed_length f unit records = by (slice_get records unit)
  where
    by : (o : Option Record) → length (changed_in f unit records o) ≡ length records
    by None = refl
    by (Some k) = set_length records unit (f k)

-- the store keeps its shape
pub changed_shaped : (f : Record → Record) (unit : ℕ) (s : StoreState) → IsShaped s → IsShaped (changed f unit s)
changed_shaped f unit s shaped = record {
  units = changed_length f unit s.records ∙ shaped.units;
  of_blocks = shaped.of_blocks ∙ sym (changed_length f unit s.records);
  of_words = shaped.of_words ∙ ap (λ n. n * 8) (sym (changed_length f unit s.records));
}

-- a block that goes back leaves the size of the pool
pub without_units : (pool : PoolState) (block : BlockState) → (without_block pool block).units ≡ pool.units
without_units pool block = by (slice_get pool.superblocks (block.unit / pool.units))
  where
    by : (o : Option SuperblockState) → (taken_from pool block (block.unit / pool.units) o).units ≡ pool.units
    by None = refl
    by (Some was) = refl

-- and as many superblocks
pub without_length : (pool : PoolState) (block : BlockState) → length (without_block pool block).superblocks ≡ length pool.superblocks
without_length pool block = by (slice_get pool.superblocks (block.unit / pool.units))
  where
    by : (o : Option SuperblockState) → length (taken_from pool block (block.unit / pool.units) o).superblocks ≡ length pool.superblocks
    by None = refl
    by (Some was) = set_length pool.superblocks (block.unit / pool.units) (taken_back was (block.unit % pool.units / block_units block.class))

-- what is given back leaves records, words and queues
pub back_is : (unit : ℕ) (s : StoreState) (block : BlockState) → slice_get s.blocks unit ≡ Some (Some block)
    → given_back unit s ≡ record s { pool = without_block s.pool block; blocks = slice_set s.blocks unit None }
back_is unit s block has = ap (λ o. given_back_if unit s (flat o)) has

-- and the store keeps its shape
pub back_shaped : (unit : ℕ) (s : StoreState) → IsShaped s → IsShaped (given_back unit s)
back_shaped unit s shaped = by (flat (slice_get s.blocks unit))
  where
    by : (o : Option BlockState) → IsShaped (given_back_if unit s o)
    by None = shaped
    by (Some block) = record {
      units = shaped.units ∙ ap (λ n. n * s.pool.units) (sym (without_length s.pool block))
          ∙ ap (λ n. length (without_block s.pool block).superblocks * n) (sym (without_units s.pool block));
      of_blocks = set_length s.blocks unit None ∙ shaped.of_blocks;
      of_words = shaped.of_words;
    }

-- a reference that is let go: the last one gives the block back, and another one does not
pub let_go_last : (unit : ℕ) (s : StoreState) (k : Record) → slice_get s.records unit ≡ Some k → k.references ≡ 1
    → let_go unit s ≡ given_back unit (changed less unit s)
let_go_last unit s k there one = ap (λ o. cond (is_last o) (given_back unit (changed less unit s)) (changed less unit s)) there
    ∙ ap (λ x. cond x (given_back unit (changed less unit s)) (changed less unit s)) (eq-eqb k.references 1 one)

-- where another reference is left, only the record changes
pub let_go_more : (unit : ℕ) (s : StoreState) (k : Record) → slice_get s.records unit ≡ Some k → k.references ≢ 1
    → let_go unit s ≡ changed less unit s
let_go_more unit s k there many = ap (λ o. cond (is_last o) (given_back unit (changed less unit s)) (changed less unit s)) there
    ∙ by (nat_eq k.references 1) refl
  where
    by : (x : Bool) → nat_eq k.references 1 ≡ x → cond x (given_back unit (changed less unit s)) (changed less unit s) ≡ changed less unit s
    by true e = absurd (many (eqb-true k.references 1 e))
    by false e = refl

-- the records after that
pub let_go_records : (unit : ℕ) (s : StoreState) → (let_go unit s).records ≡ changed_at less unit s.records
let_go_records unit s = by (is_last (slice_get s.records unit))
  where
    back : (o : Option BlockState) → (given_back_if unit (changed less unit s) o).records ≡ changed_at less unit s.records
    back None = refl
    back (Some block) = refl

    by : (x : Bool) → (cond x (given_back unit (changed less unit s)) (changed less unit s)).records ≡ changed_at less unit s.records
    by true = back (flat (slice_get s.blocks unit))
    by false = refl

-- the words and the queues stay
pub let_go_words : (unit : ℕ) (s : StoreState) → (let_go unit s).words ≡ s.words
let_go_words unit s = by (is_last (slice_get s.records unit))
  where
    back : (o : Option BlockState) → (given_back_if unit (changed less unit s) o).words ≡ s.words
    back None = refl
    back (Some block) = refl

    by : (x : Bool) → (cond x (given_back unit (changed less unit s)) (changed less unit s)).words ≡ s.words
    by true = back (flat (slice_get s.blocks unit))
    by false = refl

-- the queues stay
pub let_go_ready : (unit : ℕ) (s : StoreState) → (let_go unit s).ready ≡ s.ready
let_go_ready unit s = by (is_last (slice_get s.records unit))
  where
    back : (o : Option BlockState) → (given_back_if unit (changed less unit s) o).ready ≡ s.ready
    back None = refl
    back (Some block) = refl

    by : (x : Bool) → (cond x (given_back unit (changed less unit s)) (changed less unit s)).ready ≡ s.ready
    by true = back (flat (slice_get s.blocks unit))
    by false = refl

-- and the store keeps its shape
pub let_go_shaped : (unit : ℕ) (s : StoreState) → IsShaped s → IsShaped (let_go unit s)
let_go_shaped unit s shaped = by (is_last (slice_get s.records unit))
  where
    by : (x : Bool) → IsShaped (cond x (given_back unit (changed less unit s)) (changed less unit s))
    by true = back_shaped unit (changed less unit s) (changed_shaped less unit s shaped)
    by false = changed_shaped less unit s shaped
