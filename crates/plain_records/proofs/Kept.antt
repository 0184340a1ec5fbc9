-- What the records keep, of the fields that they are kept in.
use Rattle.std.proofs.Common.{◌≡◌, ℕ, zero, suc, ◌+◌, ◌*◌, ◌∙◌, Option, None, List, [], ◌∷◌, length, replicate, refl, sym, ap, arith}
use Rattle.std.specs.Prelude.{slice_set}
use Rattle.std.proofs.lemmas.List.{length-replicate}
use Rattle.pool_core.specs.Pool.{PoolState, unused_pool}
use Rattle.run_model.specs.State.{no_queues}
use Rattle.plain_state.specs.declared.record.Record.{Record}
use Rattle.plain_state.specs.Store.{no_record}
use Rattle.plain_records.specs.Ready.{ReadyState}
use Rattle.plain_records.specs.StoreView.{AreRecords, blocks_of, unit_words}
use Rattle.plain_records.proofs.Blocks.{blocks_length}
use Rattle.plain_records.proofs.Behind.{none_written}

-- a member that is replaced leaves as many
set_length : {A : Type 0} (xs : List A) (at : ℕ) (x : A) → length (slice_set xs at x) ≡ length xs
set_length [] at x = cc
set_length (y ∷ xs) zero x = cc
set_length (y ∷ xs) (suc at) x = ap suc (set_length xs at x)

-- they are kept where a record is made in a block
pub made_are : (superblocks : ℕ) (pool : PoolState) (classes : List (Option ℕ)) (records : List Record) (words : List ℕ) (ready : ReadyState) (unit : ℕ) (class : Option ℕ) (k : Record)
    → AreRecords superblocks pool (blocks_of classes) records words ready → AreRecords superblocks pool (blocks_of (slice_set classes unit class)) (slice_set records unit k) words ready
made_are superblocks pool classes records words ready unit class k are =
    let as_many : length (slice_set records unit k) ≡ length records = set_length records unit k in
    let blocks : length (blocks_of (slice_set classes unit class)) ≡ length (blocks_of classes)
    = blocks_length (slice_set classes unit class) ∙ set_length classes unit class ∙ sym (blocks_length classes) in
    record {
      shaped = record { units = as_many ∙ are.shaped.units; of_blocks = blocks ∙ are.shaped.of_blocks ∙ sym as_many; of_words = are.shaped.of_words ∙ ap (λ n. n * 8) (sym as_many) };
      before = are.before;
      of_superblocks = are.of_superblocks;
      of_ready = are.of_ready ∙ sym as_many;
    }

-- they are kept at first
pub new_are : (superblocks units : ℕ) (pool : PoolState) (classes : List (Option ℕ)) (records : List Record) (words : List ℕ) (ready : ReadyState)
    → pool ≡ unused_pool superblocks units → classes ≡ replicate (superblocks * units) None → records ≡ replicate (superblocks * units) no_record
    → words ≡ replicate (superblocks * units * 8 + 6) 0 → ready ≡ record { queues = no_queues; capacity = superblocks * units }
    → AreRecords superblocks pool (blocks_of classes) records words ready
new_are superblocks units pool classes records words ready is_pool are_classes are_records are_words is_ready =
    let many : length records ≡ superblocks * units = ap length are_records ∙ length-replicate (superblocks * units) no_record in
    let places : length pool.superblocks ≡ superblocks = ap (λ (p : PoolState). length p.superblocks) is_pool ∙ length-replicate superblocks _ in
    let of_units : pool.units ≡ units = ap (λ (p : PoolState). p.units) is_pool in
    let blocks : length (blocks_of classes) ≡ superblocks * units = blocks_length classes ∙ ap length are_classes ∙ length-replicate (superblocks * units) None in
    let of_words : length (unit_words words) ≡ superblocks * units * 8
    = ap (λ ws. length (unit_words ws)) are_words ∙ ap length (none_written (superblocks * units)) ∙ length-replicate (superblocks * units * 8) 0 in
    let all : length words ≡ superblocks * units * 8 + 6 = ap length are_words ∙ length-replicate (superblocks * units * 8 + 6) 0 in
    record {
      shaped = record { units = many ∙ sym (rw (places, of_units) refl); of_blocks = blocks ∙ sym many; of_words = of_words ∙ ap (λ n. n * 8) (sym many) };
      before = omega (arith, all);
      of_superblocks = sym places;
      of_ready = ap (λ (r : ReadyState). r.capacity) is_ready ∙ sym many;
    }
