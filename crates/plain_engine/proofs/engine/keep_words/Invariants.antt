use Rattle.std.proofs.Common.{◌≡◌, ◌≤◌, length, take, vec_capacity}
use Rattle.run_model.specs.Placing.{words_of}
use Rattle.plain_engine.proofs.engine.keep_words.Given as goal

abbrev pub invariant-superblocks : goal.invariant-superblocks
invariant-superblocks l = record {
  kept : l.words.items ≡ take l.superblock (words_of l.records.pool);
  room : vec_capacity l.initial.words ≤ vec_capacity l.words;
  all : l.superblock-end ≡ length l.records.pool.superblocks;
  few : length l.records.pool.superblocks ≤ 1024;
}
