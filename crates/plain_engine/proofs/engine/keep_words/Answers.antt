use Rattle.std.proofs.Common.{◌++◌, ◌∷◌, [], sym, ◌∙◌, ap, arith}
use Rattle.run_model.specs.Placing.{words_of}
use Rattle.plain_engine.proofs.Lists.{take_next}
use Rattle.plain_engine.proofs.engine.keep_words.Goals as goal

-- src/engine.rt:79:5
pub superblocks-preserved : goal.superblocks-preserved
superblocks-preserved c = record {
  kept = c.put.ensures.items
      ∙ (ap (λ xs. xs ++ c.word.result ∷ []) c.superblocks.invariant.kept ∙ sym (take_next (words_of c.args.records.now.pool) c.superblocks.superblock c.word.result c.word.ensures));
  room = omega (arith, c.superblocks.invariant.room, c.put.ensures.room);
  all = c.superblocks.invariant.all;
  few = c.superblocks.invariant.few;
}
