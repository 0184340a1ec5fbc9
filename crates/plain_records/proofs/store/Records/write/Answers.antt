use Rattle.std.proofs.Common.{◌∙◌, sym, ap}
use Rattle.plain_records.specs.StoreView.{store_of, blocks_of, unit_words}
use Rattle.plain_records.proofs.Behind.{written_behind}
use Rattle.plain_records.proofs.store.Records.write.Goals as goal

pub returns : goal.returns
returns c = rw (sym c.self.view_is) (ap (λ ws. store_of c.self.inside.pool (blocks_of c.self.inside.classes.items) c.self.inside.records.items ws c.self.inside.ready)
    (ap unit_words c.write_at.ensures
    ∙ written_behind c.args.at c.args.words.now c.self.inside.words.items c.self.invariant.before))
