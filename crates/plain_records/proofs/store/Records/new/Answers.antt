use Rattle.plain_records.proofs.Kept.{new_are}
use Rattle.plain_records.proofs.store.Records.new.Goals as goal

pub invariant_of-result : goal.invariant_of-result
invariant_of-result c = new_are c.args.geometry.superblocks c.args.geometry.units c.in_ok-pool.pool c.in_ok-classes.classes.items c.in_ok-records.records.items c.in_ok-words.words.items c.in_ok-ready.ready
    c.in_ok-pool.ensures.unused c.in_ok-classes.ensures c.in_ok-records.ensures (c.in_ok-words.ensures.items_if_clones_equal (λ y same. same)) c.in_ok-ready.ensures
