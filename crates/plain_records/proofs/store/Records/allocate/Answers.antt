use Rattle.std.proofs.Common.{sym}
use Rattle.plain_records.specs.StoreView.{blocks_of, unit_words}
use Rattle.plain_records.proofs.Given.{allocates}
use Rattle.plain_records.proofs.store.Records.allocate.Goals as goal

-- src/references.rt:12:5
pub returns-clause-some : goal.returns-clause-some
returns-clause-some c = rw (sym c.self.view_is) (allocates c.self.inside.pool (blocks_of c.self.inside.classes.items) c.self.inside.records.items (unit_words c.self.inside.words.items) c.self.inside.ready c.args.class c.allocate.result c.allocate.new.self c.allocate.ensures.some c.allocate.ensures.adds)

-- src/references.rt:12:5
pub returns-clause-none : goal.returns-clause-none
returns-clause-none c = rw (sym c.self.view_is) c.allocate.ensures.none
