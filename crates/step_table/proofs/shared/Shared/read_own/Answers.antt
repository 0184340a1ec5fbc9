use Rattle.step_table.proofs.shared.Shared.read_own.Goals as goal
use Rattle.schedule_rule.proofs.ReferenceKinds.{reads-at}
use Rattle.step_table.specs.RecordHands.{word_of_record}
use Rattle.step_table.proofs.RecordStepping.{own-there, own-written, read-at}

pub own_word-lies-requires : goal.own_word-lies-requires
own_word-lies-requires c = read-at c.args.self.now.setup.plan c.args.unit c.args.word c.args.pass.now.seat.me.0 c.requires.may

pub load_as-requires-clause-word : goal.load_as-requires-clause-word
load_as-requires-clause-word c =
    let g = c.args.self.now.setup.plan in
    record { place = c.own_word-lies.ensures; there = own-there g c.args.unit c.args.word (read-at g c.args.unit c.args.word c.args.pass.now.seat.me.0 c.requires.may); written = own-written g c.args.word c.args.unit }

pub load_as-requires-clause-rule : goal.load_as-requires-clause-rule
load_as-requires-clause-rule c = reads-at c.args.self.now.setup c.args.pass.now.seat.id c.args.pass.now.seat.me.0 (word_of_record c.args.word c.args.unit)

pub returns-clause-value : goal.returns-clause-value
returns-clause-value c = let told = c.load_as.ensures.told in record { known = told.1; view_is = told.0 }
