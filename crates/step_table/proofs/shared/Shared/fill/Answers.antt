use Rattle.step_table.proofs.shared.Shared.fill.Goals as goal
use Rattle.schedule_rule.proofs.FillKinds.{fills-at}
use Rattle.step_table.specs.RecordHands.{word_of_record}
use Rattle.step_table.proofs.RecordStepping.{own-there, own-written, fill-at, fill-own, fill-filled}

pub own_word-lies-requires : goal.own_word-lies-requires
own_word-lies-requires c = fill-at c.args.self.now.setup.plan c.args.unit c.args.word c.args.pass.now.seat.me.0 c.requires.may

pub store_as-requires-clause-word : goal.store_as-requires-clause-word
store_as-requires-clause-word c =
    let g = c.args.self.now.setup.plan in
    record { place = c.own_word-lies.ensures; there = own-there g c.args.unit c.args.word (fill-at g c.args.unit c.args.word c.args.pass.now.seat.me.0 c.requires.may); written = own-written g c.args.word c.args.unit }

pub store_as-requires-clause-rule : goal.store_as-requires-clause-rule
store_as-requires-clause-rule c =
    let seat = c.args.pass.now.seat in let g = c.args.self.now.setup in let v = seat.me.0 in
    fills-at g seat.id v (word_of_record c.args.word c.args.unit) c.args.value (fill-own g.plan c.args.unit c.args.word v c.requires.may) (fill-filled g.plan c.args.unit c.args.word v c.requires.may)

pub returns-clause-view : goal.returns-clause-view
returns-clause-view c = let told = c.store_as.ensures.told in record { found = told.0; view_is = told.1 }
