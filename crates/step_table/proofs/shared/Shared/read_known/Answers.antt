use Rattle.step_table.proofs.shared.Shared.read_known.Goals as goal
use Rattle.step_table.specs.RecordHands.{word_of_record}
use Rattle.step_table.proofs.RecordStepping.{own-there, own-written}
use Rattle.step_table.proofs.SeeingStepping.{knows-value}

pub own_word-lies-requires : goal.own_word-lies-requires
own_word-lies-requires c = c.requires.may.at

pub load_as-requires-clause-word : goal.load_as-requires-clause-word
load_as-requires-clause-word c =
    record {
      place = c.own_word-lies.ensures;
      there = own-there c.args.self.now.setup.plan c.args.unit c.args.word c.requires.may.at;
      written = own-written c.args.self.now.setup.plan c.args.word c.args.unit;
    }

pub load_as-requires-clause-rule : goal.load_as-requires-clause-rule
load_as-requires-clause-rule c =
    let seat = c.args.pass.now.seat in let may = c.requires.may in
    knows-value c.args.self.now.setup seat.id seat.me.0 (word_of_record c.args.word c.args.unit) may.value may.known

pub returns-clause-value : goal.returns-clause-value
returns-clause-value c =
    let told = c.load_as.ensures.told in let may = c.requires.may in record { known = told.1 may.value may.known; view_is = told.0 }
