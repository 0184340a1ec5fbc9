use Rattle.step_table.specs.RecordHands.{word_of_record}
use Rattle.step_table.proofs.SeeingStepping.{TellsKnown}
use Rattle.step_table.proofs.shared.Shared.read_known.Given as goal

abbrev pub ghosts-load_as : goal.ghosts-load_as
ghosts-load_as a = let at = word_of_record a._about.now.1 a._about.now.0 in record { at = at; told = TellsKnown at a.seat.now.me.0 }
