use Rattle.step_table.specs.Sound.{AreSound}
use Rattle.step_table.proofs.shared.Shared.load_as.Given as goal

abbrev pub ghosts-load_of : goal.ghosts-load_of
ghosts-load_of g a = record { at = g.W.Wish.at; told = λ n w. g.W.Wish.told n w × AreSound a.self.now.setup a.seat.now.me.0 w }
