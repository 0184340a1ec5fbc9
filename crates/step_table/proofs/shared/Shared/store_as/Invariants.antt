use Rattle.step_table.specs.Sound.{AreSound}
use Rattle.step_table.proofs.shared.Shared.store_as.Given as goal

abbrev pub ghosts-store_of : goal.ghosts-store_of
ghosts-store_of g a = record { at = g.W.Wish.at; told = λ n w. g.W.Wish.told n w × AreSound a.self.now.setup a.seat.now.me.0 w }
