use Rattle.step_table.specs.Sound.{AreSound}
use Rattle.step_table.proofs.shared.Shared.swap_as.Given as goal

abbrev pub ghosts-swap_of : goal.ghosts-swap_of
ghosts-swap_of g a = record { at = g.W.Wish.at; told = λ n w. g.W.Wish.told n w × AreSound a.self.now.setup a.seat.now.me.0 w }
