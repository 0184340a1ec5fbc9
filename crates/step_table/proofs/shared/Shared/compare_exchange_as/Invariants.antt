use Rattle.step_table.specs.Sound.{AreSound}
use Rattle.step_table.proofs.shared.Shared.compare_exchange_as.Given as goal

abbrev pub ghosts-compare_exchange_of : goal.ghosts-compare_exchange_of
ghosts-compare_exchange_of g a = record { at = g.W.Wish.at; told = λ n w. g.W.Wish.told n w × AreSound a.self.now.setup a.seat.now.me.0 w }
