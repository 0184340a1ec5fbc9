use Rattle.frame_code.proofs.WordsOfBody.{words-again}
use Rattle.frame_code.proofs.laws.words_are_their_body.Goals as goal

pub returns : goal.returns
returns c = words-again
