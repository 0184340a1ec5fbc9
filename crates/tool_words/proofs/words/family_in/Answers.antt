use Rattle.std.proofs.Common.{codes, refl}
use Rattle.clap.specs.Matches.{found_of}
use Rattle.tool_words.proofs.Rows.{first_got, none_got}
use Rattle.tool_words.proofs.words.family_in.Goals as goal

pub returns-in-Some : goal.returns-in-Some
returns-in-Some c = rw (first_got (found_of c.args.matches.now) (codes "family") c.in-Some.word.now c.in-Some.ensures) c.of_word.ensures.exact

pub returns-in-None : goal.returns-in-None
returns-in-None c = rw (none_got (found_of c.args.matches.now) (codes "family") c.in-None.ensures) refl
