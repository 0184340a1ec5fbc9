use Rattle.std.proofs.Common.{codes, rules, refl}
use Rattle.clap.specs.Matches.{found_of}
use Rattle.tool_words.proofs.Rows.{first_got, none_got}
use Rattle.tool_words.proofs.numbers.size_in.Goals as goal

pub returns-in-Some : goal.returns-in-Some
returns-in-Some c = rw (first_got (found_of c.args.matches.now) (codes "number") c.in-Some.word.now c.in-Some.ensures) (search rules)

pub returns-in-None : goal.returns-in-None
returns-in-None c = rw (none_got (found_of c.args.matches.now) (codes "number") c.in-None.ensures) refl
