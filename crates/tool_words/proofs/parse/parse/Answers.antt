use Rattle.std.proofs.Common.{map, string_bytes}
use Rattle.clap.specs.Simple.{app_of}
use Rattle.clap.specs.Values.{kind_of}
use Rattle.tool_words.proofs.Parsed.{taken, refused}
use Rattle.tool_words.proofs.parse.parse.Goals as goal

pub returns-in-Ok : goal.returns-in-Ok
returns-in-Ok c = taken (app_of c.args.command) (map string_bytes c.args.words.now) c.in-Ok.matches c.requires c.in-Ok.ensures.matches (c.in-Ok.ensures.kinds c.requires)

pub returns-in-Err : goal.returns-in-Err
returns-in-Err c = rw c.words_error.ensures (refused (app_of c.args.command) (map string_bytes c.args.words.now) (kind_of c.in-Err.error) (c.in-Err.ensures.kinds c.requires))
