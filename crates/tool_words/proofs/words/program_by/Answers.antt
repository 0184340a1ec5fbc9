use Rattle.std.proofs.Common.{map, string_bytes, codes}
use Rattle.clap.specs.Matches.{found_of}
use Rattle.clap.specs.Simple.{app_of}
use Rattle.clap.specs.Walk.{rows_of}
use Rattle.tool_words.proofs.Parsed.{program_named}
use Rattle.tool_words.proofs.Rows.{first_got, none_got}
use Rattle.tool_words.proofs.words.program_by.Goals as goal

pub returns-in-Some : goal.returns-in-Some
returns-in-Some c = program_named c.args.name.now (map string_bytes c.args.words.now) (app_of c.in_ok-command.command) (rows_of (found_of c.in_ok-matches.matches)) _
    c.in_ok-command.ensures c.in_ok-matches.ensures (first_got (found_of c.in_ok-matches.matches) (codes "program") _ c.in-Some.ensures)

pub returns : goal.returns
returns c = program_named c.args.name.now (map string_bytes c.args.words.now) (app_of c.in_ok-command.command) (rows_of (found_of c.in_ok-matches.matches)) _
    c.in_ok-command.ensures c.in_ok-matches.ensures (none_got (found_of c.in_ok-matches.matches) (codes "program") c.in-None.ensures)
