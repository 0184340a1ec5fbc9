use Rattle.std.proofs.Common.{◌∙◌, map, string_bytes, option_and_then, ap, sym}
use Rattle.tool_words.specs.Choice.{bench_in, rows_by}
use Rattle.tool_words.proofs.words.bench_by.Goals as goal

pub returns-in-Some : goal.returns-in-Some
returns-in-Some c =
    ap (λ app. option_and_then bench_in (rows_by app (map string_bytes c.args.words.now))) (sym c.in_ok-command.ensures)
    ∙ (ap (option_and_then bench_in) c.in_ok-matches.ensures ∙ sym c.in-Some.ensures)
