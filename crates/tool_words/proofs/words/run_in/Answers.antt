use Rattle.std.proofs.Common.{◌≡◌, None, codes}
use Rattle.clap.specs.Walk.{first_of, rows_of}
use Rattle.clap.specs.Matches.{found_of}
use Rattle.tool_words.proofs.Rows.{first_got, maybe_got, none_got}
use Rattle.tool_words.proofs.Runs.{without_program, without_plan, with_all}
use Rattle.tool_words.proofs.words.run_in.Goals as goal

pub returns-in_err-get_str : goal.returns-in_err-get_str
returns-in_err-get_str c =
    let none : first_of (codes "program") (rows_of (found_of c.args.matches.now)) ≡ None = none_got (found_of c.args.matches.now) (codes "program") c.in_err-get_str.ensures in
    rw c.from_residual.ensures (without_program (rows_of (found_of c.args.matches.now)) none)

pub returns-in_err-plan_in : goal.returns-in_err-plan_in
returns-in_err-plan_in c = rw c.from_residual-in_err-plan_in.ensures (without_plan (rows_of (found_of c.args.matches.now)) c.in_err-plan_in.ensures)

pub returns : goal.returns
returns c = with_all (rows_of (found_of c.args.matches.now)) _ _ _ _ _
    (first_got (found_of c.args.matches.now) (codes "program") _ c.in_ok-get_str.ensures) (maybe_got (found_of c.args.matches.now) (codes "columns") c.get_str-2.result c.get_str-2.ensures)
    c.in_ok-workers_in.ensures c.in_ok-plan_in.ensures c.has_flag.ensures
