-- The commands, as `clap` reads the words after the first.
use Rattle.std.specs.Prelude.{true, codes, Some}
use Rattle.clap.specs.Walk.{Rule, Text}
use Rattle.clap.specs.Simple.{App, new_app, new_rule, on_top, with_rule}
use Rattle.clap.specs.declared.builder.action.ArgAction.TheVariants.{SetTrue}

-- a command without arguments: `--help` and `--version` are none of its words either
abbrev pub bare : Text → App
bare name = on_top (λ s. record s { disable_help_flag = true; disable_version_flag = true }) (new_app name)

-- a word in its place, which has to be there
abbrev pub required_rule : Text → Rule
required_rule name = record (new_rule name) { required = true }

-- a word in its place, which may be missing
abbrev pub optional_rule : Text → Rule
optional_rule name = new_rule name

-- `--NAME VALUE`
abbrev pub option_rule : Text → Rule
option_rule name = record (new_rule name) { long = Some name }

-- `--NAME`
abbrev pub flag_rule : Text → Rule
flag_rule name = record (new_rule name) { long = Some name; action = Some SetTrue }

abbrev pub with_required : Text → App → App
with_required name app = with_rule app (required_rule name)

abbrev pub with_option : Text → App → App
with_option name app = with_rule app (option_rule name)

-- `PROGRAM [COLUMNS] [--superblocks S] [--units U] [--limit L] [--trace]`
abbrev pub with_run_rules : App → App
with_run_rules app =
    let files = with_rule (with_required (codes "program") app) (optional_rule (codes "columns")) in
    let plan = with_option (codes "limit") (with_option (codes "units") (with_option (codes "superblocks") files)) in
    with_rule plan (flag_rule (codes "trace"))

abbrev pub plain_app : App
plain_app = with_run_rules (bare (codes "plain"))

-- the same and `[--workers N]`
abbrev pub run_app : App
run_app = with_option (codes "workers") (with_run_rules (bare (codes "run")))

-- `FAMILY N [--workers N]`
abbrev pub bench_app : App
bench_app = with_option (codes "workers") (with_required (codes "number") (with_required (codes "family") (bare (codes "bench"))))

-- `NAME PROGRAM`
abbrev pub program_app : Text → App
program_app name = with_required (codes "program") (bare name)

-- `help`
abbrev pub help_app : App
help_app = bare (codes "help")
