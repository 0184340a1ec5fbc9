-- The text of `help`.
use Rattle.std.specs.Prelude.{ℕ, List, [], ◌∷◌, codes}
use Rattle.std.specs.List.{flat_map}
use Rattle.ktask_cli.specs.Stop.{ended}

-- a line for each command
abbrev pub help_lines : List (List ℕ)
help_lines =
    codes "ktask run PROGRAM [COLUMNS] [--workers N] [--superblocks S] [--units U] [--limit L] [--trace]"
    ∷ codes "ktask bench FAMILY N [--workers N]"
    ∷ codes "ktask plain PROGRAM [COLUMNS] [--superblocks S] [--units U] [--limit L] [--trace]"
    ∷ codes "ktask check PROGRAM"
    ∷ codes "ktask print PROGRAM"
    ∷ codes "ktask help"
    ∷ []

abbrev pub help_text : List ℕ
help_text = flat_map ended help_lines
