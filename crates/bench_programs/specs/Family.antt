-- The families of programs, their words, and the greatest number of each that is run to measure.
use Rattle.std.specs.Prelude.{◌≢◌, ℕ, List, Option, Some, None, codes, bytes_eq, if◌then◌else◌}
use Rattle.bench_programs.specs.declared.family.Family.{Family}
use Rattle.bench_programs.specs.declared.family.Family.TheVariants.{Fib, Grid, Chain}

abbrev pub word_of : Family → List ℕ
word_of Fib = codes "fib"
word_of Grid = codes "grid"
word_of Chain = codes "chain"

-- the family of a word
abbrev pub family_of : List ℕ → Option Family
family_of word =
    if bytes_eq word (codes "fib") then Some Fib else (
    if bytes_eq word (codes "grid") then Some Grid else (
    if bytes_eq word (codes "chain") then Some Chain else None))

-- the word is that of no family
abbrev pub IsUnknown : List ℕ → Type 0
IsUnknown word = (family : Family) → word ≢ word_of family

abbrev pub greatest_of : Family → ℕ
greatest_of Fib = 22
greatest_of Grid = 8
greatest_of Chain = 100000
