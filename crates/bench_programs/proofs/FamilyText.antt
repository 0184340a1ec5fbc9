-- The canonical text of a family's program, and its line numbers.
use Rattle.std.proofs.Common.{◌≡◌, ℕ, ◌<◌, ◌≤◌, ◌^◌, List, [], ◌∷◌, ◌++◌, length, Ok, refl, ap, ◌∙◌, decimal, arith, length-append}
use Rattle.std.proofs.lemmas.Fmt.{length-decimal-le, decimal_digit}
use Rattle.task_syntax.specs.Form.{IsWellFormed}
use Rattle.task_reader.specs.Read.{program_in}
use Rattle.task_writer.specs.Lines.{lines_of_program, kind_lines, state_lines, root_line, step_of}
use Rattle.task_writer.specs.Text.{text_of, text_of_lines, line_text, parted, spaced}
use Rattle.task_writer.specs.Numbering.{renumbered, numbered_kinds, numbered_kind, numbered_states, numbered_code, numbered_roots}
use Rattle.task_writer.proofs.ReadBack.{reads_back}
use Rattle.bench_programs.specs.declared.family.Family.{Family}
use Rattle.bench_programs.specs.declared.family.Family.TheVariants.{Fib, Grid, Chain}
use Rattle.bench_programs.specs.Programs.{family_program}
use Rattle.bench_programs.specs.Parts.{front_of, back_of}

-- the end of the root's line, where the number is its last word
last_word : (digits : List ℕ) → ((digits ++ []) ++ 10 ∷ []) ++ [] ≡ digits ++ 10 ∷ []
last_word [] = refl
last_word (digit ∷ digits) = ap (λ more. digit ∷ more) (last_word digits)

-- the same where one more word stands behind the number
one_more_word : (digits : List ℕ) → ((digits ++ 32 ∷ 48 ∷ []) ++ 10 ∷ []) ++ [] ≡ digits ++ 32 ∷ 48 ∷ 10 ∷ []
one_more_word [] = refl
one_more_word (digit ∷ digits) = ap (λ more. digit ∷ more) (one_more_word digits)

-- the words of the numbers that the programs have
zero_word : decimal 0 ≡ 48 ∷ []
zero_word = decimal_digit 0 (omega arith)

one : decimal 1 ≡ 49 ∷ []
one = decimal_digit 1 (omega arith)

two : decimal 2 ≡ 50 ∷ []
two = decimal_digit 2 (omega arith)

-- the text of a program is its front, the number, and what stands behind it
pub text-parts : (family : Family) (n : ℕ) → text_of (family_program family n) ≡ front_of family ++ (decimal n ++ back_of family)
unfolding text_of lines_of_program kind_lines state_lines root_line step_of text_of_lines line_text parted spaced
text-parts Fib n = rw (one, two) (ap (λ more. front_of Fib ++ more) (last_word (decimal n)))
text-parts Grid n = rw (zero_word, one) (ap (λ more. front_of Grid ++ more) (last_word (decimal n)))
text-parts Chain n = rw (zero_word, one) (ap (λ more. front_of Chain ++ more) (one_more_word (decimal n)))

-- each line of a program has the number that it has in the text
pub renumbered-same : (family : Family) (n : ℕ) → renumbered (family_program family n) ≡ family_program family n
unfolding renumbered numbered_kinds numbered_kind numbered_states numbered_code numbered_roots kind_lines state_lines
renumbered-same Fib n = refl
renumbered-same Grid n = refl
renumbered-same Chain n = refl

-- reading the text gives the program itself
pub text-reads-back : (family : Family) (n : ℕ) → IsWellFormed (family_program family n) → program_in (text_of (family_program family n)) ≡ Ok (family_program family n)
text-reads-back family n formed = reads_back (family_program family n) formed ∙ ap Ok (renumbered-same family n)

-- how long the fixed parts of the texts are
fits-front : (family : Family) → (length (front_of family) ≤ 370) × (length (back_of family) ≤ 3)
fits-front Fib = (omega arith, omega arith)
fits-front Grid = (omega arith, omega arith)
fits-front Chain = (omega arith, omega arith)

-- a number that fits 64 bits has at most 20 digits
pub text-fits : (family : Family) (n : ℕ) → n < 2 ^ 64 → length (text_of (family_program family n)) ≤ 400
text-fits family n small = let digits : length (decimal n) ≤ 20 = length-decimal-le 20 n (omega arith) (omega arith) small in
    let e = ap length (text-parts family n) in
    let f = length-append (front_of family) (decimal n ++ back_of family) in
    let g = length-append (decimal n) (back_of family) in
    let h = fits-front family in
    omega arith
