-- What holds of the text that is written.
use Rattle.task_writer.proofs.Vocabulary.{◌≡◌, ℕ, List, Ok, sym, ◌∙◌, ap, subst, IsWellFormed, Program, program_in, text_of, renumbered, IsCanonical}
use Rattle.task_writer.proofs.SameProgram.{prints_the_same}
use Rattle.task_writer.proofs.ReadBack.{reads_back}
use Rattle.task_writer.proofs.CanonicalText.{is_canonical}

pub written-reads-back : (p : Program) (bytes : List ℕ) → IsWellFormed p → bytes ≡ text_of p → program_in bytes ≡ Ok (renumbered p)
written-reads-back p bytes formed e = ap program_in e ∙ reads_back p formed

pub written-canonical : (p : Program) (bytes : List ℕ) → IsWellFormed p → bytes ≡ text_of p → IsCanonical bytes
written-canonical p bytes formed e = subst IsCanonical (sym e) (is_canonical p formed)

pub written-again : (p : Program) (bytes : List ℕ) → bytes ≡ text_of p → text_of (renumbered p) ≡ bytes
written-again p bytes e = prints_the_same p ∙ sym e
